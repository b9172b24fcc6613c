use Rattle.std.proofs.Common.{◌≡◌, ◌+◌, arith, length, length-take, subst}
use Rattle.am_io.proofs.Bytes.{Loses-more, LosesAtMost-more}
use Rattle.am_io.specs.Streams.{Loses}
use Rattle.am_io.proofs.reading.read_all.Goals as goal

pub returns-then-count-limit-clause-long : goal.returns-then-count-limit-clause-long
returns-then-count-limit-clause-long g c =
    let exact : length c.reading.text.items + c.in_ok-count.count ≡ c.args.limit + 1 =
    omega (
      arith,
      c.in_ok-count.ensures.bound.0,
      c.in_ok-count.ensures.bound.1,
      length-take c.wanted-want.result c.reading.buffer,
    ) in
    λ _. subst (Loses _ _) exact
    (Loses-more _ _ _ c.reading.text.items c.take.new.into c.in_ok-count.count
    c.reading.invariant.bytes c.in_ok-count.ensures.bytes.0 c.in_ok-count.ensures.bound.0)

pub returns-in_err-extend_from_slice-clause-not_long : goal.returns-in_err-extend_from_slice-clause-not_long
returns-in_err-extend_from_slice-clause-not_long g c = λ _.
    LosesAtMost-more _ _ _ c.reading.text.items c.take.new.into c.in_ok-count.count _
    c.reading.invariant.bytes c.in_ok-count.ensures.bytes.0 c.in_ok-count.ensures.bound.0
    (omega (arith, c.in_ok-count.ensures.bound.0))
