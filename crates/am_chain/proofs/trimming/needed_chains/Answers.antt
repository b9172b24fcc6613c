use Rattle.std.proofs.Common.{◌≡◌, length, ap, sym, ◌∙◌, arith}
use Rattle.am_chain.specs.inside.Marks.{mark_at}
use Rattle.am_chain.proofs.Needing.{all_passed, none_passed, written}
use Rattle.am_chain.proofs.trimming.needed_chains.Goals as goal

pub loop-k-init : goal.loop-k-init
loop-k-init c = record {
  in_range = omega arith;
  len = c.in_ok-needed.ensures.len ∙ c.len.ensures;
  needed =
      none_passed c.args.given c.len-k.result c.args.log.now (mark_at c.in_ok-needed.needed.items) c.len-k.ensures
      (rw (c.len.ensures ∙ sym c.len-k.ensures) at c.in_ok-needed.ensures.last);
}

pub loop-k-preserved : goal.loop-k-preserved
loop-k-preserved c =
    let same : length c.pass_on.new.needed ≡ length c.loop-k.needed.items =
    omega (arith, ap length c.as_mut_slice.ensures.value) in
    let back = written c.loop-k.needed.len c.pass_on.new.needed c.loop-k.needed.items
    (omega (arith, same, c.loop-k.needed.ok.0)) in
    rw back (record {
      in_range = omega (arith, c.loop-k.invariant.in_range);
      len = same ∙ c.loop-k.invariant.len;
      needed = c.pass_on.ensures;
    })

pub returns-clause-needed : goal.returns-clause-needed
returns-clause-needed c =
    all_passed c.args.given c.loop-k.k c.args.log.now (mark_at c.loop-k.needed.items) c.loop-k-test.false
    c.loop-k.invariant.needed
