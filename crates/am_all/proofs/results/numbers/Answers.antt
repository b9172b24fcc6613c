use Rattle.std.proofs.Common.{ap, sym, ◌∙◌, arith}
use Rattle.std.specs.Prelude.{slice_index}
use Rattle.am_all.specs.inside.Numbers.{tuple_number}
use Rattle.am_all.specs.declared.candidates.Candidate.{Candidate}
use Rattle.am_all.proofs.ChoiceLaws.{map-map}
use Rattle.am_all.proofs.results.numbers.Goals as goal

pub returns : goal.returns
returns c = record {
  counted = omega (arith, c.loop-i.invariant.counted, c.loop-i-test.false, c.loop-i.auto.i-end);
  each = λ i l.
      c.loop-i.invariant.each i (omega (arith, l, c.loop-i-test.false))
      ∙ ap (tuple_number c.args.w) (sym
      (map-map (λ (d : Candidate). slice_index d.values i) (λ d. d.now) c.args.tuple.now));
}
