use Rattle.std.proofs.Common.{arith}
use Rattle.am_gate.specs.Circuit.{truth}
use Rattle.am_gate.specs.Build.{place_of}
use Rattle.am_gate.proofs.Laws.{Grows-trans, Begins-trans, GivesStep-Follows}
use Rattle.am_blast.proofs.Equality.{Makes-equal_from, Follows-equal_from_at, Follows-equal_from_end}
use Rattle.am_blast.proofs.equal.is_equal.Goals as goal

pub loop-i-preserved : goal.loop-i-preserved
loop-i-preserved c = record {
  follows = λ r end h. c.loop-i.invariant.follows r end
      (Follows-equal_from_at c.loop-i.i c.loop-i.equal c.index-a-i.result c.index-b-i.result c.in_ok-differ.differ
      c.in_ok-equal.equal c.args.a.now c.args.b.now _ _ _ _ _
      (omega arith) (omega (arith, c.requires.words.lengths)) c.index-a-i.is c.index-b-i.is
      c.in_ok-differ.ensures.ok.follows (rw c.opposite.ensures at c.in_ok-equal.ensures.ok.follows) h);
  inside = c.in_ok-equal.ensures.ok.given;
  grows =
      Grows-trans _ c.loop-i.invariant.grows
      (Grows-trans 2 c.in_ok-differ.ensures.ok.grows c.in_ok-equal.ensures.ok.grows (omega arith)) (omega arith);
  begins =
      Begins-trans c.loop-i.invariant.begins (Begins-trans c.in_ok-differ.ensures.begins c.in_ok-equal.ensures.begins);
}

pub returns-clause-ok : goal.returns-clause-ok
returns-clause-ok c =
    GivesStep-Follows
    (Makes-equal_from truth c.args.a.now c.args.b.now (place_of c.args.circuit.now) c.requires.words.lengths
    (rw c.truth-equal.ensures.truth at c.truth-equal.ensures.inside) c.requires.words.first c.requires.words.second)
    (c.loop-i.invariant.follows _ c.loop-i.circuit
    (Follows-equal_from_end c.loop-i.i c.loop-i.equal c.args.a.now c.args.b.now c.loop-i.circuit (omega arith)))
