use Rattle.std.proofs.Common.{arith}
use Rattle.am_gate.specs.Circuit.{falsity}
use Rattle.am_gate.specs.Build.{place_of}
use Rattle.am_gate.proofs.Laws.{Grows-trans, Begins-trans, GivesStep-Follows}
use Rattle.am_blast.proofs.Equality.{Makes-nonzero_from, Follows-nonzero_from_at, Follows-nonzero_from_end}
use Rattle.am_blast.proofs.equal.is_nonzero.Goals as goal

pub loop-l-preserved : goal.loop-l-preserved
loop-l-preserved c = record {
  follows = λ r end h. c.loop-l.invariant.follows r end
      (Follows-nonzero_from_at c.loop-l.l-index c.loop-l.nonzero c.l-item.result c.in_ok-nonzero.nonzero c.args.a.now _
      _ _ _
      (omega arith) c.l-item.is c.in_ok-nonzero.ensures.ok.follows h);
  inside = c.in_ok-nonzero.ensures.ok.given;
  grows = Grows-trans _ c.loop-l.invariant.grows c.in_ok-nonzero.ensures.ok.grows (omega arith);
  begins = Begins-trans c.loop-l.invariant.begins c.in_ok-nonzero.ensures.begins;
}

pub returns-clause-ok : goal.returns-clause-ok
returns-clause-ok c =
    GivesStep-Follows
    (Makes-nonzero_from falsity c.args.a.now (place_of c.args.circuit.now)
    (rw c.truth.ensures.truth at c.truth.ensures.inside) c.requires.word)
    (c.loop-l.invariant.follows _ c.loop-l.circuit
    (Follows-nonzero_from_end c.loop-l.l-index c.loop-l.nonzero c.args.a.now c.loop-l.circuit (omega arith)))
