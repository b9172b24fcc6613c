use Rattle.std.proofs.Common.{◌∷◌, [], append_assoc, append-nil, arith}
use Rattle.am_gate.specs.Build.{place_of}
use Rattle.am_gate.proofs.Laws.{Grows-trans, Begins-trans, GivesStep-Follows}
use Rattle.am_blast.proofs.Sums.{Makes-adder, Follows-adder_at, Follows-adder_end}
use Rattle.am_blast.proofs.sum.add_words.Goals as goal

pub loop-i-preserved : goal.loop-i-preserved
loop-i-preserved c = record {
  follows = λ r end h. rw (c.in_ok-push.ensures.ok, append_assoc)
      (c.loop-i.invariant.follows (c.in_ok-sum.sum ∷ r.0, r.1) end
      (Follows-adder_at c.loop-i.i c.index-a-i.result c.index-b-i.result c.loop-i.carry c.args.a.now c.args.b.now _ _ _
      _ _
      (omega arith) (omega (arith, c.requires.words.lengths)) c.index-a-i.is c.index-b-i.is
      c.in_ok-sum.ensures.ok.follows h));
  carry = c.in_ok-sum.ensures.ok.given.1;
  grows = Grows-trans _ c.loop-i.invariant.grows c.in_ok-sum.ensures.ok.grows (omega arith);
  begins = Begins-trans c.loop-i.invariant.begins c.in_ok-sum.ensures.begins;
}

pub returns-clause-ok : goal.returns-clause-ok
returns-clause-ok c =
    GivesStep-Follows
    (Makes-adder c.args.a.now c.args.b.now c.args.c (place_of c.args.circuit.now) c.requires.words.lengths
    c.requires.words.first c.requires.words.second c.requires.third)
    (rw append-nil at (c.loop-i.invariant.follows ([], c.loop-i.carry) c.loop-i.circuit
    (Follows-adder_end c.loop-i.i c.loop-i.carry c.args.a.now c.args.b.now c.loop-i.circuit (omega arith))))
