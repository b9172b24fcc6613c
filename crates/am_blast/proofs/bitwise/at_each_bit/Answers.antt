use Rattle.std.proofs.Common.{◌∷◌, append_assoc, append-nil, arith}
use Rattle.am_gate.specs.Build.{place_of}
use Rattle.am_gate.proofs.Laws.{Grows-trans, Begins-trans, GivesStep-Follows}
use Rattle.am_blast.proofs.Bits.{Makes-bitwise, Follows-bitwise_at, Follows-bitwise_end}
use Rattle.am_blast.proofs.bitwise.at_each_bit.Goals as goal

pub loop-i-preserved : goal.loop-i-preserved
loop-i-preserved c = record {
  follows = λ rest end h. rw (c.in_ok-push.ensures.ok, append_assoc)
      (c.loop-i.invariant.follows (c.in_ok-literal.literal ∷ rest) end
      (Follows-bitwise_at c.args.gate c.loop-i.i c.index-a-i.result c.index-b-i.result c.args.a.now c.args.b.now _ _ _
      _ _
      (omega arith) (omega (arith, c.requires.words.lengths)) c.index-a-i.is c.index-b-i.is
      c.in_ok-literal.ensures.ok.follows h));
  grows = Grows-trans _ c.loop-i.invariant.grows c.in_ok-literal.ensures.ok.grows (omega arith);
  begins = Begins-trans c.loop-i.invariant.begins c.in_ok-literal.ensures.begins;
}

pub returns-clause-ok : goal.returns-clause-ok
returns-clause-ok c =
    GivesStep-Follows
    (Makes-bitwise c.args.gate c.args.a.now c.args.b.now (place_of c.args.circuit.now) c.requires.words.lengths
    c.requires.gate c.requires.words.first c.requires.words.second)
    (rw append-nil at (c.loop-i.invariant.follows _ c.loop-i.circuit
    (Follows-bitwise_end c.args.gate c.loop-i.i c.args.a.now c.args.b.now c.loop-i.circuit (omega arith))))
