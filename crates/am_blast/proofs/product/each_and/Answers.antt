use Rattle.std.proofs.Common.{◌∷◌, append_assoc, append-nil, arith}
use Rattle.am_gate.specs.Build.{place_of}
use Rattle.am_gate.proofs.Laws.{Grows-trans, Begins-trans, GivesStep-Follows}
use Rattle.am_blast.proofs.Products.{Makes-each_and, Follows-each_and_at, Follows-each_and_end}
use Rattle.am_blast.proofs.product.each_and.Goals as goal

pub loop-l-preserved : goal.loop-l-preserved
loop-l-preserved c = record {
  follows = λ rest end h. rw (c.in_ok-push.ensures.ok, append_assoc)
      (c.loop-l.invariant.follows (c.in_ok-both.both ∷ rest) end
      (Follows-each_and_at c.loop-l.l-index c.args.b c.l-item.result c.args.word.now _ _ _ _ _ (omega arith) c.l-item.is
      c.in_ok-both.ensures.ok.follows h));
  grows = Grows-trans _ c.loop-l.invariant.grows c.in_ok-both.ensures.ok.grows (omega arith);
  begins = Begins-trans c.loop-l.invariant.begins c.in_ok-both.ensures.begins;
}

pub returns-clause-ok : goal.returns-clause-ok
returns-clause-ok c =
    GivesStep-Follows
    (Makes-each_and c.args.b c.args.word.now (place_of c.args.circuit.now) c.requires.literal c.requires.word)
    (rw append-nil at
    (c.loop-l.invariant.follows _ c.loop-l.circuit
    (Follows-each_and_end c.loop-l.l-index c.args.b c.args.word.now c.loop-l.circuit (omega arith))))
