use Rattle.am_blast.proofs.Words.{AreWordPair-opposites}
use Rattle.am_blast.proofs.sum.difference.Goals as goal

pub sum-requires-clause-words : goal.sum-requires-clause-words
sum-requires-clause-words c =
    rw (c.as_slice.ensures, c.in_ok-not_b.ensures)
    (AreWordPair-opposites c.args.circuit.now.vars c.args.a.now c.args.b.now c.requires.words)
