use Rattle.am_blast.proofs.Comparisons.{AreWordPair-sign_turned}
use Rattle.am_blast.proofs.relation.test.Goals as goal

pub is_below-requires-in-SignedBelow-clause-words : goal.is_below-requires-in-SignedBelow-clause-words
is_below-requires-in-SignedBelow-clause-words c =
    rw (
      c.as_slice.ensures,
      c.in_ok-a-in-SignedBelow.ensures,
      c.as_slice-in-SignedBelow.ensures,
      c.in_ok-b-in-SignedBelow.ensures,
    )
    (AreWordPair-sign_turned c.args.circuit.now.vars c.args.a.now c.args.b.now c.requires.words)

pub is_at_most-requires-in-SignedAtMost-clause-words : goal.is_at_most-requires-in-SignedAtMost-clause-words
is_at_most-requires-in-SignedAtMost-clause-words c =
    rw (
      c.as_slice-in-SignedAtMost.ensures,
      c.in_ok-a-in-SignedAtMost.ensures,
      c.as_slice-in-SignedAtMost-2.ensures,
      c.in_ok-b-in-SignedAtMost.ensures,
    )
    (AreWordPair-sign_turned c.args.circuit.now.vars c.args.a.now c.args.b.now c.requires.words)
