use Rattle.am_slot.proofs.decoding.Choices.+trees.Given as goal

abbrev pub decreases-trees : goal.decreases-trees
decreases-trees l = l.below
