use Rattle.am_slot.proofs.block.Block.+words.Given as goal

abbrev pub decreases-words : goal.decreases-words
decreases-words l = l.below
