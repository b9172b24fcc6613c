use Rattle.am_slot.proofs.rules.RuleTable.+room.Given as goal

abbrev pub decreases-room : goal.decreases-room
decreases-room l = l.below
