use Rattle.am_slot.proofs.clauses.+push_clauses.Given as goal

abbrev pub decreases-push_clauses : goal.decreases-push_clauses
decreases-push_clauses l = l.below
