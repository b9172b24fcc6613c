use Rattle.am_query.proofs.Laws.{none_is_kept_at_first, kept_grow, kept_are_determined}
use Rattle.am_query.proofs.theorems.kept_examples_are_determined.Goals as goal

pub returns : goal.returns
returns c = record { first = none_is_kept_at_first; grow = kept_grow; determined = kept_are_determined }
