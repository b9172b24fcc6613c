use Rattle.am_query.proofs.Laws.{kept_are_satisfied, nothing_is_kept, places_grow}
use Rattle.am_query.proofs.theorems.kept_examples_are_satisfied.Goals as goal

pub returns : goal.returns
returns c = record { satisfied = kept_are_satisfied; nothing = nothing_is_kept; further = places_grow }
