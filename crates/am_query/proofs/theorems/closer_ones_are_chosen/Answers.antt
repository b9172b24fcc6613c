use Rattle.am_query.proofs.Laws.{closer_ones_are_chosen, closer_ones_are_reached, unsatisfied_precision_has_none_closer}
use Rattle.am_query.proofs.theorems.closer_ones_are_chosen.Goals as goal

pub returns : goal.returns
returns c = record {
  chosen = closer_ones_are_chosen;
  reached = closer_ones_are_reached;
  none = unsatisfied_precision_has_none_closer;
}
