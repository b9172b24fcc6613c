use Rattle.am_query.proofs.Laws.{failed_examples_are_chosen, failed_examples_are_reached}
use Rattle.am_query.proofs.Laws.{unsatisfied_soundness_is_sound}
use Rattle.am_query.proofs.theorems.failed_examples_are_chosen.Goals as goal

pub returns : goal.returns
returns c = record {
  chosen = failed_examples_are_chosen;
  reached = failed_examples_are_reached;
  none = unsatisfied_soundness_is_sound;
}
