use Rattle.am_problem.proofs.LastRefusals.{load_last, slots_last, undefined_last}
use Rattle.am_problem.proofs.RuleRefusals.{counted_first, twice_after}
use Rattle.am_problem.proofs.text.refusals_come_in_order.Goals as goal

pub returns : goal.returns
returns c = λ text. record {
  counted = counted_first text;
  twice = twice_after text;
  undefined = undefined_last text;
  slots = slots_last text;
  load = load_last text;
}
