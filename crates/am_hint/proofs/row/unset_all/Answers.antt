use Rattle.std.proofs.Common.{sym, ◌∙◌}
use Rattle.am_hint.proofs.Truths.{row_within}
use Rattle.am_hint.proofs.row.unset_all.Goals as goal

pub loop-l-init : goal.loop-l-init
loop-l-init c = record {
  within = row_within c.args.truths.now c.args.row.now c.requires;
  left = λ l t. sym (c.requires l) ∙ t;
}
