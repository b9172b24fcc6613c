use Rattle.am_bv.proofs.Fields.{val-rename, fits-rename, nodes-rename, weight-rename}
use Rattle.am_bv.proofs.theorems.rename_keeps.Goals as goal

pub returns : goal.returns
returns c = record { value = val-rename; fits = fits-rename; nodes = nodes-rename; weight = weight-rename }
