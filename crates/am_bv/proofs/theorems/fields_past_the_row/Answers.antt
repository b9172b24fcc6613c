use Rattle.am_bv.proofs.Fields.{fits-more, val-same}
use Rattle.am_bv.proofs.theorems.fields_past_the_row.Goals as goal

pub returns : goal.returns
returns c = record { fits = fits-more; value = val-same }
