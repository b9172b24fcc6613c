use Rattle.am_bv.proofs.ByKind.{weight-Const, weight-Field, weight-Node}
use Rattle.am_bv.proofs.theorems.weight_by_kind.Goals as goal

pub returns : goal.returns
returns c = record { constant = weight-Const; field = weight-Field; node = weight-Node }
