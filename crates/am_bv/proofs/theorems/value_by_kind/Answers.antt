use Rattle.am_bv.proofs.ByKind.{val-Const, val-Field, val-Node}
use Rattle.am_bv.proofs.theorems.value_by_kind.Goals as goal

pub returns : goal.returns
returns c = record { constant = val-Const; field = val-Field; node = val-Node }
