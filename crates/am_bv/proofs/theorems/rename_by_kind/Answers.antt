use Rattle.am_bv.proofs.ByKind.{rename-Const, rename-Field, rename-Node}
use Rattle.am_bv.proofs.theorems.rename_by_kind.Goals as goal

pub returns : goal.returns
returns c = record { constant = rename-Const; field = rename-Field; node = rename-Node }
