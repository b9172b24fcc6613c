use Rattle.am_bv.proofs.ByKind.{arities-Const, arities-Field, arities-Node}
use Rattle.am_bv.proofs.Arities.{fits-arities}
use Rattle.am_bv.proofs.theorems.arities_by_kind.Goals as goal

pub returns : goal.returns
returns c = record { constant = arities-Const; field = arities-Field; node = arities-Node; fits = fits-arities }
