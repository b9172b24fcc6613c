use Rattle.am_bv.proofs.ByKind.{fits-Const, fits-Field, fits-Node}
use Rattle.am_bv.proofs.theorems.fits_by_kind.Goals as goal

pub returns : goal.returns
returns c = record { constant = fits-Const; field = fits-Field; node = fits-Node }
