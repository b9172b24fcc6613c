use Rattle.am_query.proofs.Laws.{fits_are_chosen, fits_are_reached, unsatisfied_fit_has_none}
use Rattle.am_query.proofs.theorems.fits_are_chosen.Goals as goal

pub returns : goal.returns
returns c = record { chosen = fits_are_chosen; reached = fits_are_reached; none = unsatisfied_fit_has_none }
