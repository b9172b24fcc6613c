use Rattle.am_blast.proofs.Blasted.{Makes-blasted}
use Rattle.am_blast.proofs.theorems.terms_make_their_weight.Goals as goal

pub returns : goal.returns
returns c = λ w one t fields fit. Makes-blasted w one fields t fit
