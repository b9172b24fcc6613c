use Rattle.am_blast.proofs.Blasted.{Means-blasted}
use Rattle.am_blast.proofs.theorems.terms_read_as_their_value.Goals as goal

pub returns : goal.returns
returns c = λ w one t fields fit long v. Means-blasted w one fields v long t fit
