use Rattle.am_blast.proofs.Blasted.{length-constant, reads-constant}
use Rattle.am_blast.proofs.theorems.constants_read_their_number.Goals as goal

pub returns : goal.returns
returns c = λ v w c t small.
    record { bits = length-constant w c; value = reads-constant v w c t small }
