use Rattle.am_bv.proofs.Values.{apply-word, val-word}
use Rattle.am_bv.proofs.theorems.values_are_words.Goals as goal

pub returns : goal.returns
returns c = record { operator = apply-word; term = λ w one t env fit words. val-word w one env words t fit }
