use Rattle.am_gate.proofs.Laws.{Makes-extend}
use Rattle.am_blast.proofs.Blasted.{Makes-blasted}
use Rattle.am_blast.proofs.theorems.terms_can_be_met.Goals as goal

pub returns : goal.returns
returns c = λ w one t fields fit p some words v. Makes-extend v (Makes-blasted w one fields t fit p some words)
