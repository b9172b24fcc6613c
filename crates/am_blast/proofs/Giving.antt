-- What calls give that test, and then choose a word or give the test as a word.
use Rattle.std.proofs.Common.{ℕ, ◌+◌, ◌≤◌, List, length, arith}
use Rattle.am_gate.specs.Circuit.{Net, IsLiteral}
use Rattle.am_gate.specs.Build.{Step}
use Rattle.am_gate.specs.Promises.{GivesStep}
use Rattle.am_gate.proofs.Laws.{GivesStep-bind, GivesStep-answer}
use Rattle.am_blast.specs.declared.bitwise.Gate.TheVariants.{Choose}
use Rattle.am_blast.specs.Words.{IsWord, flag}
use Rattle.am_blast.specs.Bitwise.{bitwise, choice}
use Rattle.am_blast.specs.Comparisons.{flagged}
use Rattle.am_blast.proofs.Words.{IsWord-flag}

-- a test, and then the word that it chooses
pub GivesStep-choice : {test : Step ℕ} {j l : ℕ} {r : List ℕ} {old mid new : Net} (xs ys : List ℕ) →
    GivesStep test j IsLiteral old l mid → GivesStep (bitwise (Choose l) xs ys) (length xs) (IsWord (length xs)) mid r
    new →
    GivesStep (choice test xs ys) (j + length xs) (IsWord (length xs)) old r new
unfolding choice
GivesStep-choice xs ys one two = GivesStep-bind _ one two (omega arith)

-- a test as a word
pub GivesStep-flagged : {test : Step ℕ} {j l : ℕ} {old new : Net} (w : ℕ) → 1 ≤ w →
    GivesStep test j IsLiteral old l new → GivesStep (flagged w test) j (IsWord w) old (flag w l) new
unfolding flagged
GivesStep-flagged {l = l} {new = new} w one h =
    GivesStep-bind _ h (GivesStep-answer (IsWord-flag w new.vars l one (omega (arith, h.given)) h.given)) (omega arith)
