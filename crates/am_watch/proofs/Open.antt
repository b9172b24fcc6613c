-- Literals of a clause that are looked at in order.
use Rattle.std.proofs.Common.{ℕ, ◌≡◌, ◌+◌, ◌<◌, Bool, true, false, not, List, All, length, get_or, take, refl, sym, eqb}
use Rattle.std.proofs.Common.{arith}
use Rattle.std.proofs.lemmas.List.Elements.{All-more}
use Rattle.std.proofs.lemmas.Bool.Decides.{nat_tests}

pub not_true : (b : Bool) → not b ≡ false → b ≡ true
not_true true e = refl
not_true false e = sym e

pub not_false : (b : Bool) → not b ≡ true → b ≡ false
not_false true e = sym e
not_false false e = refl

-- what holds of the first items and of the next one holds of one more
pub All-seen : (P : ℕ → Type 0) (xs : List ℕ) (i x : ℕ) → i < length xs → x ≡ get_or xs i x → All P (take i xs) → P x
    → All P (take (i + 1) xs)
All-seen P xs i x lt is h p = All-more P xs i x lt h (rw (← is) p)

-- where the test says so, two literals are the same
pub same_when : (b : Bool) (m l : ℕ) → b ≡ not (eqb m l) → b ≡ false → m ≡ l
same_when b m l e f = grind (arith, nat_tests)
