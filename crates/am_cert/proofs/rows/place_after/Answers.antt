use Rattle.std.proofs.Common.{◌≡◌, ℕ, zero, suc, ◌+◌, ◌-◌, List, [], ◌∷◌, length, Some, arith, sym}
use Rattle.std.specs.Prelude.{slice_get}
use Rattle.am_cert.specs.Grammar.{place_after}
use Rattle.am_cert.proofs.rows.place_after.Goals as goal

after_at : (seen : List ℕ) (k n : ℕ) → suc k ≡ length seen → slice_get seen k ≡ Some n → place_after seen ≡ n + 1
after_at [] k n e h = absurd (omega arith)
after_at (i ∷ []) zero n e h = let same : i ≡ n = cc in omega arith
after_at (i ∷ []) (suc k) n e h = absurd (omega arith)
after_at (i ∷ j ∷ places) zero n e h = absurd (omega arith)
after_at (i ∷ j ∷ places) (suc k) n e h = after_at (j ∷ places) k n (omega arith) h

-- the place after the last one
after_last : (seen : List ℕ) (n : ℕ) → slice_get seen (length seen - 1) ≡ Some n → place_after seen ≡ n + 1
after_last [] n h = absurd cc
after_last (i ∷ places) n h = after_at (i ∷ places) (length (i ∷ places) - 1) n (omega arith) h

pub returns-in-Some : goal.returns-in-Some
returns-in-Some c =
    let behind = after_last c.args.seen.now c.in-Some.place.now (sym c.in-Some.ensures.value) in
    omega (arith, c.from.ensures, behind)
