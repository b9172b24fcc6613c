-- What a look at a fresh clause says.
use Rattle.std.proofs.Common.{ℕ, ◌≡◌, ◌≢◌, ◌<◌, Bool, true, not, eqb, List, All, length, get_or, sym, arith}
use Rattle.std.specs.Prelude.{Contains}
use Rattle.std.proofs.lemmas.Bool.Decides.{nat_tests}
use Rattle.std.proofs.lemmas.List.Elements.{All-weaker}
use Rattle.am_lit.specs.Literal.{opposite_of}
use Rattle.am_trail.specs.Trails.{Assigned, IsTrail, literals}
use Rattle.am_watch.specs.Watching.{Extends}
use Rattle.am_trail.proofs.Laws.{consistent}
use Rattle.am_watch.proofs.Extending.{literal_still}

-- the fresh number at a place is a fresh one
pub number_there : (fresh : List ℕ) (k i : ℕ) → k < length fresh → i ≡ get_or fresh k i → Contains fresh i
number_there fresh k i lt is = (k, lt, sym is)

-- literals that are false stay false
pub still_false : (clauses : List (List ℕ)) (t u : Assigned) → Extends clauses t u → (c : List ℕ) (l : ℕ)
    → All (λ m. m ≢ l → Contains (literals t.entries) (opposite_of m)) c
    → All (λ m. m ≢ l → Contains (literals u.entries) (opposite_of m)) c
still_false clauses t u x c l h = All-weaker (λ m. m ≢ l → Contains (literals t.entries) (opposite_of m))
    (λ m. m ≢ l → Contains (literals u.entries) (opposite_of m))
    (λ m k ne. literal_still clauses t u x (opposite_of m) (k ne)) c h

-- a literal that is true isn't false
pub unfalse_true : (t : Assigned) (l : ℕ) → IsTrail t → Contains (literals t.entries) l
    → ¬ (Contains (literals t.entries) (opposite_of l))
unfalse_true t l trail there = consistent t trail l there

-- where the test says so, two literals differ
pub differ_when : (b : Bool) (m l : ℕ) → b ≡ not (eqb m l) → b ≡ true → m ≢ l
differ_when b m l e t = grind (arith, nat_tests)
