-- What a row of true literals makes of a clause.
use Rattle.std.proofs.Common.{ℕ, ◌≡◌, ◌<◌, Bool, true, false, cond, not, List, [], ◌∷◌, All}
use Rattle.std.specs.Prelude.{Contains, Some, slice_get}
use Rattle.std.proofs.lemmas.Option.{get_or_from_slice_get, slice_get_within}
use Rattle.std.proofs.lemmas.List.Elements.{All-contains, All-contains_itself, All-filter}
use Rattle.am_lit.specs.Clause.{IsFormula}
use Rattle.am_lit.specs.Literal.{opposite_of, variable_of}
use Rattle.am_lit.proofs.Laws.{Contains-head}
use Rattle.am_hint.specs.Hints.{is_hinted_in, not_false, status_by, status_of}
use Rattle.am_hint.specs.declared.status.Status.TheVariants.{Forces, Open}

-- where a literal is forced, it alone is left
forced_alone : (row left : List ℕ) (l : ℕ) → status_by row left ≡ Forces l → left ≡ l ∷ []
forced_alone row [] l e = cc
forced_alone row (m ∷ []) l e = go (is_hinted_in row m) e where
  go : (b : Bool) → cond b Open (Forces m) ≡ Forces l → m ∷ [] ≡ l ∷ []
  go true e = cc
  go false e = cc
forced_alone row (m ∷ n ∷ ms) l e = cc

-- a literal that a clause forces stands in it
pub forced_member : (row c : List ℕ) (l : ℕ) → status_of row c ≡ Forces l → Contains c l
forced_member row c l e =
    let alone = forced_alone row (not_false row c) l e in
    let kept = All-filter (λ m. not (is_hinted_in row (opposite_of m))) (Contains c) c (All-contains_itself c) in
    All-contains (Contains c) (not_false row c) l kept (rw alone (Contains-head l []))

-- the variables of a clause of a formula are below its number of variables
pub below_at : (vars : ℕ) (clauses : List (List ℕ)) (number : ℕ) (c : List ℕ) → IsFormula clauses vars
    → slice_get clauses number ≡ Some c → All (λ l. variable_of l < vars) c
below_at vars clauses number c normal there =
    let within = slice_get_within clauses number c there in
    (rw (get_or_from_slice_get clauses number c c there) at (normal number c within)).below
