-- The test of a hint by unit propagation: its first fault, or none.
use Rattle.std.specs.Prelude.{ℕ, ◌+◌, ◌==◌, ◌&&◌, Bool, true, not, if◌then◌else◌, nat_le, nat_lt}
use Rattle.std.specs.Prelude.{List, [], ◌∷◌, ◌++◌, filter, map, slice_get, Option, None, Some}
use Rattle.std.specs.List.{list_any}
use Rattle.am_lit.specs.Literal.{opposite_of, variable_of}
use Rattle.am_hint.specs.declared.fault.HintFault.{HintFault}
use Rattle.am_hint.specs.declared.fault.HintWhy.{HintWhy}
use Rattle.am_hint.specs.declared.fault.HintWhy.TheVariants.{NoClause, NoConflict, NotNormal, NotUnit}
use Rattle.am_hint.specs.declared.hint.Hint.{Hint}
use Rattle.am_hint.specs.declared.status.Status.{Status}
use Rattle.am_hint.specs.declared.status.Status.TheVariants.{Conflict, Forces, Open}

-- ---- normal clauses

-- the variables strictly increase from a least one on, and are below a number
abbrev pub variables_increase : ℕ → ℕ → List ℕ → Bool
variables_increase least vars [] = true
variables_increase least vars (l ∷ ls) =
    nat_le least (variable_of l) && (nat_lt (variable_of l) vars && variables_increase (variable_of l + 1) vars ls)

-- the test of a normal clause over the variables below a number
abbrev pub is_normal : ℕ → List ℕ → Bool
is_normal vars c = variables_increase 0 vars c

-- ---- what true literals make of a clause

-- the literal is one of these
abbrev pub is_hinted_in : List ℕ → ℕ → Bool
is_hinted_in literals l = list_any (λ m. m == l) literals

-- the literals of a clause that aren't false where the literals of a row are true
abbrev pub not_false : List ℕ → List ℕ → List ℕ
not_false row c = filter (λ l. not (is_hinted_in row (opposite_of l))) c

-- a clause whose other literals are false: a conflict where none is left, and forcing where one is
-- left that isn't true
abbrev pub status_by : List ℕ → List ℕ → Status
status_by row [] = Conflict
status_by row (l ∷ []) = if is_hinted_in row l then Open else Forces l
status_by row (l ∷ m ∷ ms) = Open

-- what a row of true literals makes of a clause
abbrev pub status_of : List ℕ → List ℕ → Status
status_of row c = status_by row (not_false row c)

-- ---- the test

abbrev pub fault : ℕ → HintWhy → HintFault
fault at cause = record { place = at; why = cause }

-- what comes after a clause: nothing more where it is a conflict, the rest where it forces a literal
abbrev pub match_status : {A : Type 0} → Status → A → (ℕ → A) → A → A
match_status Conflict on_conflict on_forced on_open = on_conflict
match_status (Forces l) on_conflict on_forced on_open = on_forced l
match_status Open on_conflict on_forced on_open = on_open

-- what comes after a look-up
abbrev pub match_option : {T A : Type 0} → Option T → A → (T → A) → A
match_option None on_none on_some = on_none
match_option (Some x) on_none on_some = on_some x

-- the first fault of the numbers from a place on, where the literals of a row are true
abbrev pub propagation_fault : List (List ℕ) → List ℕ → ℕ → List ℕ → Option HintFault
propagation_fault clauses row place [] = Some (fault place NoConflict)
propagation_fault clauses row place (number ∷ by) =
    match_option (slice_get clauses number) (Some (fault place NoClause)) (λ c.
    match_status (status_of row c)
    None
    (λ l. propagation_fault clauses (row ++ l ∷ []) (place + 1) by)
    (Some (fault place NotUnit)))

-- the first fault of a hint over numbered clauses, where it doesn't pass: its clause has to be normal;
-- then all its literals are made false, and the clauses with its numbers taken in order
abbrev pub hint_fault : ℕ → List (List ℕ) → Hint → Option HintFault
hint_fault vars clauses hint =
    if is_normal vars hint.clause then propagation_fault clauses (map opposite_of hint.clause) 0 hint.by
    else Some (fault 0 NotNormal)
