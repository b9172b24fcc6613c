-- Chains that grow by one step.
use Rattle.std.proofs.Common.{ℕ, ◌≡◌, ◌≢◌, ◌+◌, ◌<◌, List, [], ◌∷◌, ◌++◌, All, length, get_or, true, refl}
use Rattle.std.specs.Prelude.{Contains, Ok}
use Rattle.std.specs.List.Sorted.{IsStrictlyIncreasing}
use Rattle.std.proofs.lemmas.List.Elements.{All-contains}
use Rattle.std.proofs.lemmas.Option.{slice_get-get_or}
use Rattle.am_lit.specs.Literal.{variable_of, opposite_of}
use Rattle.am_lit.specs.UnitRow.{IsConsistent}
use Rattle.am_lit.proofs.Laws.{opposite_of-differs, opposite_of-opposite_of, variable_of-opposite_of}
use Rattle.am_chain.specs.declared.chain.Step.{Step}
use Rattle.am_chain.specs.Chains.{after_step, after_steps}
use Rattle.am_chain.specs.Resolvent.{has_pivot, resolvent}
use Rattle.am_chain.proofs.Laws.{after_steps-push, has_pivot_iff}

step_taken : (clauses : List (List ℕ)) (place r v : ℕ) (c : List ℕ) → r < length clauses
    → has_pivot v c (get_or clauses r []) ≡ true
    → after_step clauses place c (record { variable = v; clause = r }) ≡ Ok (resolvent v c (get_or clauses r []))
step_taken clauses place r v c lt p = rw (slice_get-get_or clauses r [] lt, p) refl

-- one more step of a chain
pub chain_longer : (clauses : List (List ℕ)) (first c : List ℕ) (steps : List Step) (r v : ℕ)
    → after_steps clauses 1 first steps ≡ Ok c → r < length clauses
    → has_pivot v c (get_or clauses r []) ≡ true
    → after_steps clauses 1 first (steps ++ record { variable = v; clause = r } ∷ [])
    ≡ Ok (resolvent v c (get_or clauses r []))
chain_longer clauses first c steps r v so_far lt p =
    rw (after_steps-push clauses 1 first steps (record { variable = v; clause = r }), so_far)
    (step_taken clauses (1 + length steps) r v c lt p)

-- the current clause, false in the row, has a pivot with the reason of one of the row's literals
pub pivot_there : (row prior c r : List ℕ) (l : ℕ) → IsConsistent row → ¬ (Contains prior l) → Contains row l
    → IsStrictlyIncreasing c → IsStrictlyIncreasing r → All (λ x. Contains row (opposite_of x)) c
    → Contains c (opposite_of l)
    → Contains r l → All (λ m. m ≢ l → Contains prior (opposite_of m)) r → has_pivot (variable_of l) c r ≡ true
pivot_there row prior c r l consistent absent there rc rr untrue in_c in_r forced =
    (has_pivot_iff (variable_of l) c r rc rr).1 (
      opposite_of l,
      variable_of-opposite_of l,
      record {
        first = in_c;
        first_only = λ h.
            consistent l there
            (All-contains (λ x. Contains row (opposite_of x)) c l untrue (rw (opposite_of-opposite_of l) at h));
        second = rw (opposite_of-opposite_of l) in_r;
        second_only = λ h.
            absent
            (rw (opposite_of-opposite_of l) at
            (All-contains (λ m. m ≢ l → Contains prior (opposite_of m)) r (opposite_of l) forced h
            (opposite_of-differs l)));
      },
    )
