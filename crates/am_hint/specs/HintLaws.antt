-- Laws of hints and of lists of hints.
use Rattle.std.specs.Prelude.{ℕ, ◌≡◌, ◌↔◌, List, [], ◌∷◌, ◌++◌, length, IsTrue, None, Some}
use Rattle.am_lit.specs.Clause.{IsNormal}
use Rattle.am_lit.specs.Truth.{Implies, IsSatisfiable}
use Rattle.am_hint.specs.declared.fault.HintFault.{HintFault}
use Rattle.am_hint.specs.declared.hint.Hint.{Hint}
use Rattle.am_hint.specs.Hints.{hint_fault, is_normal}
use Rattle.am_hint.specs.HintReplay.{AllPass, HintsRefute, hint_clauses, hints_fault}

-- the test of a hint's clause says yes exactly where the clause is normal
abbrev pub NormalTestsAreRight : Type 0
NormalTestsAreRight = (vars : ℕ) (c : List ℕ) → IsTrue (is_normal vars c) ↔ IsNormal vars c

-- the clause of a hint that passes is true wherever the clauses are that the hint may name
abbrev pub HintsAreSound : Type 0
HintsAreSound = (vars : ℕ) (clauses : List (List ℕ)) (hint : Hint)
    → hint_fault vars clauses hint ≡ None → Implies clauses hint.clause

-- hints that refute clauses leave them no satisfying assignment
abbrev pub HintRefutationsAreSound : Type 0
HintRefutationsAreSound = (vars : ℕ) (clauses : List (List ℕ)) (hints : List Hint)
    → HintsRefute vars clauses hints → ¬ (IsSatisfiable clauses)

-- where all hints pass, and a further one passes after them, all pass with it
abbrev pub HintsGrow : Type 0
HintsGrow = (vars : ℕ) (clauses : List (List ℕ)) (hints : List Hint) (hint : Hint)
    → AllPass vars clauses hints → hint_fault vars (clauses ++ hint_clauses hints) hint ≡ None
    → AllPass vars clauses (hints ++ hint ∷ [])

-- where the hints before one pass and that one doesn't, its fault is the list's first
abbrev pub FirstHintFaultsStand : Type 0
FirstHintFaultsStand = (vars : ℕ) (clauses : List (List ℕ)) (before after : List Hint) (hint : Hint) (f : HintFault)
    → AllPass vars clauses before → hint_fault vars (clauses ++ hint_clauses before) hint ≡ Some f
    → hints_fault vars clauses 0 (before ++ hint ∷ after) ≡ Some (record { hint = length before; fault = f })
