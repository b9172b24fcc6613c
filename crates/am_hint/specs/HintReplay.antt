-- What a whole list of hints shows.
use Rattle.std.specs.Prelude.{ℕ, ◌≡◌, ◌+◌, List, [], ◌∷◌, ◌++◌, map, Option, None, Some}
use Rattle.am_chain.specs.Replay.{EndsEmpty}
use Rattle.am_hint.specs.declared.fault.HintFault.{HintFault}
use Rattle.am_hint.specs.declared.hint.Hint.{Hint}
use Rattle.am_hint.specs.Hints.{hint_fault, match_option}

-- a list's first fault: the number of its hint, from 0, and the hint's fault
pub record HintsFault : Type 0 where
  pub hint : ℕ
  pub fault : HintFault

-- the clauses of hints
abbrev pub hint_clauses : List Hint → List (List ℕ)
hint_clauses hints = map (λ hint. hint.clause) hints

-- the first fault of the hints from a number on: each is tested over the clauses and those of the
-- hints before it
abbrev pub hints_fault : ℕ → List (List ℕ) → ℕ → List Hint → Option HintsFault
hints_fault vars clauses number [] = None
hints_fault vars clauses number (hint ∷ hints) =
    match_option (hint_fault vars clauses hint)
    (hints_fault vars (clauses ++ hint.clause ∷ []) (number + 1) hints)
    (λ f. Some (record { hint = number; fault = f }))

-- every hint passes over the clauses and those of the hints before it
abbrev pub AllPass : ℕ → List (List ℕ) → List Hint → Type 0
AllPass vars clauses hints = hints_fault vars clauses 0 hints ≡ None

-- hints refute clauses: every hint passes, there is a last one, and its clause is empty
abbrev pub HintsRefute : ℕ → List (List ℕ) → List Hint → Type 0
HintsRefute vars clauses hints = AllPass vars clauses hints × EndsEmpty (hint_clauses hints)
