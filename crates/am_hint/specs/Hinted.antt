-- What a checker of hints holds.
use Rattle.std.specs.Prelude.{ℕ, ◌≡◌, List, [], ◌∷◌, ◌++◌, Option, None, Some}
use Rattle.am_hint.specs.declared.fault.HintError.{HintError}
use Rattle.am_hint.specs.declared.fault.HintError.TheVariants.{Fault, NoMemory}
use Rattle.am_hint.specs.declared.fault.HintFault.{HintFault}
use Rattle.am_hint.specs.declared.hint.Hint.{Hint}
use Rattle.am_hint.specs.Hints.{hint_fault}

-- a formula's number of variables and its clauses, and the clauses of the hints that were added
pub record Hinted : Type 0 where
  pub vars : ℕ
  pub given : List (List ℕ)
  pub added : List (List ℕ)

-- the clauses by their numbers
abbrev pub hinted_clauses : Hinted → List (List ℕ)
hinted_clauses k = k.given ++ k.added

-- what a checker makes of a hint: its first fault, or none
abbrev pub fault_in : Hinted → Hint → Option HintFault
fault_in k hint = hint_fault k.vars (hinted_clauses k) hint

-- a hint passes, and its clause was added with the next number
abbrev pub IsTaken : Hinted → Hinted → Hint → Type 0
IsTaken old new hint =
    (fault_in old hint ≡ None)
    × (new ≡ record { vars = old.vars; given = old.given; added = old.added ++ hint.clause ∷ [] })

-- an error is a hint's fault, or want of memory
abbrev pub IsHintFaultOf : Option HintFault → HintError → Type 0
IsHintFaultOf outcome (Fault f) = outcome ≡ Some f
IsHintFaultOf outcome NoMemory = Unit {0}
