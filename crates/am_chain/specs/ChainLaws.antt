-- Laws of resolvents, chains and logs that a solver and a reader of logs rest on.
use Rattle.std.specs.Prelude.{ℕ, ◌≡◌, ◌≢◌, ◌+◌, ◌<◌, ◌↔◌, ◌⊎◌, List, [], ◌∷◌, ◌++◌, All, Contains, length, Ok, Err}
use Rattle.std.specs.Prelude.{IsTrue}
use Rattle.std.specs.List.Sorted.{IsStrictlyIncreasing}
use Rattle.am_lit.specs.Literal.{opposite_of, variable_of}
use Rattle.am_lit.specs.Clause.{IsFormula}
use Rattle.am_chain.specs.declared.chain.Step.{Step}
use Rattle.am_chain.specs.declared.chain.Chain.{Chain}
use Rattle.am_chain.specs.declared.fault.ChainFault.{ChainFault}
use Rattle.am_chain.specs.Resolvent.{has_pivot, resolvent}
use Rattle.am_chain.specs.Chains.{after_step, after_steps, and_then, clause_of}
use Rattle.am_chain.specs.Replay.{DerivesClauses, replay}

-- a literal is the pivot of two clauses: the first holds it and not its opposite, and the second its
-- opposite and not the literal
pub record IsPivot (l : ℕ) (c d : List ℕ) : Type 0 where
  pub first : Contains c l
  pub first_only : ¬ (Contains c (opposite_of l))
  pub second : Contains d (opposite_of l)
  pub second_only : ¬ (Contains d l)

-- clauses in order have a pivot on a variable exactly where one of its literals is their pivot
abbrev pub PivotsAreOpposite : Type 0
PivotsAreOpposite = (v : ℕ) (c d : List ℕ) → IsStrictlyIncreasing c → IsStrictlyIncreasing d
    → IsTrue (has_pivot v c d) ↔ ((l : ℕ) × (variable_of l ≡ v) × IsPivot l c d)

-- a resolvent is in order, and has exactly the literals of both clauses that aren't of the variable
abbrev pub ResolventsHaveTheOthers : Type 0
ResolventsHaveTheOthers = (v : ℕ) (c d : List ℕ) → IsStrictlyIncreasing (resolvent v c d)
    × ((l : ℕ) → Contains (resolvent v c d) l ↔ ((Contains c l ⊎ Contains d l) × (variable_of l ≢ v)))

-- a further step is taken after the others
abbrev pub StepsGrow : Type 0
StepsGrow = (clauses : List (List ℕ)) (place : ℕ) (c : List ℕ) (steps : List Step) (step : Step)
    → after_steps clauses place c (steps ++ step ∷ [])
    ≡ and_then (after_steps clauses place c steps) (λ d. after_step clauses (place + length steps) d step)

-- the codes of a clause strictly increase, and its variables are below a number. So it is with a normal
-- clause; besides, the clause of a chain may hold a variable in both signs
pub record IsRisingBelow (vars : ℕ) (c : List ℕ) : Type 0 where
  pub rising : IsStrictlyIncreasing c
  pub below : All (λ l. variable_of l < vars) c

-- the clause of a chain is in order and below a number where the clauses are that the chain may name
abbrev pub ChainsStayBelow : Type 0
ChainsStayBelow = (vars : ℕ) (clauses : List (List ℕ)) (chain : Chain) (clause : List ℕ)
    → All (IsRisingBelow vars) clauses → clause_of clauses chain ≡ Ok clause → IsRisingBelow vars clause

-- all clauses that a log derives from a formula are in order and over its variables
abbrev pub LogsStayBelow : Type 0
LogsStayBelow = (vars : ℕ) (clauses derived : List (List ℕ)) (log : List Chain)
    → IsFormula clauses vars → DerivesClauses clauses log derived → All (IsRisingBelow vars) derived

-- where the chains before one are valid and that one isn't, its fault is the log's first
abbrev pub FirstFaultsStand : Type 0
FirstFaultsStand = (clauses derived : List (List ℕ)) (before after : List Chain) (chain : Chain) (f : ChainFault)
    → DerivesClauses clauses before derived → clause_of (clauses ++ derived) chain ≡ Err f
    → replay clauses [] (before ++ chain ∷ after) ≡ Err (record { chain = length before; fault = f })
