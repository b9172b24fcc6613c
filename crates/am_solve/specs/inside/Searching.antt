-- What the search keeps true between trail, watches, clauses and log.
use Rattle.std.specs.Prelude.{ℕ, ◌≡◌, ◌<◌, ◌≤◌, List, [], ◌++◌, All, Contains, length, slice_index_or, Option, Some}
use Rattle.std.specs.Prelude.{None}
use Rattle.std.specs.List.Sorted.{IsStrictlyIncreasing}
use Rattle.am_lit.specs.Clause.{IsNormal}
use Rattle.am_lit.specs.Literal.{variable_of}
use Rattle.am_lit.specs.SearchLaws.{IsFalseIn}
use Rattle.am_lit.specs.UnitRow.{AllNew, IsClauseOver, IsSettled}
use Rattle.am_chain.specs.declared.chain.Chain.{Chain}
use Rattle.am_chain.specs.Replay.{DerivesClauses}
use Rattle.am_trail.specs.declared.entry.Entry.{Entry}
use Rattle.am_trail.specs.Trails.{literals, Assigned, upto}
use Rattle.am_solve.specs.inside.Choosing.{IsTotal}
use Rattle.am_watch.specs.Watching.{IsExplained, Watched, WatchesHold}

-- each clause is settled by the literals of each level below this one
abbrev pub SettledBelow : List (List ℕ) → List Entry → ℕ → Type 0
SettledBelow clauses entries level = (i : ℕ) → i < level → All (IsSettled (literals (upto i entries))) clauses

-- THE INVARIANT of the search, over the formula's clauses and the learnt ones
pub record IsSearching (given learnt : List (List ℕ)) (vars : ℕ) (log : List Chain) (watch : Watched) (t : Assigned)
    : Type 0 where
  pub width : t.vars ≡ vars
  pub holds : WatchesHold watch (given ++ learnt) t
  pub explained : IsExplained 0 (given ++ learnt) t.entries
  pub below : SettledBelow (given ++ learnt) t.entries t.level
  pub normal : All (IsNormal vars) (given ++ learnt)
  pub derives : DerivesClauses given log learnt
  pub new : AllNew given learnt
  pub steps : All (λ chain. length chain.steps ≤ vars) log

-- the clause is over the variables of a list alone, and only variables of the list were decided
pub record KeepsTo (base : List ℕ) (learnt : List (List ℕ)) (entries : List Entry) : Type 0 where
  pub over : All (IsClauseOver base) learnt
  pub decided : (e : Entry) → Contains entries e → e.reason ≡ None → Contains base (variable_of e.literal)

-- the clause of a number is false
abbrev pub IsFalseClause : List (List ℕ) → List Entry → ℕ → Type 0
IsFalseClause clauses entries i = IsFalseIn (literals entries) (slice_index_or clauses i [])

-- a clause is false, and can be traced back: the clauses are in order, and each implied literal has its reason
pub record IsConflict (clauses : List (List ℕ)) (entries : List Entry) (conflict : ℕ) : Type 0 where
  pub number : conflict < length clauses
  pub untrue : IsFalseClause clauses entries conflict
  pub rise : All IsStrictlyIncreasing clauses
  pub explained : IsExplained 0 clauses entries

-- a clause is false; or all are settled, and each variable has a value
abbrev pub HasDescended : List (List ℕ) → ℕ → List Entry → Option ℕ → Type 0
HasDescended clauses vars entries (Some i) = (i < length clauses) × IsFalseClause clauses entries i
HasDescended clauses vars entries None = All (IsSettled (literals entries)) clauses × IsTotal vars entries
