-- Conflict analysis: the marked places of a trail stand for the literals of the current clause.
use Rattle.std.specs.Prelude.{ℕ, ◌≡◌, ◌≢◌, ◌+◌, ◌<◌, ◌≤◌, Bool, true, false, List, [], drop, length, map, take, ◌-◌}
use Rattle.std.specs.Prelude.{All, Contains, slice_index, slice_index_or, ◌⊎◌, Ok, None, IsSome}
use Rattle.std.specs.List.{count_by}
use Rattle.std.specs.List.Sorted.{IsStrictlyIncreasing}
use Rattle.am_lit.specs.Literal.{opposite_of, variable_of}
use Rattle.am_lit.specs.UnitRow.{IsForcedBy, IsSettled}
use Rattle.am_trail.specs.declared.entry.Entry.{Entry}
use Rattle.am_trail.specs.Trails.{literals, Assigned, upto}
use Rattle.am_chain.specs.declared.chain.Step.{Step}
use Rattle.am_chain.specs.Chains.{after_steps}
use Rattle.am_chain.specs.inside.Marks.{mark_at}

-- the clause has exactly the opposites of the literals at the marked places
pub record IsMarked (row : List ℕ) (marks : List Bool) (c : List ℕ) : Type 0 where
  pub has : (m : ℕ) → Contains c m →
      (k : ℕ) × (k < length row) × (mark_at marks k ≡ true) × (m ≡ opposite_of (slice_index row k))
  pub gives : (k : ℕ) → k < length row → mark_at marks k ≡ true → Contains c (opposite_of (slice_index row k))

-- the marks from a place on are counted, and those before it are kept as literals
pub record IsCounted (row : List ℕ) (start : ℕ) (marks : List Bool) (kept : List ℕ) (counted : ℕ) : Type 0 where
  pub count : counted ≡ count_by (λ b. b) (drop start marks)
  pub has : (m : ℕ) → Contains kept m →
      (k : ℕ) × (k < start) × (mark_at marks k ≡ true) × (m ≡ opposite_of (slice_index row k))
  pub gives : (k : ℕ) → k < start → mark_at marks k ≡ true → Contains kept (opposite_of (slice_index row k))

-- the places of the false literals of a clause are marked too, but for one literal
pub record IsMarkedMore (row : List ℕ) (old new : List Bool) (c : List ℕ) (besides : ℕ) : Type 0 where
  pub count : length new ≡ length old
  pub keeps : (k : ℕ) → mark_at old k ≡ true → mark_at new k ≡ true
  pub there : (m : ℕ) → Contains c m → m ≢ besides →
      (k : ℕ) × (k < length row) × (mark_at new k ≡ true) × (m ≡ opposite_of (slice_index row k))
  pub within : (k : ℕ) → mark_at new k ≡ true
      → (mark_at old k ≡ true)
      ⊎ ((m : ℕ) × (k < length row) × Contains c m × (m ≢ besides) × (m ≡ opposite_of (slice_index row k)))

-- the opposites of the literals at the marked places before a place
pub record AreKeptLiterals (row : List ℕ) (start : ℕ) (marks : List Bool) (kept : List ℕ) : Type 0 where
  pub has : (m : ℕ) → Contains kept m →
      (k : ℕ) × (k < start) × (mark_at marks k ≡ true) × (m ≡ opposite_of (slice_index row k))
  pub gives : (k : ℕ) → k < start → mark_at marks k ≡ true → Contains kept (opposite_of (slice_index row k))

-- the steps from a first clause come to a rising clause, which is marked
pub record IsReachedClause (clauses : List (List ℕ)) (row : List ℕ) (marks : List Bool) (first : ℕ) (steps : List Step)
    : Type 0 where
  pub current : List ℕ
  pub derived : after_steps clauses 1 (slice_index_or clauses first []) steps ≡ Ok current
  pub rises : IsStrictlyIncreasing current
  pub marked : IsMarked row marks current
  pub named : All (λ (s : Step). Contains (map variable_of row) s.variable) steps

-- no place from i on is marked any more
pub record IsDerivedDownTo (clauses : List (List ℕ)) (row : List ℕ) (marks : List Bool) (first : ℕ) (steps : List Step)
    (i : ℕ) : Type 0 where
  pub reached : IsReachedClause clauses row marks first steps
  pub above : (k : ℕ) → i ≤ k → mark_at marks k ≡ false
  pub few : length steps + i ≤ length row

-- of the places from i on only decided ones are marked; and where the literals before a place settle
-- all clauses, some place from there on is marked
pub record IsResolved (clauses : List (List ℕ)) (entries : List Entry) (marks : List Bool) (first : ℕ)
    (steps : List Step) (i : ℕ) : Type 0 where
  pub reached : IsReachedClause clauses (literals entries) marks first steps
  pub decided : (k : ℕ) (d : Entry) → i ≤ k → mark_at marks k ≡ true → (slice_index_or entries k d).reason ≡ None
  pub few : length steps + i ≤ length entries
  pub reaches : (start : ℕ) → All (IsSettled (take start (literals entries))) clauses
      → (k : ℕ) × (start ≤ k) × (mark_at marks k ≡ true)

-- one literal from the place `start` on is left, at a place; the others are kept
pub record IsUnique (clauses : List (List ℕ)) (row : List ℕ) (start first : ℕ) (marks : List Bool) (kept : List ℕ)
    (steps : List Step) (place : ℕ) : Type 0 where
  pub high : start ≤ place
  pub inside : place < length row
  pub here : mark_at marks place ≡ true
  pub only : (k : ℕ) → start ≤ k → mark_at marks k ≡ true → k ≡ place
  pub keeps : AreKeptLiterals row start marks kept
  pub reached : IsReachedClause clauses row marks first steps
  pub few : length steps ≤ length row

-- one literal of the current level is left
pub record IsAnalysedConflict (clauses : List (List ℕ)) (t : Assigned) (first : ℕ) (kept : List ℕ) (steps : List Step)
    (place : ℕ) : Type 0 where
  pub marks : List Bool
  pub start : ℕ
  pub low : literals (upto (t.level - 1) t.entries) ≡ take start (literals t.entries)
  pub unique : IsUnique clauses (literals t.entries) start first marks kept steps place

-- the literal is the opposite of a decided one
abbrev pub OpposesDecision : List Entry → ℕ → Type 0
OpposesDecision entries m = (e : Entry) × Contains entries e × (e.reason ≡ None) × (m ≡ opposite_of e.literal)

-- the literal at a place was decided
abbrev pub WasDecided : List Entry → ℕ → Type 0
WasDecided entries place = OpposesDecision entries (opposite_of (slice_index (literals entries) place))

-- a clause forces the literal at a place by the literals before it
abbrev pub IsReasonAt : List (List ℕ) → List ℕ → ℕ → ℕ → Type 0
IsReasonAt clauses row r i = IsForcedBy (take i row) (slice_index_or clauses r []) (slice_index row i)

-- the literal at a place can be resolved away: it is marked and counted, and a clause in order forced it
pub record CanResolve (clauses : List (List ℕ)) (entries : List Entry) (marks : List Bool) (start reason i : ℕ)
    : Type 0 where
  pub number : reason < length clauses
  pub forced : IsReasonAt clauses (literals entries) reason i
  pub rises : IsStrictlyIncreasing (slice_index_or clauses reason [])
  pub inside : i < length entries
  pub marked : mark_at marks i ≡ true
  pub high : start ≤ i

-- the entries after a place were implied
abbrev pub AreImpliedAfter : ℕ → List Entry → Type 0
AreImpliedAfter start entries =
    (k : ℕ) (d : Entry) → start < k → k < length entries → IsSome (slice_index_or entries k d).reason

-- a clause has the opposite of a literal from a place on
abbrev pub HasOpposite : List ℕ → ℕ → List ℕ → Type 0
HasOpposite row start c =
    (k : ℕ) × (start ≤ k) × (k < length row) × Contains c (opposite_of (slice_index row k))

-- from a place on a clause leads to one literal: it has the opposite of one there, and those after the first were
-- implied
pub record LeadsToOne (clauses : List (List ℕ)) (entries : List Entry) (start conflict : ℕ) : Type 0 where
  pub implied : AreImpliedAfter start entries
  pub reaches : HasOpposite (literals entries) start (slice_index_or clauses conflict [])
