-- What holds between watches, clauses and trail.
use Rattle.std.specs.Prelude.{ℕ, ◌≡◌, ◌*◌, ◌<◌, ◌≤◌, List, [], ◌++◌, All, Contains, length, take, drop, slice_index_or}
use Rattle.std.specs.Prelude.{◌⊎◌, Option, Some, None, IsSome}
use Rattle.am_lit.specs.Literal.{variable_of, opposite_of}
use Rattle.am_lit.specs.UnitRow.{IsForcedBy, IsSettled}
use Rattle.am_lit.specs.SearchLaws.{IsFalseIn}
use Rattle.am_trail.specs.declared.entry.Entry.{Entry}
use Rattle.am_trail.specs.Trails.{Assigned, literals}
use Rattle.am_watch.specs.declared.watcher.Watcher.{Watcher}
use Rattle.am_watch.specs.declared.watcher.Pair.{Pair}
use Rattle.am_watch.specs.Pairs.{IsPairOf, pair_at}
use Rattle.am_watch.specs.Lists.{list_at, IsListed}

-- the clause of a number
abbrev pub clause_at : List (List ℕ) → ℕ → List ℕ
clause_at clauses i = slice_index_or clauses i []

-- some literal of the clause is true, on a level up to this one
abbrev pub IsTrueUpTo : List Entry → List ℕ → ℕ → Type 0
IsTrueUpTo entries c level = (e : Entry) × Contains entries e × Contains c e.literal × (e.level ≤ level)

-- where one of the passed entries made the watched literal false, some literal of the clause is
-- true, on a level up to that entry's
abbrev pub IsGuarded : Assigned → List ℕ → ℕ → Type 0
IsGuarded t c l =
    (e : Entry) → Contains (take t.head t.entries) e → e.literal ≡ opposite_of l
    → IsTrueUpTo t.entries c e.level

-- a clause is watched by two literals
pub record IsWatched (lists : List (List Watcher)) (t : Assigned) (c : List ℕ) (i : ℕ) (p : Pair) : Type 0 where
  pub pair : IsPairOf c p
  pub first_listed : IsListed lists p.first i
  pub second_listed : IsListed lists p.second i
  pub first_guarded : IsGuarded t c p.first
  pub second_guarded : IsGuarded t c p.second

-- a watcher names a clause, a literal of it, and the clause has a pair
pub record IsWatcher (clauses : List (List ℕ)) (pairs : List Pair) (x : Watcher) : Type 0 where
  pub number : x.clause < length clauses
  pub blocker : Contains (clause_at clauses x.clause) x.blocker
  pub pair : IsPairOf (clause_at clauses x.clause) (pair_at pairs x.clause)

-- what watches show: the watchers of each literal, the two watched literals of each clause, and the
-- numbers of the fresh clauses, which aren't watched yet
pub record Watched : Type 0 where
  pub lists : List (List Watcher)
  pub pairs : List Pair
  pub fresh : List ℕ

-- a clause needs no look at it by itself: it is watched, or it is true for good
abbrev pub IsSafe : List (List Watcher) → Assigned → List ℕ → ℕ → Pair → Type 0
IsSafe lists t c i p = IsWatched lists t c i p ⊎ IsTrueUpTo t.entries c 0

-- each clause is fresh, and is looked at by itself at each call, or it needs no such look
pub record KeepsWatches (lists : List (List Watcher)) (pairs : List Pair) (fresh : List ℕ) (clauses : List (List ℕ))
    (t : Assigned) : Type 0 where
  pub numbers : length pairs ≡ length clauses
  pub codes : length lists ≡ 2 * t.vars
  pub variables : (i l : ℕ) → Contains (clause_at clauses i) l → variable_of l < t.vars
  pub queued : (e : Entry) → Contains (drop t.head t.entries) e → e.level ≡ t.level
  pub watchers : (l : ℕ) (x : Watcher) → Contains (list_at lists l) x → IsWatcher clauses pairs x
  pub in_range : (i : ℕ) → Contains fresh i → i < length clauses
  pub kept : (i : ℕ) → i < length clauses
      → Contains fresh i ⊎ IsSafe lists t (clause_at clauses i) i (pair_at pairs i)

-- THE INVARIANT between watches, clauses and trail
abbrev pub WatchesHold : Watched → List (List ℕ) → Assigned → Type 0
WatchesHold w clauses t = KeepsWatches w.lists w.pairs w.fresh clauses t

-- the reason of a literal is a clause that the literals before it force to it
abbrev pub IsReason : List (List ℕ) → List ℕ → ℕ → Option ℕ → Type 0
IsReason clauses row l None = Unit {0}
IsReason clauses row l (Some r) = (r < length clauses) × IsForcedBy row (clause_at clauses r) l

-- each entry from a place on has its reason
abbrev pub IsExplained : ℕ → List (List ℕ) → List Entry → Type 0
IsExplained from clauses entries =
    (k : ℕ) (d : Entry) → from ≤ k → k < length entries
    → IsReason clauses (take k (literals entries))
    (slice_index_or entries k d).literal (slice_index_or entries k d).reason

-- a trail goes on from another one by implied literals of its level, each of which stands in its reason, whose other
-- literals were false before it
pub record Extends (clauses : List (List ℕ)) (t u : Assigned) : Type 0 where
  pub vars : u.vars ≡ t.vars
  pub level : u.level ≡ t.level
  pub more : List Entry
  pub begins : u.entries ≡ t.entries ++ more
  pub implied : All (λ e. IsSome e.reason × (e.level ≡ t.level)) more
  pub explained : IsExplained (length t.entries) clauses u.entries

-- some literal of the clause is true
abbrev pub IsTrueIn : List Entry → List ℕ → Type 0
IsTrueIn entries c = (l : ℕ) × Contains c l × Contains (literals entries) l

-- a literal that only entries of a level made false
abbrev pub IsFalseAt : List Entry → ℕ → ℕ → Type 0
IsFalseAt entries level l = (e : Entry) → Contains entries e → e.literal ≡ opposite_of l → level ≡ e.level

-- each clause is settled and the head stands at the end, or a clause is false
abbrev pub IsPropagated : List (List ℕ) → Assigned → Option ℕ → Type 0
IsPropagated clauses t None = All (IsSettled (literals t.entries)) clauses × (t.head ≡ length t.entries)
IsPropagated clauses t (Some i) = (i < length clauses) × IsFalseIn (literals t.entries) (clause_at clauses i)

-- a trail with no entry
abbrev pub empty_trail : ℕ → Assigned
empty_trail vars = record { vars = vars; entries = []; level = 0; head = 0 }
