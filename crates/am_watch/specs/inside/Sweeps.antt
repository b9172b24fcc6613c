-- What visits of watchers and looks at fresh clauses leave.
use Rattle.std.specs.Prelude.{ℕ, ◌≡◌, ◌≢◌, ◌+◌, ◌<◌, List, Contains, length, slice_index_or, Option, Some, None}
use Rattle.am_lit.specs.Literal.{opposite_of}
use Rattle.am_lit.specs.SearchLaws.{IsFalseIn}
use Rattle.am_trail.specs.declared.entry.Entry.{Entry}
use Rattle.am_trail.specs.Trails.{Assigned, literals}
use Rattle.am_watch.specs.declared.watcher.Watcher.{Watcher}
use Rattle.am_watch.specs.declared.watcher.Pair.{Pair}
use Rattle.am_watch.specs.declared.watcher.Visit.{Visit}
use Rattle.am_watch.specs.declared.watcher.Visit.TheVariants.{Stays, Goes, Conflicts}
use Rattle.am_watch.specs.Pairs.{IsPairOf, other_of, pair_at}
use Rattle.am_watch.specs.Lists.{list_at}
use Rattle.am_watch.specs.inside.Rows.{IsCutAt, IsKeptAt}
use Rattle.am_watch.specs.Watching.{IsTrueIn, clause_at}

-- what became of the watcher at a place in the list of a literal
abbrev pub IsVisited : List (List ℕ) → ℕ → ℕ → List (List Watcher) → List (List Watcher) → List Entry
    → Visit → Type 0
IsVisited clauses l j old new entries Stays =
    IsKeptAt j (list_at old l) (list_at new l)
    × ((d : Watcher) → IsTrueIn entries (clause_at clauses (slice_index_or (list_at new l) j d).clause))
IsVisited clauses l j old new entries Goes = IsCutAt j (list_at old l) (list_at new l)
IsVisited clauses l j old new entries (Conflicts i) =
    (i < length clauses) × IsFalseIn (literals entries) (clause_at clauses i)

-- the watcher at a place in the list of a false literal may turn to another literal of its clause
pub record IsWatchTurn (lists : List (List Watcher)) (pairs : List Pair) (clauses : List (List ℕ)) (row : List ℕ)
    (l j i other' next' : ℕ) : Type 0 where
  pub place : j < length (list_at lists l)
  pub number : i < length clauses
  pub here : (d : Watcher) → (slice_index_or (list_at lists l) j d).clause ≡ i
  pub pair : IsPairOf (clause_at clauses i) (pair_at pairs i)
  pub other : other' ≡ other_of (pair_at pairs i) l
  pub next : Contains (clause_at clauses i) next'
  pub differ : next' ≢ other'
  pub unfalse : ¬ (Contains row (opposite_of next'))
  pub untrue : Contains row (opposite_of l)

-- all watchers of a literal have true clauses, or a clause is false
abbrev pub IsSwept : List (List ℕ) → ℕ → List (List Watcher) → List Entry → Option ℕ → Type 0
IsSwept clauses l lists entries None =
    (x : Watcher) → Contains (list_at lists l) x → IsTrueIn entries (clause_at clauses x.clause)
IsSwept clauses l lists entries (Some i) = (i < length clauses) × IsFalseIn (literals entries) (clause_at clauses i)

-- what became of the fresh clause at a place
abbrev pub IsLookedAt : List (List ℕ) → ℕ → List ℕ → List ℕ → List Entry → Visit → Type 0
IsLookedAt clauses k old new entries Stays =
    (new ≡ old) × ((d : ℕ) → IsTrueIn entries (clause_at clauses (slice_index_or old k d)))
IsLookedAt clauses k old new entries Goes = IsCutAt k old new
IsLookedAt clauses k old new entries (Conflicts i) =
    (i < length clauses) × IsFalseIn (literals entries) (clause_at clauses i)

-- all fresh clauses are true, or a clause is false
abbrev pub AreLookedAt : List (List ℕ) → List ℕ → List Entry → Option ℕ → Type 0
AreLookedAt clauses fresh entries None = (i : ℕ) → Contains fresh i → IsTrueIn entries (clause_at clauses i)
AreLookedAt clauses fresh entries (Some i) = (i < length clauses) × IsFalseIn (literals entries) (clause_at clauses i)

-- the head passed one entry, or a clause is false
abbrev pub HasStepped : List (List ℕ) → Assigned → Assigned → Option ℕ → Type 0
HasStepped clauses t u None = u.head ≡ t.head + 1
HasStepped clauses t u (Some i) = (i < length clauses) × IsFalseIn (literals u.entries) (clause_at clauses i)
