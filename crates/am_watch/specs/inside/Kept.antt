-- The invariant, said of the struct that keeps it.
use Rattle.std.specs.Prelude.{ℕ, List}
use Rattle.am_trail.specs.Trails.{Assigned}
use Rattle.am_watch.specs.declared.watches.Watches.{Watches}
use Rattle.am_watch.specs.Watching.{KeepsWatches}

-- the invariant of the fields, with the clauses and the trail
abbrev pub AreKeptWatches : Watches → List (List ℕ) → Assigned → Type 0
AreKeptWatches w clauses t = KeepsWatches w.lists w.pairs.items w.fresh.items clauses t
