-- Laws of the invariant between watches, clauses and trail: each step of the trail keeps it. The functions of
-- `watch_laws` prove them.
use Rattle.std.specs.Prelude.{ℕ, ◌≡◌, ◌≤◌, List, length}
use Rattle.am_trail.specs.Trails.{Assigned, IsTrail, decided, implied, returned}
use Rattle.am_watch.specs.Watching.{Watched, WatchesHold}

-- a decision keeps the invariant where all entries were passed
abbrev pub DecisionsKeepWatches : Type 0
DecisionsKeepWatches = (w : Watched) (clauses : List (List ℕ)) (t : Assigned) (l : ℕ) → WatchesHold w clauses t
    → t.head ≡ length t.entries → WatchesHold w clauses (decided t l)

-- an implication keeps it, whatever clause is its reason
abbrev pub ImplicationsKeepWatches : Type 0
ImplicationsKeepWatches = (w : Watched) (clauses : List (List ℕ)) (t : Assigned) (l reason : ℕ) → IsTrail t
    → WatchesHold w clauses t → WatchesHold w clauses (implied t l reason)

-- a return to a level keeps it, with no repair
abbrev pub ReturnsKeepWatches : Type 0
ReturnsKeepWatches = (w : Watched) (clauses : List (List ℕ)) (t : Assigned) (level : ℕ) → IsTrail t → level ≤ t.level
    → WatchesHold w clauses t → WatchesHold w clauses (returned t level)
