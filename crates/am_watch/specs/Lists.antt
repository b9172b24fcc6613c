-- The lists of watchers.
use Rattle.std.specs.Prelude.{ℕ, ◌≡◌, List, [], Contains, slice_index_or}
use Rattle.am_watch.specs.declared.watcher.Watcher.{Watcher}

-- the watchers of a literal
abbrev pub list_at : List (List Watcher) → ℕ → List Watcher
list_at lists l = slice_index_or lists l []

-- a literal's list names a clause
abbrev pub IsListed : List (List Watcher) → ℕ → ℕ → Type 0
IsListed lists l i = (x : Watcher) × Contains (list_at lists l) x × (x.clause ≡ i)
