-- Lists of watchers that change.
use Rattle.std.specs.Prelude.{ℕ, ◌≡◌, ◌≢◌, ◌+◌, ◌<◌, List, Contains, length, slice_index_or, ◌⊎◌}
use Rattle.am_watch.specs.declared.watcher.Watcher.{Watcher}
use Rattle.am_watch.specs.Lists.{list_at}

-- a watcher came to the list of a literal
pub record IsLonger (l : ℕ) (w : Watcher) (lists new : List (List Watcher)) : Type 0 where
  pub count : length new ≡ length lists
  pub keeps : (m : ℕ) (x : Watcher) → Contains (list_at lists m) x → Contains (list_at new m) x
  pub there : Contains (list_at new l) w
  pub within : (m : ℕ) (x : Watcher) → Contains (list_at new m) x → Contains (list_at lists m) x ⊎ (x ≡ w)
  pub others : (m : ℕ) → m ≢ l → list_at new m ≡ list_at lists m

-- the watcher at a place went from the list of a literal
pub record IsShorter (l j : ℕ) (lists new : List (List Watcher)) : Type 0 where
  pub count : length new ≡ length lists
  pub shorter : length (list_at new l) + 1 ≡ length (list_at lists l)
  pub begins : (k : ℕ) (d : Watcher) → k < j
      → slice_index_or (list_at new l) k d ≡ slice_index_or (list_at lists l) k d
  pub keeps : (x : Watcher) → Contains (list_at lists l) x
      → Contains (list_at new l) x ⊎ ((d : Watcher) → x ≡ slice_index_or (list_at lists l) j d)
  pub within : (x : Watcher) → Contains (list_at new l) x → Contains (list_at lists l) x
  pub others : (m : ℕ) → m ≢ l → list_at new m ≡ list_at lists m

-- a list is as long as before, and the elements before a place stand as they did
pub record IsKeptAt {X : Type 0} (j : ℕ) (row new : List X) : Type 0 where
  pub same : length new ≡ length row
  pub begins : (k : ℕ) (d : X) → k < j → slice_index_or new k d ≡ slice_index_or row k d

-- a list lost an element, and those before a place stand as they did
pub record IsCutAt {X : Type 0} (j : ℕ) (row new : List X) : Type 0 where
  pub shorter : length new + 1 ≡ length row
  pub begins : (k : ℕ) (d : X) → k < j → slice_index_or new k d ≡ slice_index_or row k d
