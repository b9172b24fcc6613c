-- Variables in the order of their activities.
use Rattle.std.specs.Prelude.{ℕ, ◌≡◌, ◌≢◌, ◌<◌, ◌^◌, ◌↔◌, ◌⊎◌, ◌==◌, ◌&&◌, ◌||◌, Bool, IsTrue, List, All, Contains}
use Rattle.std.specs.Prelude.{length, slice_index, nat_lt}
use Rattle.std.specs.List.Sorted.{IsStrictlyIncreasing}

-- what an order shows: the activity of each variable, and the variables that it holds
pub record Ranked : Type 0 where
  pub activities : List ℕ
  pub held : List ℕ

-- a variable comes before another one: it is more active, or as active and its number is smaller
abbrev pub comes_before : List ℕ → ℕ → ℕ → Bool
comes_before activities v w =
    nat_lt (slice_index activities w) (slice_index activities v)
    || (slice_index activities v == slice_index activities w && nat_lt v w)

-- a held variable that comes before all other held ones
pub record IsFirst (order : Ranked) (v : ℕ) : Type 0 where
  pub held : Contains order.held v
  pub before : All (λ w. w ≢ v → IsTrue (comes_before order.activities v w)) order.held

-- a variable is held too, and all else stays
pub record HoldsAlso (v : ℕ) (old new : Ranked) : Type 0 where
  pub activities : new.activities ≡ old.activities
  pub held : (w : ℕ) → Contains new.held w ↔ (Contains old.held w ⊎ (w ≡ v))

-- a variable is held no more, and all else stays
pub record HoldsAllBut (v : ℕ) (old new : Ranked) : Type 0 where
  pub activities : new.activities ≡ old.activities
  pub held : (w : ℕ) → Contains new.held w ↔ (Contains old.held w × (w ≢ v))

-- what is known of each order
pub record IsRanked (order : Ranked) : Type 0 where
  -- the held variables stand in order of their numbers, each once
  pub rising : IsStrictlyIncreasing order.held
  pub below : All (λ v. v < length order.activities) order.held
  pub small : length order.activities < 2 ^ 32
