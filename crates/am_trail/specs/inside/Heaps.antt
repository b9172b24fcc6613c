-- Binary heaps of variables, in the order of their activities.
use Rattle.std.specs.Prelude.{ℕ, ◌≡◌, ◌-◌, ◌/◌, ◌<◌, ◌≤◌, List, length, slice_index, false, ◌≢◌, ◌^◌}
use Rattle.am_trail.specs.Orders.{comes_before}
use Rattle.am_trail.specs.inside.Places.{IsPlaced, placed_variables}

-- the place of a place's parent
abbrev pub parent_of : ℕ → ℕ
parent_of i = (i - 1) / 2

-- the variable at a place doesn't come before the one at another place
abbrev pub IsAfter : List ℕ → List ℕ → ℕ → ℕ → Type 0
IsAfter activities heap i j = comes_before activities (slice_index heap i) (slice_index heap j) ≡ false

-- no variable comes before its parent, where that stands at a place or after it
abbrev pub IsHeapFrom : ℕ → List ℕ → List ℕ → Type 0
IsHeapFrom low activities heap =
    (i : ℕ) → 0 < i → i < length heap → low ≤ parent_of i → IsAfter activities heap i (parent_of i)

-- an indexed heap of variables, with room for all of them
pub record IsIndexedHeap (activities heap places : List ℕ) (capacity : ℕ) : Type 0 where
  pub placed : IsPlaced heap places
  pub ordered : IsHeapFrom 0 activities heap
  pub count : length activities ≡ length places
  pub room : length places ≤ capacity
  pub small : length places < 2 ^ 32

-- only the variable at a place may come before its parent
pub record Rises (activities heap : List ℕ) (k : ℕ) : Type 0 where
  pub others : (i : ℕ) → 0 < i → i < length heap → i ≢ k → IsAfter activities heap i (parent_of i)
  pub children : (i : ℕ) → 0 < i → i < length heap → parent_of i ≡ k → 0 < k
      → IsAfter activities heap i (parent_of k)

-- among the places from one on, only children of the variable at a place may come before it
pub record Sinks (low : ℕ) (activities heap : List ℕ) (k : ℕ) : Type 0 where
  pub others : (i : ℕ) → 0 < i → i < length heap → low ≤ parent_of i → parent_of i ≢ k
      → IsAfter activities heap i (parent_of i)
  pub children : (i : ℕ) → 0 < i → i < length heap → parent_of i ≡ k → 0 < k → low ≤ parent_of k
      → IsAfter activities heap i (parent_of k)

-- a child of a place that no other child comes before
pub record IsFirstChild (activities heap : List ℕ) (k c : ℕ) : Type 0 where
  pub inside : c < length heap
  pub child : (0 < c) × (parent_of c ≡ k)
  pub first : (i : ℕ) → 0 < i → i < length heap → parent_of i ≡ k → IsAfter activities heap i c

-- the variables in a row and their places were moved
pub record IsMoved (heap places heap' places' : List ℕ) : Type 0 where
  pub placed : IsPlaced heap' places'
  pub count : length heap' ≡ length heap
  pub vars : length places' ≡ length places
  pub held : placed_variables places' ≡ placed_variables places
