-- Where the variables of a row stand in it, noted for each variable.
use Rattle.std.specs.Prelude.{ℕ, ◌≡◌, ◌≢◌, ◌+◌, ◌-◌, ◌<◌, ◌≤◌, List, length, map, slice_index, filter, not, ◌==◌}
use Rattle.std.specs.List.{range_with_len}
use Rattle.am_lit.specs.Literal.{variable_of}
use Rattle.am_trail.specs.declared.entry.Entry.{Entry}
use Rattle.am_trail.specs.Trails.{literals}

-- the variables of entries
abbrev pub variables : List Entry → List ℕ
variables entries = map variable_of (literals entries)

-- at each variable of the row stands its place plus one, and at each other variable 0
pub record IsPlaced (row places : List ℕ) : Type 0 where
  pub each : (k : ℕ) → k < length row
      → (slice_index row k < length places) × (slice_index places (slice_index row k) ≡ k + 1)
  pub back : (v : ℕ) → v < length places → slice_index places v ≢ 0
      → (slice_index places v ≤ length row) × (slice_index row (slice_index places v - 1) ≡ v)

-- the variables that have a place, in order of their numbers
abbrev pub placed_variables : List ℕ → List ℕ
placed_variables places = filter (λ v. not (slice_index places v == 0)) (range_with_len 0 (length places))
