-- Trails: lists of decided and implied literals.
use Rattle.std.specs.Prelude.{ℕ, ◌≡◌, ◌+◌, ◌≤◌, ◌<◌, ◌^◌, length, map, slice_index, slice_index_or, List, [], ◌∷◌, ◌++◌}
use Rattle.std.specs.Prelude.{None, Some, IsSome, filter, nat_le, min, ◌⊎◌, Contains}
use Rattle.am_lit.specs.Literal.{variable_of}
use Rattle.am_trail.specs.declared.entry.Entry.{Entry}

-- what a trail shows: the number of variables, the entries, the current level, and how many entries were passed
pub record Assigned : Type 0 where
  pub vars : ℕ
  pub entries : List Entry
  pub level : ℕ
  pub head : ℕ

-- the literals of entries
abbrev pub literals : List Entry → List ℕ
literals entries = map (λ e. e.literal) entries

-- an entry is decided at a new level, or implied at the current one
abbrev pub IsNextEntry : ℕ → Entry → Type 0
IsNextEntry level e = ((e.reason ≡ None) × (e.level ≡ level + 1)) ⊎ (IsSome e.reason × (e.level ≡ level))

-- the entries lead from one level to another
abbrev pub Leads : ℕ → List Entry → ℕ → Type 0
Leads from [] to = from ≡ to
Leads from (e ∷ es) to = IsNextEntry from e × Leads e.level es to

-- the entries of the levels up to this one
abbrev pub upto : ℕ → List Entry → List Entry
upto level entries = filter (λ e. nat_le e.level level) entries

-- a variable has a value
abbrev pub HasValue : List Entry → ℕ → Type 0
HasValue entries v = Contains (map variable_of (literals entries)) v

-- the entry at a place
abbrev pub IsEntryAt : List Entry → ℕ → Entry → Type 0
IsEntryAt entries i e = (d : Entry) → e ≡ slice_index_or entries i d

-- what is said of the entry of a variable, of which there is one at most
abbrev pub OfVariable : List Entry → ℕ → (Entry → Type 0) → Type 0
OfVariable entries v Says = (e : Entry) → Contains entries e → variable_of e.literal ≡ v → Says e

-- the trail after a decision: one more literal, at a new level
abbrev pub decided : Assigned → ℕ → Assigned
decided t l =
    let level = t.level + 1 in
    record t { entries = t.entries ++ record { literal = l; level = level; reason = None } ∷ []; level = level }

-- the trail after an implication: one more literal at the current level, with its reason
abbrev pub implied : Assigned → ℕ → ℕ → Assigned
implied t l reason =
    record t { entries = t.entries ++ record { literal = l; level = t.level; reason = Some reason } ∷ [] }

-- the trail after a return: the entries of the levels up to this one, and the head at most at their number
abbrev pub returned : Assigned → ℕ → Assigned
returned t level =
    let entries = upto level t.entries in
    record t { entries = entries; level = level; head = min t.head (length entries) }

-- what is known of each trail
pub record IsTrail (t : Assigned) : Type 0 where
  -- no variable stands in it twice
  pub apart : (i j : ℕ) → i < length t.entries → j < length t.entries
      → variable_of (slice_index (literals t.entries) i) ≡ variable_of (slice_index (literals t.entries) j)
      → i ≡ j
  pub below : (i : ℕ) → i < length t.entries → variable_of (slice_index (literals t.entries) i) < t.vars
  pub few : length t.entries ≤ t.vars
  pub leads : Leads 0 t.entries t.level
  pub passed : t.head ≤ length t.entries
  pub small : t.vars < 2 ^ 32
