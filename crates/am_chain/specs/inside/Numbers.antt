-- The numbers that the chains of a log name, and numbers that are moved by a list.
use Rattle.std.specs.Prelude.{ℕ, ◌≡◌, ◌+◌, ◌-◌, ◌<◌, ◌≤◌, ◌↔◌, ◌⊎◌, Bool, IsTrue, length, List, Some, slice_get}
use Rattle.std.specs.Prelude.{slice_index, if◌then◌else◌, nat_lt}
use Rattle.am_chain.specs.declared.chain.Chain.{Chain}
use Rattle.am_chain.specs.Trimmed.{Names}

-- each chain names only clauses that stand before its own
abbrev pub NamesBelow : ℕ → List Chain → Type 0
NamesBelow given log = (k : ℕ) (chain : Chain) → slice_get log k ≡ Some chain → (n : ℕ) → Names chain n → n < given + k

-- a number that is moved where it is past the given clauses, by a list of places
abbrev pub renumbered : ℕ → List ℕ → ℕ → ℕ
renumbered given before n = if nat_lt n given then n else given + slice_index before (n - given)

-- the last chain is marked, and each that a marked chain names, from a place on; no other is
abbrev pub AreNeededFrom : ℕ → ℕ → List Chain → (ℕ → Bool) → Type 0
AreNeededFrom from given log keeps = (k : ℕ) → k < length log
    → IsTrue (keeps k) ↔ ((k + 1 ≡ length log)
    ⊎ ((j : ℕ) × (chain : Chain) × (slice_get log j ≡ Some chain) × (from ≤ j) × IsTrue (keeps j)
    × Names chain (given + k)))
