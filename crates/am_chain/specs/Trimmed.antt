-- Logs without the chains that their last one doesn't need.
use Rattle.std.specs.Prelude.{ℕ, zero, suc, All, ◌≡◌, ◌+◌, ◌-◌, ◌<◌, ◌↔◌, ◌⊎◌, Bool, List, [], ◌∷◌, Contains, length}
use Rattle.std.specs.Prelude.{map, Some, slice_get, IsTrue, if◌then◌else◌, nat_lt}
use Rattle.am_chain.specs.declared.chain.Step.{Step}
use Rattle.am_chain.specs.declared.chain.Chain.{Chain}

-- a chain names a clause, at its start or at a step
abbrev pub Names : Chain → ℕ → Type 0
Names chain n = (chain.first ≡ n) ⊎ ((step : Step) × Contains chain.steps step × (step.clause ≡ n))

-- a log's last chain is kept, and each chain that a kept one names; no other is
abbrev pub AreNeeded : ℕ → List Chain → (ℕ → Bool) → Type 0
AreNeeded given log keeps = (k : ℕ) → k < length log
    → IsTrue (keeps k) ↔ ((k + 1 ≡ length log)
    ⊎ ((j : ℕ) × (chain : Chain) × (slice_get log j ≡ Some chain) × IsTrue (keeps j) × Names chain (given + k)))

-- how many of the first chains are kept
abbrev pub kept_below : (ℕ → Bool) → ℕ → ℕ
kept_below keeps zero = 0
kept_below keeps (suc k) = kept_below keeps k + (if keeps k then 1 else 0)

-- the number of a clause where only the kept chains stand after the given clauses
abbrev pub moved_number : ℕ → (ℕ → Bool) → ℕ → ℕ
moved_number given keeps n = if nat_lt n given then n else given + kept_below keeps (n - given)

-- a step with its clause's number moved
abbrev pub moved_step : (ℕ → ℕ) → Step → Step
moved_step move step = record { variable = step.variable; clause = move step.clause }

-- a chain with its numbers moved
abbrev pub moved_chain : (ℕ → ℕ) → Chain → Chain
moved_chain move chain = record { first = move chain.first; steps = map (moved_step move) chain.steps }

-- the kept chains of a log that starts at a place, with their numbers moved
abbrev pub kept_chains : (ℕ → ℕ) → (ℕ → Bool) → ℕ → List Chain → List Chain
kept_chains move keeps place [] = []
kept_chains move keeps place (chain ∷ log) =
    if keeps place then moved_chain move chain ∷ kept_chains move keeps (suc place) log
    else kept_chains move keeps (suc place) log

-- the chains of a log that its last one needs, in order and with their numbers moved
pub record IsTrimmed (given : ℕ) (log kept : List Chain) : Type 0 where
  pub keeps : ℕ → Bool
  pub needed : AreNeeded given log keeps
  pub chains : kept ≡ kept_chains (moved_number given keeps) keeps 0 log

-- each chain of a trimmed log is one of the log's, and resolves on the same variables in the same order
abbrev pub TrimmedChainsAreTheLogs : Type 0
TrimmedChainsAreTheLogs = (given : ℕ) (log kept : List Chain) → IsTrimmed given log kept
    → All (λ trimmed. (chain : Chain) × Contains log chain
    × (map (λ step. step.variable) trimmed.steps ≡ map (λ step. step.variable) chain.steps)) kept
