-- What calls that state something give.
use Rattle.std.specs.Prelude.{ℕ}
use Rattle.am_gate.specs.Build.{Step}
use Rattle.am_gate.specs.Circuit.{Net}
use Rattle.am_gate.specs.Promises.{GivesStep}

-- nothing is known of a value
abbrev pub Any : {A : Type 0} → ℕ → A → Type 0
Any vars a = Unit {0}

-- a call stated what the step does, with at most k gates and clauses
abbrev pub States : Step (Unit {0}) → ℕ → Net → Unit {0} → Net → Type 0
States m k old r new = GivesStep m k Any old r new
