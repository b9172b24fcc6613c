-- What the choice of the next decision keeps true.
use Rattle.std.specs.Prelude.{ℕ, ◌≡◌, ◌<◌, Bool, List, All, Contains, length, ◌⊎◌}
use Rattle.am_lit.specs.Literal.{variable_of}
use Rattle.am_lit.specs.UnitRow.{IsFree}
use Rattle.am_trail.specs.Orders.{Ranked}
use Rattle.am_trail.specs.Trails.{Assigned, HasValue, literals}
use Rattle.am_trail.specs.declared.entry.Entry.{Entry}

-- each variable below a number has a value
abbrev pub IsTotal : ℕ → List Entry → Type 0
IsTotal vars entries = (v : ℕ) → v < vars → HasValue entries v

-- each variable is held or has a value
pub record IsReady (order : Ranked) (phases : List Bool) (vars : ℕ) (entries : List Entry) : Type 0 where
  pub activities : length order.activities ≡ vars
  pub phases_len : length phases ≡ vars
  pub held : (v : ℕ) → v < vars → Contains order.held v ⊎ HasValue entries v

-- only activities changed
pub record KeepsHeld (old new : Ranked) : Type 0 where
  pub activities : length new.activities ≡ length old.activities
  pub held : new.held ≡ old.held

-- a literal that may be decided: one of a list's variables, while some of them has no value
pub record IsPick (t : Assigned) (first : List ℕ) (l : ℕ) : Type 0 where
  pub below : variable_of l < t.vars
  pub free : IsFree (literals t.entries) l
  pub preferred : Contains first (variable_of l) ⊎ All (HasValue t.entries) first
