-- From truth values of the variables so far to truth values that meet what a step makes.
use Rattle.std.specs.Prelude.{ℕ, ◌≡◌, ◌<◌, Bool}
use Rattle.am_gate.specs.Circuit.{AreScoped}
use Rattle.am_gate.specs.Value.{Meets}
use Rattle.am_gate.specs.Build.{Place, Step, past}

-- the step's events are made over earlier variables, and some truth values, which are those of v below,
-- meet them and are with the step's value as Q says
pub record Reaches {A : Type 0} (v : ℕ → Bool) (m : Step A) (p : Place) (Q : (ℕ → Bool) → Place → A → Type 0)
    : Type 0 where
  pub scoped : AreScoped p.next (m p).events
  pub values : ℕ → Bool
  pub below : (x : ℕ) → x < p.next → values x ≡ v x
  pub meets : Meets values p.next (m p).events
  pub given : Q values (past p (m p).events) (m p).value
