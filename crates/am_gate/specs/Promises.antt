-- What steps promise of the gates that they make, and calls of what they give.
use Rattle.std.specs.Prelude.{ℕ, ◌≡◌, ◌+◌, ◌≤◌, false, Result, IfOk, OnErr}
use Rattle.am_gate.specs.Circuit.{Net, AreScoped, Grows, Begins}
use Rattle.am_gate.specs.Build.{Step, Place, past, AreGates, Follows}

-- at most k gates lie between two places, and exactly k where none folds
pub record CountsGates (k : ℕ) (from to : Place) : Type 0 where
  pub most : to.next ≤ from.next + k
  pub exact : from.folding ≡ false → to.next ≡ from.next + k
  pub folding : to.folding ≡ from.folding

-- the step makes at most k gates, each over earlier variables, and exactly k where none folds; what it
-- gives is as Q says of the number of variables
pub record MakesGates {A : Type 0} (m : Step A) (k : ℕ) (Q : ℕ → A → Type 0) (p : Place) : Type 0 where
  pub scoped : AreScoped p.next (m p).events
  pub gates : AreGates (m p).events
  pub counts : CountsGates k p (past p (m p).events)
  pub given : Q (past p (m p).events).next (m p).value

-- a call gave and made what the step does, which is at most k gates, and what it gave is as Q says
pub record GivesStep {A : Type 0} (m : Step A) (k : ℕ) (Q : ℕ → A → Type 0) (old : Net) (result : A) (new : Net)
    : Type 0 where
  pub follows : Follows m old result new
  pub given : Q new.vars result
  pub grows : Grows k old new

-- a call gave and made what the step does, which is at most k gates, and what it gave is as Q says; or it
-- failed, and the circuit is as it was
pub record GivesOrKeeps {A E : Type 0} (m : Step A) (k : ℕ) (Q : ℕ → A → Type 0) (old : Net) (result : Result A E)
    (new : Net) : Type 0 where
  pub ok : IfOk result (λ a. GivesStep m k Q old a new)
  pub err : OnErr result (new ≡ old)
  pub begins : Begins old new
