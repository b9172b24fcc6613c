-- What the circuits of operators promise.
use Rattle.std.specs.Prelude.{ℕ, ◌≡◌, ◌<◌, Bool, List, All, length, map}
use Rattle.am_gate.specs.Build.{Place, Means}
use Rattle.am_gate.specs.Promises.{MakesGates}
use Rattle.am_bv.specs.declared.op.Op.{Op}
use Rattle.am_bv.specs.Operators.{arity, apply, weight_of}
use Rattle.am_blast.specs.Words.{reads, ReadsAs, IsWord}
use Rattle.am_blast.specs.Circuits.{circuit_of}

-- the circuit of an operator reads as its value, and makes as many gates as it weighs, or fewer
-- where gates fold
pub record IsCircuitOf (w : ℕ) (op : Op) : Type 0 where
  pub means :
      (v : ℕ → Bool) (args : List (List ℕ)) → length args ≡ arity op → All (λ a. length a ≡ w) args →
      Means v (circuit_of w op args) (ReadsAs v w (apply w op (map (reads v) args)))
  pub makes :
      (p : Place) (args : List (List ℕ)) → 0 < p.next → length args ≡ arity op → All (IsWord w p.next) args →
      MakesGates (circuit_of w op args) (weight_of w op) (IsWord w) p
