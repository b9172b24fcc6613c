-- Each operator's circuit reads as its value, and has as many gates as it weighs.
use Rattle.std.proofs.Common.{ℕ, ◌≤◌}
use Rattle.am_bv.specs.declared.op.Op.{Op}
use Rattle.am_bv.specs.declared.op.Op.TheVariants.{Not, Neg, And, Or, Xor, Add, Sub, Mul, Udiv, Urem, Shl, Lshr, Ashr}
use Rattle.am_bv.specs.declared.op.Op.TheVariants.{Eq, Ult, Ule, Slt, Sle, Umin, Umax, Smin, Smax, Ite}
use Rattle.am_blast.specs.Promises.{IsCircuitOf}
use Rattle.am_blast.proofs.Logic.{not-circuit, and-circuit, or-circuit, xor-circuit}
use Rattle.am_blast.proofs.Sums.{neg-circuit, add-circuit, sub-circuit}
use Rattle.am_blast.proofs.Comparisons.{ult-circuit, ule-circuit, slt-circuit, sle-circuit, umin-circuit, umax-circuit}
use Rattle.am_blast.proofs.Comparisons.{smin-circuit, smax-circuit}
use Rattle.am_blast.proofs.Products.{mul-circuit}
use Rattle.am_blast.proofs.Division.{udiv-circuit, urem-circuit}
use Rattle.am_blast.proofs.Equality.{eq-circuit, ite-circuit}
use Rattle.am_blast.proofs.Shifts.{shl-circuit, lshr-circuit, ashr-circuit}

-- each operator's circuit is one of the operator
pub circuit : (w : ℕ) → 1 ≤ w → (op : Op) → IsCircuitOf w op
circuit w one Not = not-circuit w
circuit w one Neg = neg-circuit w one
circuit w one And = and-circuit w
circuit w one Or = or-circuit w
circuit w one Xor = xor-circuit w
circuit w one Add = add-circuit w one
circuit w one Sub = sub-circuit w one
circuit w one Mul = mul-circuit w one
circuit w one Udiv = udiv-circuit w one
circuit w one Urem = urem-circuit w one
circuit w one Shl = shl-circuit w
circuit w one Lshr = lshr-circuit w
circuit w one Ashr = ashr-circuit w one
circuit w one Eq = eq-circuit w one
circuit w one Ult = ult-circuit w one
circuit w one Ule = ule-circuit w one
circuit w one Slt = slt-circuit w one
circuit w one Sle = sle-circuit w one
circuit w one Umin = umin-circuit w one
circuit w one Umax = umax-circuit w one
circuit w one Smin = smin-circuit w one
circuit w one Smax = smax-circuit w one
circuit w one Ite = ite-circuit w
