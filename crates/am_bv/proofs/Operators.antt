-- The list of all operators has each.
use Rattle.std.proofs.Common.{refl, lit<}
use Rattle.std.specs.Prelude.{Contains}
use Rattle.am_bv.specs.declared.op.Op.{Op}
use Rattle.am_bv.specs.declared.op.Op.TheVariants.{Not, Neg, And, Or, Xor, Add, Sub, Mul, Udiv, Urem, Shl, Lshr, Ashr}
use Rattle.am_bv.specs.declared.op.Op.TheVariants.{Eq, Ult, Ule, Slt, Sle, Umin, Umax, Smin, Smax, Ite}
use Rattle.am_bv.specs.declared.op.TheConstants.Op.{ALL}

-- each operator is in the list of all
pub ALL-contains : (op : Op) → Contains ALL op
ALL-contains Not = (0, lit< tt, refl)
ALL-contains Neg = (1, lit< tt, refl)
ALL-contains And = (2, lit< tt, refl)
ALL-contains Or = (3, lit< tt, refl)
ALL-contains Xor = (4, lit< tt, refl)
ALL-contains Add = (5, lit< tt, refl)
ALL-contains Sub = (6, lit< tt, refl)
ALL-contains Mul = (7, lit< tt, refl)
ALL-contains Udiv = (8, lit< tt, refl)
ALL-contains Urem = (9, lit< tt, refl)
ALL-contains Shl = (10, lit< tt, refl)
ALL-contains Lshr = (11, lit< tt, refl)
ALL-contains Ashr = (12, lit< tt, refl)
ALL-contains Eq = (13, lit< tt, refl)
ALL-contains Ult = (14, lit< tt, refl)
ALL-contains Ule = (15, lit< tt, refl)
ALL-contains Slt = (16, lit< tt, refl)
ALL-contains Sle = (17, lit< tt, refl)
ALL-contains Umin = (18, lit< tt, refl)
ALL-contains Umax = (19, lit< tt, refl)
ALL-contains Smin = (20, lit< tt, refl)
ALL-contains Smax = (21, lit< tt, refl)
ALL-contains Ite = (22, lit< tt, refl)
