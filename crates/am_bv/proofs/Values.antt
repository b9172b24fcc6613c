-- Operators take words to words, and so do terms that fit.
use Rattle.std.proofs.Common.{◌≡◌, ℕ, zero, suc, ◌-◌, ◌/◌, ◌%◌, ◌^◌, ◌<◌, ◌≤◌, Bool, true, false, cond, List, [], ◌∷◌}
use Rattle.std.proofs.Common.{length, map, IsTrue, subst, arith}
use Rattle.std.specs.List.{AllByRecursion, list_all}
use Rattle.std.proofs.Math.Nat.{mod-lt, mod-le, div-le_self, pow-le-pow_right}
use Rattle.std.proofs.lemmas.Nat.{pow_pos, and_le_l, or_lt, xor_lt}
use Rattle.std.proofs.lemmas.Bool.{and_parts, ltb-true}
use Rattle.am_bv.specs.declared.op.Op.{Op}
use Rattle.am_bv.specs.declared.op.Op.TheVariants.{Not, Neg, And, Or, Xor, Add, Sub, Mul, Udiv, Urem, Shl, Lshr, Ashr}
use Rattle.am_bv.specs.declared.op.Op.TheVariants.{Eq, Ult, Ule, Slt, Sle, Umin, Umax, Smin, Smax, Ite}
use Rattle.am_bv.specs.declared.term.Term.{Term}
use Rattle.am_bv.specs.Words.{AreWords, complement, one_if}
use Rattle.am_bv.specs.Operators.{apply, apply_at, lshr_of}
use Rattle.am_bv.specs.Terms.{val, fits}
use Rattle.am_bv.proofs.ByKind.{val-Const, val-Field, val-Node, fits-Const, fits-Node}
use Rattle.am_bv.proofs.Induction.{Steps, by_induction}

either : (b : Bool) (m n p : ℕ) → m < p → n < p → cond b m n < p
either true m n p h k = h
either false m n p h k = k

one_if-word : (w : ℕ) → 1 ≤ w → (b : Bool) → one_if b < 2 ^ w
one_if-word w h true =
    let two : 0 < 2 = omega arith in
    let least : 2 ^ 1 ≤ 2 ^ w = pow-le-pow_right two h in
    omega (arith, least)
one_if-word w h false = pow_pos w

complement-word : (w a : ℕ) → complement w a < 2 ^ w
complement-word w a = omega (arith, pow_pos w)

lshr-word : (w a b : ℕ) → a < 2 ^ w → lshr_of w a b < 2 ^ w
lshr-word w a b h =
    let small : a / 2 ^ b < 2 ^ w = omega (arith, h, div-le_self a (2 ^ b)) in either _ _ _ _ small (pow_pos w)

pub apply_at-word : (w : ℕ) → 1 ≤ w → (op : Op) (a b c : ℕ) → a < 2 ^ w → b < 2 ^ w → c < 2 ^ w
    → apply_at w op a b c < 2 ^ w
apply_at-word w one Not a b c h i j = complement-word w a
apply_at-word w one Neg a b c h i j = mod-lt _ (pow_pos w)
apply_at-word w one And a b c h i j = omega (arith, h, and_le_l a b)
apply_at-word w one Or a b c h i j = or_lt w a b h i
apply_at-word w one Xor a b c h i j = xor_lt w a b h i
apply_at-word w one Add a b c h i j = mod-lt _ (pow_pos w)
apply_at-word w one Sub a b c h i j = mod-lt _ (pow_pos w)
apply_at-word w one Mul a b c h i j = mod-lt _ (pow_pos w)
apply_at-word w one Udiv a b c h i j =
    let greatest : 2 ^ w - 1 < 2 ^ w = omega (arith, pow_pos w) in
    let quotient : a / b < 2 ^ w = omega (arith, h, div-le_self a b) in
    either _ _ _ _ greatest quotient
apply_at-word w one Urem a b c h i j =
    let remainder : a % b < 2 ^ w = omega (arith, h, mod-le a b) in either _ _ _ _ h remainder
apply_at-word w one Shl a b c h i j = either _ _ _ _ (mod-lt _ (pow_pos w)) (pow_pos w)
apply_at-word w one Lshr a b c h i j = lshr-word w a b h
apply_at-word w one Ashr a b c h i j = either _ _ _ _ (lshr-word w a b h) (complement-word w _)
apply_at-word w one Eq a b c h i j = one_if-word w one _
apply_at-word w one Ult a b c h i j = one_if-word w one _
apply_at-word w one Ule a b c h i j = one_if-word w one _
apply_at-word w one Slt a b c h i j = one_if-word w one _
apply_at-word w one Sle a b c h i j = one_if-word w one _
apply_at-word w one Umin a b c h i j = omega (arith, h, i)
apply_at-word w one Umax a b c h i j = omega (arith, h, i)
apply_at-word w one Smin a b c h i j = either _ _ _ _ h i
apply_at-word w one Smax a b c h i j = either _ _ _ _ i h
apply_at-word w one Ite a b c h i j = either _ _ _ _ j i

-- an operator gives a word at words
pub apply-word : (w : ℕ) → 1 ≤ w → (op : Op) (args : List ℕ) → AreWords w args → apply w op args < 2 ^ w
apply-word w one op args words = apply_at-word w one op _ _ _ (words 0) (words 1) (words 2)

module _ (w : ℕ) (one : 1 ≤ w) (env : List ℕ) (words : AreWords w env) where
  abbrev IsWord : Term → Type 0
  IsWord t = IsTrue (fits w (length env) t) → val w t env < 2 ^ w

  row-words : (ts : List Term) → AllByRecursion IsWord ts → list_all (fits w (length env)) ts ≡ true
      → AreWords w (map (λ t. val w t env) ts)
  row-words [] each fit i = pow_pos w
  row-words (t ∷ ts) each fit zero = each.0 (and_parts _ _ fit).0
  row-words (t ∷ ts) each fit (suc i) = row-words ts each.1 (and_parts _ _ fit).1 i

  steps : Steps IsWord
  steps = record {
    const = λ c fit. rw (val-Const w c env) (ltb-true _ _ (subst IsTrue (fits-Const w (length env) c) fit));
    field = λ i fit. rw (val-Field w i env) (words i);
    node = λ op ts each fit.
        let fit_all = (and_parts _ _ (subst IsTrue (fits-Node w (length env) op ts) fit)).1 in
        rw (val-Node w op ts env) (apply-word w one op _ (row-words ts each fit_all));
  }

  -- a term that fits a row of words has a word as its value
  pub val-word : (t : Term) → IsTrue (fits w (length env) t) → val w t env < 2 ^ w
  val-word = by_induction IsWord steps
