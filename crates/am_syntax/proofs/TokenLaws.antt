-- The laws of single tokens: numerals, names, operators.
use Rattle.std.proofs.Common.{◌≡◌, ℕ, ◌+◌, ◌^◌, ◌<◌, ◌≤◌, Bool, true, false, cond, ◌&&◌, nat_le, nat_lt, List, [], ◌∷◌}
use Rattle.std.proofs.Common.{decimal, Option, Some, None, Result, Ok, Err, bytes_eq, find, ap, subst, ◌∙◌, sym, refl}
use Rattle.std.proofs.Common.{inl, inr, arith, IsTrue}
use Rattle.std.specs.Prelude.{◌⊎◌}
use Rattle.std.proofs.lemmas.Bool.{and_from, and_parts, le-leb, leb-true, lt-ltb, ltb-true}
use Rattle.am_bv.specs.declared.op.Op.{Op}
use Rattle.am_bv.specs.declared.op.TheConstants.Op.{ALL}
use Rattle.am_syntax.specs.declared.refusal.Cause.{Cause}
use Rattle.am_syntax.specs.declared.refusal.Cause.TheVariants.{Syntax, Number}
use Rattle.am_syntax.specs.Names.{op_name, named, op_named, operator, operator_judge}
use Rattle.am_syntax.specs.Numerals.{is_canonical, is_digits, is_name, number_of}
use Rattle.am_syntax.specs.Pieces.{below, name_judge, name_or, number, number_judge}
use Rattle.am_syntax.specs.Readers.{Word}
use Rattle.am_syntax.proofs.NumeralLaws.{decimal-is_canonical, decimal-is_digits, decimal-number_of, digits_decimal_of}
use Rattle.am_syntax.specs.Exact.{IsExact, always}
use Rattle.am_syntax.proofs.EachOperator.{each_op}
use Rattle.am_syntax.proofs.PieceLaws.{same_bytes, token_law}

-- which way a choice went
pub chosen : {A : Type 0} (b : Bool) (x y z : A) → cond b x y ≡ z → ((b ≡ true) × (x ≡ z)) ⊎ ((b ≡ false) × (y ≡ z))
chosen true x y z e = inl (refl, e)
chosen false x y z e = inr (refl, e)

-- a value that a choice gave is the one of its first side
pub cond_ok : {X : Type 0} (b : Bool) (x : X) (cause : Cause) (y : X) → cond b (Ok x) (Err cause) ≡ Ok y →
    (b ≡ true) × (x ≡ y)
cond_ok true x cause y e = (refl, cc)
cond_ok false x cause y e = absurd cc

-- a number from least on, below count
abbrev pub IsBelow : ℕ → ℕ → ℕ → Type 0
IsBelow least count n = (least ≤ n) × (n < count)

-- a row of digits that passes is the decimal text of its number, which is in the range
pub numeral_passed : (least count : ℕ) → count ≤ 2 ^ 64 → (v : Word) (n : ℕ) → number_judge least count v ≡ Ok n →
    (v ≡ decimal n) × IsBelow least count n
numeral_passed least count small v n e =
    elim (chosen (is_digits v) (cond (is_canonical v && nat_le least (number_of v) && nat_lt (number_of v) count)
    (Ok (number_of v)) (Err Number)) (Err Syntax) (Ok n) e) [
      | inl digits ↦
          let given = cond_ok _ (number_of v) Number n digits.1 in
          let tests = and_parts _ _ given.0 in
          let front = and_parts _ _ tests.0 in
          let low = leb-true least (number_of v) front.1 in
          let high = ltb-true (number_of v) count tests.1 in
          subst (λ (m : ℕ). (v ≡ decimal m) × IsBelow least count m) given.1
          (digits_decimal_of v digits.0 front.0 (omega arith), (low, high))
      | inr other ↦ absurd (let e : ◌≡◌ {A = Result ℕ Cause} (Err Syntax) (Ok n) = other.1 in cc)
    ]

-- the decimal text of each number in the range passes
pub numeral_passes : (least count : ℕ) → count ≤ 2 ^ 64 → (n : ℕ) → IsBelow least count n →
    number_judge least count (decimal n) ≡ Ok n
numeral_passes least count small n range =
    let fits : n < 2 ^ 64 = omega (arith, range.1) in
    let number = decimal-number_of n fits in
    let low : nat_le least (number_of (decimal n)) ≡ true = ap (nat_le least) number ∙ le-leb least n range.0 in
    let high : nat_lt (number_of (decimal n)) count ≡ true = ap (λ m. nat_lt m count) number ∙ lt-ltb n count range.1 in
    ap (λ b. cond b (cond (is_canonical (decimal n) && nat_le least
    (number_of (decimal n)) && nat_lt (number_of (decimal n)) count) (Ok (number_of (decimal n))) (Err Number))
    (Err Syntax)) (decimal-is_digits n fits)
    ∙ ap (λ b. cond b (Ok (number_of (decimal n))) (Err Number))
    (and_from _ _ (and_from _ _ (decimal-is_canonical n fits) low) high)
    ∙ ap (λ m. Ok m) number

-- a number is read exactly where its decimal text stands, in the range
pub number_law : (least most : ℕ) → most < 2 ^ 64 → IsExact (number least most) always
unfolding number
number_law least most small =
    let all : most + 1 ≤ 2 ^ 64 = omega arith in
    token_law (number_judge least (most + 1)) decimal (λ n. (least ≤ n) × (n ≤ most))
    (λ v n e. let h = numeral_passed least (most + 1) all v n e in (h.0, (h.1.0, omega (arith, h.1.1))))
    (λ n range. numeral_passes least (most + 1) all n (range.0, omega (arith, range.1)))

-- the same below a count
pub below_law : (least count : ℕ) → count ≤ 2 ^ 64 → IsExact (below least count) always
unfolding below
below_law least count small =
    token_law (number_judge least count) decimal (IsBelow least count) (numeral_passed least count small)
    (numeral_passes least count small)

-- a name is read exactly where it stands
pub name_law : (cause : Word → Cause) → IsExact (name_or cause) always
unfolding name_or
name_law cause = token_law (name_judge cause) (λ v. v) (λ v. IsTrue (is_name v))
    (λ v x e. let h = cond_ok (is_name v) v (cause v) x e in (h.1, subst (λ (w : Word). is_name w ≡ true) h.1 h.0))
    (λ v h. ap (λ b. cond b (Ok v) (Err (cause v))) h)

-- what is found passes
pub found_passes : {X : Type 0} (p : X → Bool) (xs : List X) (x : X) → find p xs ≡ Some x → p x ≡ true
found_passes p [] x e = absurd cc
found_passes {X = X} p (y ∷ ys) x e =
    elim (chosen (p y) (Some y) (find p ys) (Some x) e) [
      | inl pass ↦ let is : y ≡ x = (let h = pass.1 in cc) in subst (λ (z : X). p z ≡ true) is pass.0
      | inr other ↦ found_passes p ys x other.1
    ]

-- what a table has is what was found
pub named_some : {X : Type 0} (o : Option X) (v : Word) (x : X) → named o v ≡ Ok x → o ≡ Some x
named_some (Some y) v x e = cc
named_some None v x e = absurd cc

-- an operator's name names it
pub op_named-name : (op : Op) → op_named (op_name op) ≡ Some op
unfolding op_named
op_named-name op = each_op (λ op. op_named (op_name op)) (λ op. Some op) refl op

op_of_name : (v : Word) (op : Op) → op_named v ≡ Some op → v ≡ op_name op
unfolding op_named
op_of_name v op e = sym (same_bytes (op_name op) v (found_passes (λ op. bytes_eq (op_name op) v) ALL op e))

-- an operator is read exactly where its name stands
pub operator_law : IsExact operator always
unfolding operator
operator_law = token_law operator_judge op_name (λ _. Unit {0})
    (λ v op e. (op_of_name v op (named_some (op_named v) v op e), tt))
    (λ op h. ap (λ o. named o (op_name op)) (op_named-name op))
