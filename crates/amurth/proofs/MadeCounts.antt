-- How many tuples of trees a made problem has.
use Rattle.std.proofs.Common.{◌≡◌, ℕ, zero, suc, ◌+◌, ◌/◌, ◌%◌, ◌<◌, ◌^◌, [], ◌∷◌, arith, lit<, refl, subst, sym}
use Rattle.std.specs.List.{range_with_len}
use Rattle.std.proofs.Math.Nat.{mod-lt}
use Rattle.am_bv.specs.declared.op.Op.{Op}
use Rattle.std.specs.Prelude.{slice_index_or}
use Rattle.am_problem.specs.Generator.{argument_operator, made_kinds, made_operator, made_problem_of, made_width}
use Rattle.am_problem.specs.Generator.{rules_of}
use Rattle.am_problem.specs.Kinds.{abstraction_of, fields_of}
use Rattle.am_problem.specs.declared.kind.Kind.{Kind}
use Rattle.am_problem.specs.declared.kind.Kind.TheVariants.{UInterval}
use Rattle.am_tree.specs.Counts.{tree_count, tuple_count}

module _ (o1 o2 o3 o4 : Op) where
  -- two fields of the result
  two_at_2 : (c d : ℕ) → tuple_count (rules_of (c ∷ d ∷ []) 2 (o1 ∷ o2 ∷ o3 ∷ []) o4) (range_with_len 0 2) 2 ≡ 5776
  unfolding tree_count
  two_at_2 c d = refl

  two_at_3 : (c d : ℕ) → tuple_count (rules_of (c ∷ d ∷ []) 2 (o1 ∷ o2 ∷ o3 ∷ []) o4) (range_with_len 0 2) 3 ≡ 7295401
  unfolding tree_count
  two_at_3 c d = refl

  -- one field
  one_at_2 : (c : ℕ) → tuple_count (rules_of (c ∷ []) 1 (o1 ∷ o2 ∷ o3 ∷ []) o4) (range_with_len 0 1) 2 ≡ 28
  unfolding tree_count
  one_at_2 c = refl

  one_at_3 : (c : ℕ) → tuple_count (rules_of (c ∷ []) 1 (o1 ∷ o2 ∷ o3 ∷ []) o4) (range_with_len 0 1) 3 ≡ 433
  unfolding tree_count
  one_at_3 c = refl

  -- few tuples at both depths
  two_few : (c d digit : ℕ) → digit < 2 →
      tuple_count (rules_of (c ∷ d ∷ []) 2 (o1 ∷ o2 ∷ o3 ∷ []) o4) (range_with_len 0 2) (2 + digit) < 2 ^ 64
  two_few c d zero below = subst (λ k. k < 2 ^ 64) (sym (two_at_2 c d)) (lit< tt)
  two_few c d (suc zero) below = subst (λ k. k < 2 ^ 64) (sym (two_at_3 c d)) (lit< tt)
  two_few c d (suc (suc digit)) below = absurd (omega (arith, below))

  one_few : (c digit : ℕ) → digit < 2 →
      tuple_count (rules_of (c ∷ []) 1 (o1 ∷ o2 ∷ o3 ∷ []) o4) (range_with_len 0 1) (2 + digit) < 2 ^ 64
  one_few c zero below = subst (λ k. k < 2 ^ 64) (sym (one_at_2 c)) (lit< tt)
  one_few c (suc zero) below = subst (λ k. k < 2 ^ 64) (sym (one_at_3 c)) (lit< tt)
  one_few c (suc (suc digit)) below = absurd (omega (arith, below))

  module _ (w digit : ℕ) (below : digit < 2) where
    abbrev IsFew : Kind → Type 0
    IsFew kind =
        tuple_count (rules_of ((abstraction_of kind).top w) (fields_of kind) (o1 ∷ o2 ∷ o3 ∷ []) o4)
        (range_with_len 0 (fields_of kind)) (2 + digit) < 2 ^ 64

    -- of each domain that is chosen
    kind_few : (i : ℕ) → IsFew (slice_index_or made_kinds i UInterval)
    kind_few zero = two_few _ _ digit below
    kind_few (suc zero) = two_few _ _ digit below
    kind_few (suc (suc zero)) = two_few _ _ digit below
    kind_few (suc (suc (suc zero))) = one_few _ digit below
    kind_few (suc (suc (suc (suc zero)))) = two_few _ _ digit below
    kind_few (suc (suc (suc (suc (suc i))))) = two_few _ _ digit below

-- the tuples of trees of a made problem have a number of 64 bits
pub made_few : (n : ℕ) → let p = made_problem_of n in tuple_count p.rules p.starts p.depth < 2 ^ 64
made_few n =
    let s = n / 840 in
    kind_few (made_operator s) (made_operator (s / 8 + 1)) (made_operator (s / 64 + 3)) (argument_operator s)
    (made_width n) (n / 420 % 2) (mod-lt (n / 420) (omega arith)) (n / 7 % 5)
