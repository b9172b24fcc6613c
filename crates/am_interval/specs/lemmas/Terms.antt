-- The terms for intervals tell validity and membership.
use Rattle.std.proofs.Common.{◌≡◌, ◌≢◌, ℕ, ◌↔◌, refl, ◌∙◌, arith, ℤ, ◌≤ℤ◌, int_le, List, [], ◌∷◌, slice_index, bit_and}
use Rattle.std.proofs.Common.{lit≤, lit<}
use Rattle.std.proofs.lemmas.Int.{ints}
use Rattle.std.proofs.lemmas.List.{get_or-take}
use Rattle.am_bv.specs.Words.{one_if, signed}
use Rattle.am_bv.specs.Operators.{arity, apply}
use Rattle.am_bv.specs.Terms.{val, binary}
use Rattle.am_bv.specs.declared.op.Op.{Op}
use Rattle.am_bv.specs.declared.op.Op.TheVariants.{And, Sle, Ule}
use Rattle.am_bv.specs.declared.term.Term.TheVariants.{Field}
use Rattle.am_bv.proofs.Laws.{laws, val-Node, val-Field}
use Rattle.am_domain.specs.Laws.{TellsValidity, TellsMembership}
use Rattle.am_interval.specs.Intervals.{Reading, unsigned}
use Rattle.am_interval.specs.Domains.{interval_domain}

-- an operator that tells whether a word is at most another
pub record IsAtMost (number : Reading) (op : Op) : Type 0 where
  pub arguments : arity op ≡ 2
  pub tells : (w : ℕ) (args : List ℕ)
      → apply w op args ≡ one_if (int_le (number w (slice_index args 0)) (number w (slice_index args 1)))

-- the comparison of two words, and of two pairs of words
at_most-tells : (x y : ℤ) → (one_if (int_le x y) ≢ 0) ↔ (x ≤ℤ y)
at_most-tells x y = grind (arith, ints)

both-tell : (x y z u : ℤ) → (bit_and (one_if (int_le x y)) (one_if (int_le z u)) ≢ 0) ↔ ((x ≤ℤ y) × (z ≤ℤ u))
both-tell x y z u = grind (arith, ints)

module _ (number : Reading) (top : ℕ → List ℕ) (op : Op) (at_most : IsAtMost number op) where
  val-order : (w i j : ℕ) (env : List ℕ)
      → val w (binary op (Field i) (Field j)) env
      ≡ one_if (int_le (number w (slice_index env i)) (number w (slice_index env j)))
  val-order w i j env =
      val-Node w op (Field i ∷ Field j ∷ []) env ∙ at_most.tells w (val w (Field i) env ∷ val w (Field j) env ∷ [])
      ∙ rw (val-Field w i env, val-Field w j env) refl

  -- the comparison of its ends tells whether a tuple is an interval
  pub tells_validity : TellsValidity (interval_domain number top op)
  tells_validity w width = record {
    fit = simp (laws, at_most.arguments) refl;
    small = simp laws (lit≤ tt);
    tells = λ env tuple. rw (val-order w 0 1 env) (at_most-tells _ _);
  }

  -- a word that is at least the first end and at most the last is a member, as two comparisons tell
  pub tells_membership : TellsMembership (interval_domain number top op)
  tells_membership w width = record {
    fit = simp (laws, at_most.arguments) refl;
    small = simp laws (lit≤ tt);
    tells = λ env tuple.
        rw (
          val-Node w And (binary op (Field 0) (Field 2) ∷ binary op (Field 2) (Field 1) ∷ []) env,
          val-order w 0 2 env,
          val-order w 2 1 env,
          get_or-take 2 env 0 0 (lit< tt),
          get_or-take 2 env 1 0 (lit< tt),
        )
        (both-tell _ _ _ _);
  }

-- the unsigned comparison tells whether a word is at most another as an unsigned number
pub Ule-IsAtMost : IsAtMost unsigned Ule
Ule-IsAtMost = record { arguments = refl; tells = λ w args. refl }

-- the signed comparison tells whether a word is at most another as a signed number
pub Sle-IsAtMost : IsAtMost signed Sle
Sle-IsAtMost = record { arguments = refl; tells = λ w args. refl }
