-- The operators of a term that fits have as many arguments as their arities.
use Rattle.std.proofs.Common.{◌≡◌, ℕ, true, List, [], ◌∷◌, IsTrue, rules, refl}
use Rattle.std.specs.List.{AllByRecursion, list_all}
use Rattle.std.proofs.lemmas.Bool.{and_parts}
use Rattle.am_bv.specs.declared.term.Term.{Term}
use Rattle.am_bv.specs.Terms.{fits, has_arities}
use Rattle.am_bv.proofs.ByKind.{arities-Const, arities-Field, arities-Node, fits_arity}
use Rattle.am_bv.proofs.Fields.{arguments-fit}
use Rattle.am_bv.proofs.Induction.{Steps, by_induction}

module _ (w n : ℕ) where
  abbrev IsRight : Term → Type 0
  IsRight t = IsTrue (fits w n t) → IsTrue (has_arities t)

  all-right : (ts : List Term) → AllByRecursion IsRight ts → list_all (fits w n) ts ≡ true
      → list_all has_arities ts ≡ true
  all-right [] each fit = refl
  all-right (t ∷ ts) each fit = let parts = and_parts _ _ fit in rw (each.0 parts.0, all-right ts each.1 parts.1) refl

  right : Steps IsRight
  right = record {
    const = λ c fit. arities-Const c;
    field = λ i fit. arities-Field i;
    node = λ op ts each fit.
        rw (arities-Node op ts, fits_arity w n op ts fit, all-right ts each (arguments-fit w n op ts fit))
        (search rules);
  }

  -- a term that fits has them
  pub fits-arities : (t : Term) → IsTrue (fits w n t) → IsTrue (has_arities t)
  fits-arities = by_induction IsRight right
