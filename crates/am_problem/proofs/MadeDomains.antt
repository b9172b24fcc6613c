-- The domains of made problems: their terms aren't heavy, and their grammars are small.
use Rattle.std.proofs.Common.{◌≡◌, ℕ, ◌+◌, ◌<◌, ◌≤◌, List, [], ◌∷◌, length, All, IsTrue, refl, ap, ◌∙◌, arith}
use Rattle.std.specs.List.{IsDistinct}
use Rattle.std.specs.Prelude.{slice_index_or}
use Rattle.std.proofs.lemmas.Map.Made.{AllPairs-from_IsDistinct}
use Rattle.std.proofs.lemmas.Nat.{mul-le}
use Rattle.am_bv.proofs.Laws.{weight-Const, weight-Field, weight-Node}
use Rattle.am_bv.specs.Operators.{weight_of}
use Rattle.am_bv.specs.Terms.{binary, unary, weight}
use Rattle.am_bv.specs.Words.{AreWords, IsWidth}
use Rattle.am_bv.specs.declared.op.Op.{Op}
use Rattle.am_bv.specs.declared.term.Term.{Term}
use Rattle.am_syntax.specs.Numerals.{is_name}
use Rattle.am_problem.specs.declared.kind.Kind.{Kind}
use Rattle.am_problem.specs.declared.kind.Kind.TheVariants.{UInterval, SInterval, KnownBits, Parity, Congruence}
use Rattle.am_problem.specs.Generator.{made_kinds, made_names, rules_of}
use Rattle.am_problem.specs.Kinds.{abstraction_of, fields_of, member_term_of, valid_term_of}
use Rattle.am_problem.specs.Limits.{AreApart}
use Rattle.am_problem.specs.lemmas.KindLaws.{laws_of}
use Rattle.am_problem.proofs.Formed.{same_decides}
use Rattle.am_problem.proofs.Lists.{all_places, item_holds}
use Rattle.am_problem.proofs.MadeRules.{IsSmallGrammar, PairOperator, one_small, two_small}

-- ---- names

-- the names are one more than the fields, and none stands twice
pub record AreNamed (fields : ℕ) : Type 0 where
  pub counted : length (made_names fields) ≡ fields + 1
  pub names : All (λ name. IsTrue (is_name name)) (made_names fields)
  pub once : AreApart (made_names fields)

one_named : AreNamed 1
unfolding IsDistinct
one_named = record {
  counted = refl;
  names = all_places (λ name. IsTrue (is_name name)) (made_names 1) (refl, (refl, tt));
  once = AllPairs-from_IsDistinct same_decides (made_names 1) ((refl, tt), (tt, tt));
}

two_named : AreNamed 2
unfolding IsDistinct
two_named = record {
  counted = refl;
  names = all_places (λ name. IsTrue (is_name name)) (made_names 2) (refl, (refl, (refl, tt)));
  once = AllPairs-from_IsDistinct same_decides (made_names 2) ((refl, (refl, tt)), ((refl, tt), (tt, tt)));
}

-- ---- terms

-- an operator at one argument
weight-unary : (w : ℕ) (op : Op) (s : Term) → weight w (unary op s) ≡ weight_of w op + weight w s
weight-unary w op s =
    weight-Node w op (s ∷ []) ∙ ap (λ n. weight_of w op + n) (let e : 0 + weight w s ≡ weight w s = omega arith in e)

-- an operator at two arguments
pub weight-binary : (w : ℕ) (op : Op) (s t : Term) →
    weight w (binary op s t) ≡ weight_of w op + (weight w s + weight w t)
weight-binary w op s t =
    weight-Node w op (s ∷ t ∷ [])
    ∙ ap (λ n. weight_of w op + n) (let e : 0 + weight w s + weight w t ≡ weight w s + weight w t = omega arith in e)

-- a domain whose terms aren't heavy
pub record HasLightTerms (w : ℕ) (kind : Kind) : Type 0 where
  pub valid : weight w (valid_term_of kind w) ≤ 80
  pub member : weight w (member_term_of kind w) ≤ 80

module _ (w : ℕ) (few : w ≤ 8) where
  unsigned_light : HasLightTerms w UInterval
  unsigned_light = record {
    valid = simp (weight-binary, weight-Field) (omega (arith, few));
    member = simp (weight-binary, weight-Field) (omega (arith, few));
  }

  signed_light : HasLightTerms w SInterval
  signed_light = record {
    valid = simp (weight-binary, weight-Field) (omega (arith, few));
    member = simp (weight-binary, weight-Field) (omega (arith, few));
  }

  known_light : HasLightTerms w KnownBits
  known_light = record {
    valid = simp (weight-binary, weight-Field, weight-Const) (omega (arith, few));
    member = simp (weight-binary, weight-Field, weight-Const) (omega (arith, few));
  }

  parity_light : HasLightTerms w Parity
  parity_light = record {
    valid = simp (weight-binary, weight-Field, weight-Const) (omega (arith, few));
    member = simp (weight-binary, weight-Field, weight-Const) (omega (arith, few, mul-le w w 8 8 few few));
  }

  congruence_light : HasLightTerms w Congruence
  congruence_light = record {
    valid = simp (weight-binary, weight-unary, weight-Field, weight-Const) (omega (arith, few));
    member = simp (weight-binary, weight-Field, weight-Const) (omega (arith, few));
  }

-- ---- what holds of each of the domains

-- with these operators, the domain's names, grammar and terms are within the limits
pub record IsHandled (w depth : ℕ) (ops : List Op) (op : Op) (kind : Kind) : Type 0 where
  pub named : AreNamed (fields_of kind)
  pub small : IsSmallGrammar w (fields_of kind) depth ((abstraction_of kind).top w)
      (rules_of ((abstraction_of kind).top w) (fields_of kind) ops op)
  pub terms : HasLightTerms w kind

module _ (w : ℕ) (width : IsWidth w) (digit : ℕ) (below : digit < 2) (o1 o2 o3 o4 : PairOperator) where
  abbrev IsHandledHere : Kind → Type 0
  IsHandledHere = IsHandled w (2 + digit) (o1.op ∷ o2.op ∷ o3.op ∷ []) o4.op

  words_of_top : (kind : Kind) → AreWords w ((abstraction_of kind).top w)
  words_of_top kind = ((laws_of kind).has_top w width).0.tuple.words

  unsigned_handled : IsHandledHere UInterval
  unsigned_handled = record {
    named = two_named;
    small = two_small w width.1 o1 o2 o3 o4 _ _ (words_of_top UInterval 0) (words_of_top UInterval 1) digit below;
    terms = unsigned_light w width.1;
  }

  signed_handled : IsHandledHere SInterval
  signed_handled = record {
    named = two_named;
    small = two_small w width.1 o1 o2 o3 o4 _ _ (words_of_top SInterval 0) (words_of_top SInterval 1) digit below;
    terms = signed_light w width.1;
  }

  known_handled : IsHandledHere KnownBits
  known_handled = record {
    named = two_named;
    small = two_small w width.1 o1 o2 o3 o4 _ _ (words_of_top KnownBits 0) (words_of_top KnownBits 1) digit below;
    terms = known_light w width.1;
  }

  parity_handled : IsHandledHere Parity
  parity_handled = record {
    named = one_named;
    small = one_small w width.1 o1 o2 o3 o4 _ (words_of_top Parity 0) digit below;
    terms = parity_light w width.1;
  }

  congruence_handled : IsHandledHere Congruence
  congruence_handled = record {
    named = two_named;
    small = two_small w width.1 o1 o2 o3 o4 _ _ (words_of_top Congruence 0) (words_of_top Congruence 1) digit below;
    terms = congruence_light w width.1;
  }

  -- each domain that is chosen
  pub made_kinds-handled : (i : ℕ) → IsHandledHere (slice_index_or made_kinds i UInterval)
  made_kinds-handled i =
      item_holds IsHandledHere made_kinds i _ unsigned_handled
      (unsigned_handled, (signed_handled, (known_handled, (parity_handled, (congruence_handled, tt)))))
