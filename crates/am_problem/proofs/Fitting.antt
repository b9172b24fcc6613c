-- The terms of a language fit its problem, and what fits gives words.
use Rattle.std.proofs.Common.{◌≡◌, ℕ, zero, suc, ◌^◌, ◌<◌, ◌≤◌, List, [], ◌∷◌, length, map, get_or, refl, ap, sym}
use Rattle.std.proofs.Common.{◌∙◌, subst, inl, inr, arith}
use Rattle.std.specs.Prelude.{IsTrue, Option, None, Some}
use Rattle.std.specs.List.{All, AllZip}
use Rattle.std.proofs.Math.Nat.{mul-le-mul}
use Rattle.std.proofs.lemmas.Bool.{and_from, and_parts, cases_lt, eq-eqb, eqb-true}
use Rattle.std.proofs.lemmas.List.{get_or_past, length-map}
use Rattle.std.proofs.lemmas.List.Elements.{All-head, All-tail, All-cons, All-nil}
use Rattle.std.proofs.lemmas.List.Sums.{list_all-from_AllPass}
use Rattle.std.proofs.lemmas.Option.{get_or_from_slice_get, slice_get_within}
use Rattle.am_bv.proofs.Laws.{fits-Node, val-word}
use Rattle.am_bv.specs.Operators.{arity}
use Rattle.am_bv.specs.Terms.{fits, val}
use Rattle.am_bv.specs.Words.{AreWords}
use Rattle.am_bv.specs.declared.op.Op.{Op}
use Rattle.am_bv.specs.declared.term.Term.{Term}
use Rattle.am_bv.specs.declared.term.Term.TheVariants.{Node as NodeTerm}
use Rattle.am_domain.proofs.Laws.{AreWords-nil, AreWords-cons}
use Rattle.am_domain.specs.Tuple.{IsTuple}
use Rattle.am_tree.proofs.Laws.{term-by}
use Rattle.am_tree.specs.Grammars.{is_production}
use Rattle.am_tree.specs.Trees.{AreDerived, children_of, Derives, production_at, production_of, Rules, term_by}
use Rattle.am_tree.specs.Trees.{term_of, terms_of}
use Rattle.am_tree.specs.declared.grammar.Production.{Production}
use Rattle.am_tree.specs.declared.grammar.Production.TheVariants.{Leaf, Node}
use Rattle.am_tree.specs.declared.tree.Tree.{Tree}
use Rattle.am_problem.proofs.Inputs.{results_are_values}
use Rattle.am_problem.specs.ExampleLaws.{DerivableTermsFit, OperationsGiveWords, ResultsAreTuples, RowsAreShort}
use Rattle.am_problem.specs.Examples.{all_fields, IsTransformer}
use Rattle.am_problem.specs.Kinds.{fields_of}
use Rattle.am_problem.specs.Limits.{IsFormed, IsLeafOver}
use Rattle.am_problem.specs.Problem.{AreDerivable, Problem}
use Rattle.am_problem.specs.lemmas.KindLaws.{laws_of}

-- what holds of all productions holds of the one at a place
at-production : (P : Production → Type 0) (rules : Rules) → All (All P) rules →
    (n i : ℕ) (q : Production) → production_at rules n i ≡ Some q → P q
at-production P rules all n i q e =
    let within : i < length (get_or rules n []) = slice_get_within (get_or rules n []) i q e in
    let here : get_or (get_or rules n []) i q ≡ q = get_or_from_slice_get (get_or rules n []) i q q e in
    elim (cases_lt n (length rules)) [
      | inl less ↦ subst P here (all n [] less i q within)
      | inr past ↦ absurd (omega (arith, within, ap length (get_or_past rules n [] past)))
    ]

module _ (p : Problem) (formed : IsFormed p) where
  abbrev Fits : Term → Type 0
  Fits t = IsTrue (fits p.width (all_fields p) t)

  -- the terms of trees of these nonterminals
  abbrev terms : List ℕ → List Tree → List Term
  terms names ts = terms_of p.rules names ts

  length-terms : (R : ℕ → Tree → Type 0) (names : List ℕ) (ts : List Tree) → AllZip R names ts →
      length (terms names ts) ≡ length names
  length-terms R [] [] h = refl
  length-terms R [] (t ∷ ts) h = absurd h
  length-terms R (n ∷ names) [] h = absurd h
  length-terms R (n ∷ names) (t ∷ ts) h = ap suc (length-terms R names ts h.1)

  -- the terms of trees that are derived so fit
  abbrev AllFit : (ℕ → Tree → Type 0) → Type 0
  AllFit R = (n : ℕ) (t : Tree) → R n t → Fits (term_of p.rules n t)

  terms-fit : (R : ℕ → Tree → Type 0) → AllFit R → (names : List ℕ) (ts : List Tree) → AllZip R names ts →
      All Fits (terms names ts)
  terms-fit R fit [] [] h = All-nil Fits
  terms-fit R fit [] (t ∷ ts) h = absurd h
  terms-fit R fit (n ∷ names) [] h = absurd h
  terms-fit R fit (n ∷ names) (t ∷ ts) h =
      All-cons Fits (term_of p.rules n t) (terms names ts) (fit n t h.0) (terms-fit R fit names ts h.1)

  -- an operator at as many terms as its arity, all of which fit
  node-fits : (op : Op) (ts : List Term) → length ts ≡ arity op → All Fits ts → Fits (NodeTerm op ts)
  node-fits op ts counted fit =
      let all = list_all-from_AllPass (fits p.width (all_fields p)) ts fit in
      fits-Node p.width (all_fields p) op ts ∙ and_from _ _ (eq-eqb (length ts) (arity op) counted) all

  -- a production of the language is one of a grammar, and over the fields
  abbrev IsProduction : Production → Type 0
  IsProduction q = IsTrue (is_production (length p.rules) q) × IsLeafOver p.width (all_fields p) q

  production-is : (n i : ℕ) (q : Production) → production_at p.rules n i ≡ Some q → IsProduction q
  production-is = at-production IsProduction p.rules
      (λ n d below i e within. (formed.grammar.productions n d below i e within, formed.leaves n d below i e within))

  -- the term of a production whose children's terms fit
  production-fits : (R : ℕ → Tree → Type 0) → AllFit R → (o : Option Production) →
      ((q : Production) → o ≡ Some q → IsProduction q) → (ts : List Tree) → AreDerived R o ts →
      Fits (term_by o (map (λ t n. term_of p.rules n t) ts))
  production-fits R fit None is ts h = absurd h
  production-fits R fit (Some (Leaf t)) is ts h = (is (Leaf t) refl).1
  production-fits R fit (Some (Node op names)) is ts h =
      let as_many = eqb-true _ _ (and_parts _ _ (is (Node op names) refl).0).0 in
      node-fits op (terms names ts) (length-terms R names ts h ∙ as_many) (terms-fit R fit names ts h)

  -- the term of a tree that derives
  derived-fits : (d n : ℕ) (t : Tree) → Derives p.rules d n t → Fits (term_of p.rules n t)
  derived-fits zero n t h = absurd h
  derived-fits (suc d) n t h =
      let by = production_at p.rules n (production_of t) in
      let is = production-is n (production_of t) in
      let whole = production-fits (Derives p.rules d) (derived-fits d) by is (children_of t) h in
      subst Fits (sym (term-by p.rules n t)) whole

  derivable-fits : (derived : List Term) → AreDerivable p.rules p.starts p.depth derived → IsTransformer p derived
  derivable-fits derived d =
      let R : ℕ → Tree → Type 0 = Derives p.rules p.depth in
      subst (IsTransformer p) (sym d.give) (record {
        counted = length-terms R p.starts d.trees d.derive ∙ formed.start_per_field;
        fit = terms-fit R (derived-fits p.depth) p.starts d.trees d.derive;
      })

-- the terms of a derivable transformer fit
pub derivable_terms_fit : DerivableTermsFit
derivable_terms_fit = derivable-fits

-- the values of terms whose values are words
words-map : (w : ℕ) (f : Term → ℕ) (ts : List Term) → All (λ t. f t < 2 ^ w) ts → AreWords w (map f ts)
words-map w f [] each = AreWords-nil w
words-map w f (t ∷ ts) each =
    let P : Term → Type 0 = λ t. f t < 2 ^ w in
    AreWords-cons w (f t) (map f ts) (All-head P t ts each) (words-map w f ts (All-tail P t ts each))

-- the result of a transformer is a tuple
pub results_are_tuples : ResultsAreTuples
results_are_tuples p formed terms row transformer is =
    let w = p.width in
    let one : 1 ≤ w = omega (arith, formed.width.0) in
    let word : (i : ℕ) (d : Term) → i < length terms → val w (get_or terms i d) row < 2 ^ w =
    λ i d below. val-word w one row is.words (get_or terms i d) (rw is.counted (transformer.fit i d below)) in
    let tuple : IsTuple w (fields_of p.kind) (map (λ t. val w t row) terms) = record {
      counted = length-map terms (λ t. val w t row) ∙ transformer.counted;
      words = words-map w (λ t. val w t row) terms word;
    } in
    rw (results_are_values p terms row is) tuple

-- the value of an operation is a word
pub operations_give_words : OperationsGiveWords
operations_give_words p formed words are =
    let one : 1 ≤ p.width = omega (arith, formed.width.0) in
    val-word p.width one words are.words p.operation (rw are.counted formed.operation.fit)

-- a row has at most 12 words
pub rows_are_short : RowsAreShort
rows_are_short p formed = mul-le-mul formed.few_inputs (laws_of p.kind).few_fields
