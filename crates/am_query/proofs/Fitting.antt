-- The fit: what its formula says of transformers, in both directions.
use Rattle.std.proofs.Common.{◌≡◌, ℕ, ◌+◌, ◌*◌, ◌≤◌, Bool, true, List, [], ◌∷◌, All, map, length, refl, sym, ◌∙◌, ap}
use Rattle.std.proofs.Common.{subst, arith}
use Rattle.std.specs.Prelude.{IsTrue}
use Rattle.std.proofs.lemmas.List.Elements.{All-nil, All-cons, All-head, All-tail, All-map}
use Rattle.std.proofs.lemmas.List.FromFn.{length-range_with_len}
use Rattle.am_lit.specs.Truth.{IsSatisfiable, Satisfies}
use Rattle.am_gate.specs.Circuit.{built, start}
use Rattle.am_gate.specs.Build.{Step, Place, Means, place_of}
use Rattle.am_gate.specs.Reaches.{Reaches}
use Rattle.am_gate.proofs.Laws.{Means-bind, Means-weaker, Reaches-bind, Satisfies-built}
use Rattle.am_bv.specs.declared.term.Term.{Term}
use Rattle.am_domain.specs.Examples.{Covers, Excludes}
use Rattle.am_tree.specs.declared.tree.Tree.{Tree}
use Rattle.am_slot.specs.Encoding.{Encoding}
use Rattle.am_slot.specs.Template.{decoded, encoded_terms, selectors_of, template}
use Rattle.am_slot.specs.Theorems.{AgreeOnSelectors, KeepsTuple, Serves}
use Rattle.am_slot.proofs.Laws.{assignments_serve, derived_tuples_are_reached, templates_make_selectors}
use Rattle.am_problem.specs.Examples.{IsNegative, IsPositive, negative_of, positive_of}
use Rattle.am_problem.specs.Limits.{IsFormed}
use Rattle.am_problem.specs.Problem.{Problem, question_of}
use Rattle.am_problem.specs.declared.examples.Negative.{Negative}
use Rattle.am_problem.specs.declared.examples.Positive.{Positive}
use Rattle.am_query.specs.declared.query.Query.TheVariants.{Fit}
use Rattle.am_query.specs.inside.Weights.{example_weight}
use Rattle.am_query.specs.Formulas.{covered, encoding_of, fit, query_circuit, uncovered}
use Rattle.am_query.specs.QueryLaws.{FitsAreChosen, FitsAreReached, UnsatisfiedFitHasNone}
use Rattle.am_query.specs.Transformers.{IsTransformerOf, SuitsExamples}
use Rattle.am_query.proofs.Builds.{Builds, Builds-bind, Builds-weaker, Reaches-weaker}
use Rattle.am_query.proofs.Steps.{Builds-each, Means-each, Reaches-each}
use Rattle.am_query.proofs.Blocks.{encodes, tuple_derivable}
use Rattle.am_query.proofs.Covering.{Builds-covered, Builds-uncovered, Means-covered, Means-uncovered, Reaches-covered}
use Rattle.am_query.proofs.Covering.{Reaches-uncovered}

-- ---- the circuits of steps

-- truth values that satisfy the circuit that a step makes of a new one are as the step means
pub means_satisfied : {A : Type 0} {v : ℕ → Bool} {m : Step A} {P : A → Type 0} (folding : Bool) → Means v m P →
    Satisfies v (built (start folding) (m (place_of (start folding))).events).clauses →
    P (m (place_of (start folding))).value
means_satisfied {v = v} {m = m} folding means h =
    let met = (Satisfies-built v folding (m (place_of (start folding))).events).0 h in
    means.holds (place_of (start folding)) met.0 met.1

-- truth values that are true at the true variable
abbrev pub all_true : ℕ → Bool
all_true x = true

-- what is known of truth values that agree with others on the selectors
pub keeps-same : (e : Encoding) (kept v : ℕ → Bool) (ts : List Tree) → AgreeOnSelectors e v kept → KeepsTuple e kept ts
    →
    KeepsTuple e v ts
keeps-same e kept v ts agree keeps = record {
  decodes = λ u same. keeps.decodes u (λ x l. same x l ∙ agree x l);
  blocks = λ u same. keeps.blocks u (λ x l. same x l ∙ agree x l);
}

-- what holds of the images holds of each
All-unmap : {A B : Type 0} (P : B → Type 0) (f : A → B) (xs : List A) → All P (map f xs) → All (λ x. P (f x)) xs
All-unmap P f [] h = All-nil (λ x. P (f x))
All-unmap P f (x ∷ xs) h =
    All-cons (λ x. P (f x)) x xs (All-head P (f x) (map f xs) h) (All-unmap P f xs (All-tail P (f x) (map f xs) h))

All-both : {A : Type 0} (P Q : A → Type 0) (xs : List A) → All P xs → All Q xs → All (λ x. P x × Q x) xs
All-both P Q xs h k = λ i d l. (h i d l, k i d l)

module _ (p : Problem) (formed : IsFormed p) (pos : List Positive) (neg : List Negative)
    (positives : All (IsPositive p) pos) (negatives : All (IsNegative p) neg) where
  abbrev e : Encoding
  e = encoding_of p

  -- the terms that truth values choose
  abbrev pub chosen : (ℕ → Bool) → List Term
  chosen v = encoded_terms (encoding_of p) (decoded (encoding_of p) v)

  abbrev IsCovered : List Tree → Positive → Type 0
  IsCovered ts x = Covers (question_of p) (encoded_terms e ts) (positive_of p x)

  abbrev IsExcluded : List Tree → Negative → Type 0
  IsExcluded ts x = Excludes (question_of p) (encoded_terms e ts) (negative_of p x)

  -- ---- from truth values to a transformer

  -- truth values choose a tuple that serves all blocks, and satisfies the examples
  pub record IsChosen (v : ℕ → Bool) : Type 0 where
    pub serves : Serves (encoding_of p) v (decoded (encoding_of p) v)
    pub suits : SuitsExamples p (encoded_terms (encoding_of p) (decoded (encoding_of p) v)) pos neg

  -- truth values that satisfy the fit choose a transformer that satisfies the examples
  pub Means-fit : (v : ℕ → Bool) → Means v (fit p pos neg) (λ u. IsChosen v)
  unfolding fit
  Means-fit v =
      Means-bind _ (assignments_serve e (encodes p formed) v)
      (λ u serves. Means-bind _
      (Means-each (covered p) (IsPositive p) v (λ x. Covers (question_of p) (chosen v) (positive_of p x))
      (Means-covered p formed v (decoded e v) serves) pos positives)
      (λ u covers. Means-weaker
      (Means-each (uncovered p) (IsNegative p) v (λ x. Excludes (question_of p) (chosen v) (negative_of p x))
      (Means-uncovered p formed v (decoded e v) serves) neg negatives)
      (λ u excludes. record {
        serves = serves;
        suits = record {
          covers = All-map (Covers (question_of p) (chosen v)) (positive_of p) pos covers;
          excludes = All-map (Excludes (question_of p) (chosen v)) (negative_of p) neg excludes;
        };
      })))

  -- ---- what it builds

  Builds-template : (q : Place) → q.next ≡ 1 → Builds (template e) 0 (selectors_of e) (λ n u. n ≡ 1 + selectors_of e) q
  Builds-template q first =
      let made = templates_make_selectors e q first in
      record {
        scoped = made.scoped;
        inputs = ap length made.inputs ∙ length-range_with_len 1 (selectors_of e);
        most = omega (arith, made.next, first);
        given = made.next;
      }

  -- the fit makes the selectors its inputs, and builds no more than its examples weigh
  pub Builds-fit : (q : Place) → q.next ≡ 1 →
      Builds (fit p pos neg) ((length pos + length neg) * example_weight p) (selectors_of (encoding_of p))
      (λ n u. 1 + selectors_of (encoding_of p) ≤ n) q
  unfolding fit
  Builds-fit q first =
      let g = example_weight p in
      Builds-bind _ ((length pos + length neg) * g) 0 (Builds-template q first) (omega arith) (omega arith)
      (λ u r l there. Builds-bind _ (length neg * g) 0
      (Builds-each (covered p) (IsPositive p) g (1 + selectors_of e) (Builds-covered p formed) pos positives r
      (omega (arith, there)))
      (omega arith) refl
      (λ u s m any. Builds-weaker
      (Builds-each (uncovered p) (IsNegative p) g (1 + selectors_of e) (Builds-uncovered p formed) neg negatives s
      (omega (arith, there, m)))
      (λ n u k any. omega (arith, there, m, k))))

  -- ---- from a transformer to truth values

  -- from a transformer that satisfies the examples, truth values that satisfy the fit are reached
  pub Reaches-fit : (terms : List Term) (is : IsTransformerOf p terms) → SuitsExamples p terms pos neg →
      (v : ℕ → Bool) → IsTrue (v 0) → (q : Place) → q.next ≡ 1 →
      Reaches v (fit p pos neg) q
      (λ u r a. (1 + selectors_of (encoding_of p) ≤ r.next) × KeepsTuple (encoding_of p) u is.trees)
  unfolding fit
  Reaches-fit terms is suits v t q first =
      let suited : SuitsExamples p (encoded_terms e is.trees) pos neg = subst (λ ts. SuitsExamples p ts pos neg) is.give
      suits in
      Reaches-bind _ (derived_tuples_are_reached e (encodes p formed) is.trees is.derive v t q first)
      (λ u a r l same known.
      let start : IsTrue (u 0) = same 0 (omega (arith, first)) ∙ t in
      let n = 1 + selectors_of e in
      let there : n ≤ r.next = omega (arith, known.0) in
      let covers = All-both (IsPositive p) (IsCovered is.trees) pos positives
      (All-unmap (Covers (question_of p) (encoded_terms e is.trees)) (positive_of p) pos suited.covers) in
      let excludes = All-both (IsNegative p) (IsExcluded is.trees) neg negatives
      (All-unmap (Excludes (question_of p) (encoded_terms e is.trees)) (negative_of p) neg suited.excludes) in
      Reaches-bind _
      (Reaches-each (covered p) (λ x. IsPositive p x × IsCovered is.trees x) n u
      (λ x h z agree s m. Reaches-covered p formed u is.trees is.derive known.1 z (agree 0 (omega arith) ∙ start) agree
      s m x h.0 h.1)
      pos covers u (λ x b. refl) r there)
      (λ z b s m more any. Reaches-weaker
      (Reaches-each (uncovered p) (λ x. IsNegative p x × IsExcluded is.trees x) n u
      (λ x h y agree o k. Reaches-uncovered p formed u is.trees is.derive known.1 y (agree 0 (omega arith) ∙ start)
      agree o k x h.0 h.1)
      neg excludes z (λ x b. more x (omega (arith, b, there))) s (omega (arith, there, m)))
      (λ y o c k yet any. (
        omega (arith, there, m, k),
        keeps-same e u y is.trees
            (λ x b. yet x (omega (arith, b, there, m)) ∙ more x (omega (arith, b, there))) known.1,
      ))))

  -- ---- the formula

  module _ (folding : Bool) where
    -- what satisfies it chooses a transformer that satisfies the examples
    pub fit_found : (v : ℕ → Bool) → Satisfies v (query_circuit folding p (Fit pos neg)).clauses → IsChosen v
    fit_found v h = means_satisfied folding (Means-fit v) h

    -- each transformer that satisfies the examples is chosen by truth values that satisfy it
    fit_reached : (terms : List Term) → IsTransformerOf p terms → SuitsExamples p terms pos neg →
        (v : ℕ → Bool) × Satisfies v (query_circuit folding p (Fit pos neg)).clauses × (chosen v ≡ terms)
    fit_reached terms is suits =
        let first = place_of (start folding) in
        let r = Reaches-fit terms is suits all_true refl first refl in
        let met = (Satisfies-built r.values folding (fit p pos neg first).events).1
        (r.below 0 (omega arith), r.meets) in
        (r.values, met, ap (encoded_terms e) (r.given.1.decodes r.values (λ x l. refl)) ∙ sym is.give)

    -- where a transformer satisfies the examples, it can be satisfied
    pub fit_satisfiable : (terms : List Term) → IsTransformerOf p terms → SuitsExamples p terms pos neg →
        IsSatisfiable (query_circuit folding p (Fit pos neg)).clauses
    fit_satisfiable terms is suits = let found = fit_reached terms is suits in (found.0, found.1)

-- ---- the laws

-- what satisfies the formula of a fit chooses a transformer that satisfies the examples
pub fits_are_chosen : FitsAreChosen
fits_are_chosen folding p pos neg are v h =
    let chosen = fit_found p are.formed pos neg are.positives_stored are.negatives_stored folding v h in
    (tuple_derivable p are.formed (decoded (encoding_of p) v) chosen.serves.derived, chosen.suits)

-- each transformer that satisfies the examples is chosen by truth values that satisfy the formula
pub fits_are_reached : FitsAreReached
fits_are_reached folding p pos neg are terms is suits =
    fit_reached p are.formed pos neg are.positives_stored are.negatives_stored folding terms is suits

-- where nothing satisfies the formula of a fit, no transformer satisfies the examples
pub unsatisfied_fit_has_none : UnsatisfiedFitHasNone
unsatisfied_fit_has_none folding p pos neg are unsat terms is suits =
    unsat (fit_satisfiable p are.formed pos neg are.positives_stored are.negatives_stored folding terms is suits)
