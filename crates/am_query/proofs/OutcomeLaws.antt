-- What is accepted is right, and what a synthesis shows is accepted.
use Rattle.std.proofs.Common.{◌≡◌, ℕ, Bool, suc, List, [], ◌∷◌, length, map, zip, refl, sym, ap, subst, arith}
use Rattle.std.specs.List.{All}
use Rattle.std.proofs.lemmas.List.Elements.{All-cons, All-head, All-map, All-nil, All-tail, All-weaker}
use Rattle.am_bv.specs.declared.term.Term.{Term}
use Rattle.am_domain.specs.Examples.{Excludes, IsTrueExample, IsValidExample}
use Rattle.am_domain.proofs.Laws.{none_betters, none_is_sound}
use Rattle.am_problem.specs.Examples.{IsNegative, negative_of, negatives_of, positive_of, positives_of}
use Rattle.am_problem.specs.Problem.{Problem, question_of}
use Rattle.am_problem.specs.declared.examples.Negative.{Negative}
use Rattle.am_problem.specs.declared.examples.Positive.{Positive}
use Rattle.am_tree.specs.Trees.{AreTrees, terms_of}
use Rattle.am_tree.specs.declared.tree.Tree.{Tree}
use Rattle.am_gate.specs.Circuit.{Net}
use Rattle.am_hint.proofs.Laws.{hint_refutations_are_sound}
use Rattle.am_lit.specs.Truth.{IsSatisfiable}
use Rattle.am_problem.specs.Limits.{IsFormed}
use Rattle.am_query.specs.Acceptance.{IsExcluded, IsGiven, Test, acceptance_by, each_is, first_log, hints_refute}
use Rattle.am_query.specs.Acceptance.{refuted, second_log, terms_inside}
use Rattle.am_query.specs.AcceptanceLaws.{AbsentIsAccepted, AcceptedIsRight, AcceptedWithHintsIsRight, BestIsAccepted}
use Rattle.am_query.specs.AcceptanceLaws.{FitsInto, IsRight}
use Rattle.am_query.specs.Formulas.{query_circuit}
use Rattle.am_query.specs.Transformers.{IsTransformerOf}
use Rattle.am_query.specs.Turns.{after_trace}
use Rattle.am_query.specs.declared.fault.Fault.{Fault}
use Rattle.am_query.specs.declared.fault.Fault.TheVariants.{NegativeFalse, PositiveFalse, TermOutside}
use Rattle.am_query.specs.declared.outcome.Outcome.{Outcome}
use Rattle.am_query.specs.declared.outcome.Outcome.TheVariants.{Absent, Best, Conflicts, Turns}
use Rattle.am_query.specs.declared.query.Query.TheVariants.{Fit, Precise, Sound}
use Rattle.am_query.proofs.Refuted.{refutations_mean, unsatisfied}
use Rattle.am_query.proofs.Shown.{traces_show}
use Rattle.am_query.proofs.Verdicts.{each_passes}

-- where a condition on each item passes, all items meet it
all_passed : {A : Type 0} (Good : A → Type 0) (fault : ℕ → Fault) (i : ℕ) (items : List A) →
    (each_is Good fault i items).Passes → All Good items
all_passed Good fault i [] passes = All-nil Good
all_passed Good fault i (x ∷ xs) passes = All-cons Good x xs passes.0 (all_passed Good fault (suc i) xs passes.1)

all_of_map : {A B : Type 0} (P : B → Type 0) (f : A → B) (xs : List A) → All P (map f xs) → All (λ x. P (f x)) xs
all_of_map P f [] h = All-nil (λ x. P (f x))
all_of_map P f (x ∷ xs) h =
    All-cons (λ y. P (f y)) x xs (All-head P (f x) (map f xs) h) (all_of_map P f xs (All-tail P (f x) (map f xs) h))

module _ (p : Problem) where
  abbrev IsTrueHere : Positive → Type 0
  IsTrueHere e = IsTrueExample (question_of p) (positive_of p e)

  abbrev IsValidHere : Negative → Type 0
  IsValidHere e = IsValidExample (question_of p) (negative_of p e)

  abbrev ExcludesHere : List Term → Negative → Type 0
  ExcludesHere t e = Excludes (question_of p) t (negative_of p e)

  abbrev AreInside : ℕ → List ℕ → List Term → Type 0
  AreInside i starts terms = (each_is (λ (start, term). IsGiven p start term) TermOutside i (zip starts terms)).Passes

  record Trees (starts : List ℕ) (terms : List Term) : Type 0 where
    trees : List Tree
    derive : AreTrees p.rules starts p.depth trees
    give : terms ≡ terms_of p.rules starts trees

  -- given terms are those of trees
  trees_of_given : (i : ℕ) (starts : List ℕ) (terms : List Term) → length terms ≡ length starts →
      AreInside i starts terms → Trees starts terms
  trees_of_given i [] [] same inside = record { trees = []; derive = tt; give = refl }
  trees_of_given i [] (t ∷ ts) same inside = absurd (omega arith)
  trees_of_given i (n ∷ ns) [] same inside = absurd (omega arith)
  trees_of_given i (n ∷ ns) (t ∷ ts) same inside =
      let here = inside.0 in
      let rest = trees_of_given (suc i) ns ts (omega arith) inside.1 in
      record {
        trees = here.0 ∷ rest.trees;
        derive = (here.1.derives, rest.derive);
        give = cc (here.1.gives, rest.give);
      }

  -- terms that are given, one for each start, are a transformer
  pub derivable : (terms : List Term) → (terms_inside p terms).Passes → IsTransformerOf p terms
  derivable terms inside =
      let t = trees_of_given 0 p.starts terms inside.1 inside.0 in
      record { trees = t.trees; derive = t.derive; give = t.give }

  -- the terms of trees are given
  given_of_trees : (i : ℕ) (starts : List ℕ) (trees : List Tree) → AreTrees p.rules starts p.depth trees →
      AreInside i starts (terms_of p.rules starts trees)
  given_of_trees i [] [] derive = tt
  given_of_trees i [] (t ∷ ts) derive = absurd derive
  given_of_trees i (n ∷ ns) [] derive = absurd derive
  given_of_trees i (n ∷ ns) (t ∷ ts) derive =
      ((t, record { derives = derive.0; gives = refl }), given_of_trees (suc i) ns ts derive.1)

  -- trees from the starts have a term for each
  one_each : (starts : List ℕ) (trees : List Tree) → AreTrees p.rules starts p.depth trees →
      length (terms_of p.rules starts trees) ≡ length starts
  one_each [] [] derive = refl
  one_each [] (t ∷ ts) derive = absurd derive
  one_each (n ∷ ns) [] derive = absurd derive
  one_each (n ∷ ns) (t ∷ ts) derive = ap suc (one_each ns ts derive.1)

  inside : (terms : List Term) → IsTransformerOf p terms → (terms_inside p terms).Passes
  inside terms are = (
    subst (AreInside 0 p.starts) (sym are.give) (given_of_trees 0 p.starts are.trees are.derive),
    subst (λ (ts : List Term). length ts ≡ length p.starts) (sym are.give) (one_each p.starts are.trees are.derive),
  )

-- a test that a formula is refuted passes only where it isn't satisfiable
abbrev Refuting : (Net → Test) → Type 0
Refuting test = (c : Net) → (test c).Passes → ¬ IsSatisfiable c.clauses

-- what passes by tests that refute is right
right_by : (folding : Bool) (p : Problem) → IsFormed p → (o : Outcome) → FitsInto p o → (first second : Net → Test) →
    Refuting first → Refuting second → (acceptance_by folding p o first second).Passes → IsRight p o
right_by folding p formed (Best t trace sound_log best_log) fits first second one two passes =
    let q = question_of p in
    let mean = refutations_mean folding p formed in
    let s = after_trace trace in
    let derives = derivable p t passes.0 in
    let positive = all_passed (IsTrueHere p) PositiveFalse 0 s.positives passes.1.0 in
    let negative = all_passed (IsExcluded p t) NegativeFalse 0 s.negatives passes.1.1.0 in
    let valid = All-weaker (IsExcluded p t) (IsValidHere p) (λ e h. h.0) s.negatives negative in
    let excludes = All-weaker (IsExcluded p t) (ExcludesHere p t) (λ e h. h.1) s.negatives negative in
    let precise = query_circuit folding p (Precise t s.positives s.negatives) in
    none_betters q t (positives_of p s.positives) (negatives_of p s.negatives) derives
    (mean.sound t derives (one (query_circuit folding p (Sound t)) passes.1.1.1.0))
    (All-map (IsTrueExample q) (positive_of p) s.positives positive)
    (All-map (IsValidExample q) (negative_of p) s.negatives valid)
    (All-map (Excludes q t) (negative_of p) s.negatives excludes)
    (mean.closest t s.positives s.negatives derives fits.positives fits.negatives (two precise passes.1.1.1.1))
right_by folding p formed (Absent trace log) fits first second one two passes =
    let q = question_of p in
    let mean = refutations_mean folding p formed in
    let s = after_trace trace in
    let positive = all_passed (IsTrueHere p) PositiveFalse 0 s.positives passes.0 in
    none_is_sound q (positives_of p s.positives) (All-map (IsTrueExample q) (positive_of p) s.positives positive)
    (mean.none s.positives [] fits.positives (All-nil (IsNegative p))
    (one (query_circuit folding p (Fit s.positives [])) passes.1))
right_by folding p formed (Turns trace) fits first second one two passes = passes
right_by folding p formed (Conflicts trace asked log) fits first second one two passes = passes

-- what an accepted outcome says is right
pub accepted_is_right : AcceptedIsRight
accepted_is_right folding p formed o fits passes =
    right_by folding p formed o fits (λ c. refuted 0 c.clauses (first_log o)) (λ c. refuted 1 c.clauses (second_log o))
    (λ c refutes. unsatisfied c.clauses (first_log o) refutes)
    (λ c refutes. unsatisfied c.clauses (second_log o) refutes) passes

-- so is what is accepted by hints
pub accepted_with_hints_is_right : AcceptedWithHintsIsRight
accepted_with_hints_is_right folding p formed o fits first second passes =
    right_by folding p formed o fits
    (λ c. hints_refute 0 c.vars c.clauses first) (λ c. hints_refute 1 c.vars c.clauses second)
    (λ c refutes. hint_refutations_are_sound c.vars c.clauses first refutes)
    (λ c refutes. hint_refutations_are_sound c.vars c.clauses second refutes) passes

-- a best transformer with its trace and two refutations is accepted
pub best_is_accepted : BestIsAccepted
best_is_accepted folding p t trace sound_log best_log turns candidate sound best =
    let q = question_of p in
    let s = after_trace trace in
    let shown = traces_show p trace turns in
    let excludes = all_of_map (Excludes q t) (negative_of p) s.negatives candidate.suits.excludes in (
      inside p t candidate.derivable,
      (
        each_passes _ _ 0 s.positives shown.true,
        (each_passes _ _ 0 s.negatives (λ k d within. (shown.valid k d within, excludes k d within)), (sound, best)),
      ),
    )

-- a trace whose positive examples are refuted is accepted
pub absent_is_accepted : AbsentIsAccepted
absent_is_accepted folding p trace log turns refutes = (each_passes _ _ 0 _ (traces_show p trace turns).true, refutes)
