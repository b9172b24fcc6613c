-- Examples that the chosen transformer satisfies.
use Rattle.std.proofs.Common.{◌≡◌, ℕ, ◌+◌, ◌^◌, ◌<◌, ◌≤◌, Bool, List, map, refl, ◌∙◌, ap, subst, arith}
use Rattle.std.specs.Prelude.{IsTrue}
use Rattle.am_gate.specs.Build.{Place, Means}
use Rattle.am_gate.specs.Reaches.{Reaches}
use Rattle.am_gate.proofs.Laws.{Means-bind, Means-truth, Means-weaker, Reaches-bind}
use Rattle.am_bv.specs.Terms.{val}
use Rattle.am_bv.specs.declared.term.Term.{Term}
use Rattle.am_blast.specs.Words.{constant, reads}
use Rattle.am_blast.proofs.Laws.{IsWord-constant, length-constant, reads-constant}
use Rattle.am_domain.specs.Question.{results}
use Rattle.am_domain.specs.Examples.{Covers, Excludes}
use Rattle.am_tree.specs.declared.tree.Tree.{Tree}
use Rattle.am_slot.specs.Encoding.{Encoding}
use Rattle.am_slot.specs.Template.{IsDerivedTuple, encoded_terms, selectors_of}
use Rattle.am_slot.specs.Theorems.{AgreeOnSelectors, KeepsTuple, Serves}
use Rattle.am_problem.specs.Examples.{IsFieldRow, IsNegative, IsPositive, all_fields, inputs_of, negative_of}
use Rattle.am_problem.specs.Examples.{positive_of}
use Rattle.am_problem.specs.Kinds.{fields_of}
use Rattle.am_problem.specs.Limits.{IsFormed}
use Rattle.am_problem.specs.Problem.{Problem, question_of}
use Rattle.am_problem.specs.declared.examples.Negative.{Negative}
use Rattle.am_problem.specs.declared.examples.Positive.{Positive}
use Rattle.am_problem.proofs.Laws.{operations_give_words}
use Rattle.am_query.specs.inside.Weights.{example_weight, member_weight}
use Rattle.am_query.specs.Formulas.{constants, covered, encoding_of, uncovered}
use Rattle.am_query.specs.inside.Statements.{Any}
use Rattle.am_query.proofs.Builds.{Builds, Builds-bind, Builds-gates}
use Rattle.am_query.specs.inside.Words.{AreWordsIn}
use Rattle.am_query.proofs.Tuples.{AreLong, AreLong-words, constants-read, constants-words}
use Rattle.am_query.proofs.Membership.{Builds-admitted, Builds-excluded, Means-admitted, Means-excluded}
use Rattle.am_query.proofs.Membership.{Reaches-admitted, Reaches-excluded}
use Rattle.am_query.proofs.Blocks.{Makes-block, Means-block, Reaches-block, ReadsResults}

module _ (p : Problem) (formed : IsFormed p) where
  abbrev w : ℕ
  w = p.width

  abbrev k : ℕ
  k = fields_of p.kind

  abbrev e : Encoding
  e = encoding_of p

  -- the result of terms at the inputs of a row
  abbrev result : List Term → List ℕ → List ℕ
  result terms row = results (question_of p) terms (inputs_of p row)

  -- ---- a block at constants, and a constant

  abbrev fields : List ℕ → List (List ℕ)
  fields row = constants p row

  fields-words : (n : ℕ) → 0 < n → (row : List ℕ) → IsFieldRow p row → AreWordsIn w (all_fields p) n (fields row)
  fields-words n pos row is = subst (λ c. AreWordsIn w c n (fields row)) is.counted (constants-words w n pos row)

  fields-long : (row : List ℕ) → IsFieldRow p row → AreLong w (all_fields p) (fields row)
  fields-long row is =
      let one : 0 < 1 = omega arith in AreLong-words w (all_fields p) 1 (fields row) (fields-words 1 one row is)

  fields-read : (v : ℕ → Bool) → IsTrue (v 0) → (row : List ℕ) → IsFieldRow p row → map (reads v) (fields row) ≡ row
  fields-read v t row is = constants-read v w t row is.words

  -- the block at a row of constants reads as the result there
  read-result : (v : ℕ → Bool) → IsTrue (v 0) → (terms : List Term) (row : List ℕ) → IsFieldRow p row →
      (tuple : List (List ℕ)) →
      ReadsResults p formed v terms (map (reads v) (fields row)) tuple → map (reads v) tuple ≡ result terms row
  read-result v t terms row is tuple r = r.values ∙ ap (result terms) (fields-read v t row is)

  -- ---- what the statements mean

  -- where a positive example is stated, the chosen transformer satisfies it
  pub Means-covered : (v : ℕ → Bool) (ts : List Tree) → Serves (encoding_of p) v ts → (x : Positive) → IsPositive p x →
      Means v (covered p x) (λ u. Covers (question_of p) (encoded_terms (encoding_of p) ts) (positive_of p x))
  unfolding covered
  Means-covered v ts serves x is =
      let c = val w p.operation x.words in
      let below : c < 2 ^ w = operations_give_words p formed x.words is.words in
      Means-truth (λ t. Means-bind _ (Means-block p formed v ts serves (fields x.inputs) (fields-long x.inputs is.row))
      (λ tuple r. Means-weaker (Means-admitted p formed v tuple (constant w c) r.long (length-constant w c))
      (λ u h. rw (read-result v t (encoded_terms e ts) x.inputs is.row tuple r, reads-constant v w c t below) at h)))

  -- where a negative example is stated, the chosen transformer satisfies it
  pub Means-uncovered : (v : ℕ → Bool) (ts : List Tree) → Serves (encoding_of p) v ts → (x : Negative) →
      IsNegative p x →
      Means v (uncovered p x) (λ u. Excludes (question_of p) (encoded_terms (encoding_of p) ts) (negative_of p x))
  unfolding uncovered
  Means-uncovered v ts serves x is =
      Means-truth (λ t. Means-bind _ (Means-block p formed v ts serves (fields x.inputs) (fields-long x.inputs is.row))
      (λ tuple r. Means-weaker (Means-excluded p formed v tuple (constant w x.word) r.long (length-constant w x.word))
      (λ u h. rw (read-result v t (encoded_terms e ts) x.inputs is.row tuple r, reads-constant v w x.word t is.word) at
      h)))

  -- ---- what they build

  -- a positive example builds no more than the weight of an example
  pub Builds-covered : (x : Positive) → IsPositive p x → (q : Place) → 1 + selectors_of (encoding_of p) ≤ q.next →
      Builds (covered p x) (example_weight p) 0 Any q
  unfolding covered
  Builds-covered x is q l =
      let pos : 0 < q.next = omega (arith, l) in
      Builds-bind _ (member_weight p) 0
      (Builds-gates (Makes-block p formed q l (fields x.inputs) (fields-words q.next pos x.inputs is.row))) refl refl
      (λ tuple r m words. Builds-admitted p formed r tuple _ (omega (arith, pos, m)) words
      (IsWord-constant w _ r.next (omega (arith, pos, m))))

  -- a negative example builds no more than the weight of an example
  pub Builds-uncovered : (x : Negative) → IsNegative p x → (q : Place) → 1 + selectors_of (encoding_of p) ≤ q.next →
      Builds (uncovered p x) (example_weight p) 0 Any q
  unfolding uncovered
  Builds-uncovered x is q l =
      let pos : 0 < q.next = omega (arith, l) in
      Builds-bind _ (member_weight p) 0
      (Builds-gates (Makes-block p formed q l (fields x.inputs) (fields-words q.next pos x.inputs is.row))) refl refl
      (λ tuple r m words. Builds-excluded p formed r tuple _ (omega (arith, pos, m)) words
      (IsWord-constant w _ r.next (omega (arith, pos, m))))

  -- ---- which truth values they reach

  module _ (kept : ℕ → Bool) (ts : List Tree) (d : IsDerivedTuple (encoding_of p) ts)
      (keeps : KeepsTuple (encoding_of p) kept ts)
      (v : ℕ → Bool) (t : IsTrue (v 0)) (agree : AgreeOnSelectors (encoding_of p) v kept) (q : Place)
      (l : 1 + selectors_of (encoding_of p) ≤ q.next) where
    pos : 0 < q.next
    pos = omega (arith, l)

    -- an example that a transformer covers can be stated once it is chosen
    pub Reaches-covered : (x : Positive) → IsPositive p x →
        Covers (question_of p) (encoded_terms (encoding_of p) ts) (positive_of p x) →
        Reaches v (covered p x) q (λ u r a. Unit {0})
    unfolding covered
    Reaches-covered x is h =
        let c = val w p.operation x.words in
        let below : c < 2 ^ w = operations_give_words p formed x.words is.words in
        Reaches-bind _
        (Reaches-block p formed kept ts d keeps v agree q l (fields x.inputs) (fields-words q.next pos x.inputs is.row))
        (λ u tuple r m same g.
        let start = same 0 pos ∙ t in
        let first : 0 < r.next = omega (arith, pos, m) in
        Reaches-admitted p formed u r first start tuple (constant w c) g.0 (IsWord-constant w c r.next first)
        (rw (
          g.1.values ∙ ap (result (encoded_terms e ts)) (fields-read v t x.inputs is.row),
          reads-constant u w c start below,
        ) h))

    -- an example that it excludes can be, too
    pub Reaches-uncovered : (x : Negative) → IsNegative p x →
        Excludes (question_of p) (encoded_terms (encoding_of p) ts) (negative_of p x) →
        Reaches v (uncovered p x) q (λ u r a. Unit {0})
    unfolding uncovered
    Reaches-uncovered x is h =
        Reaches-bind _
        (Reaches-block p formed kept ts d keeps v agree q l (fields x.inputs) (fields-words q.next pos x.inputs is.row))
        (λ u tuple r m same g.
        let start = same 0 pos ∙ t in
        let first : 0 < r.next = omega (arith, pos, m) in
        Reaches-excluded p formed u r first start tuple (constant w x.word) g.0 (IsWord-constant w x.word r.next first)
        (rw (
          g.1.values ∙ ap (result (encoded_terms e ts)) (fields-read v t x.inputs is.row),
          reads-constant u w x.word start is.word,
        ) h))
