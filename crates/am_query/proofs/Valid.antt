-- Inputs that are abstract values, members of inputs, and the assumption.
use Rattle.std.proofs.Common.{◌≡◌, ℕ, ◌*◌, ◌<◌, ◌≤◌, ◌↔◌, Bool, not, eqb, List, [], ◌∷◌, All, map, length, refl, sym}
use Rattle.std.proofs.Common.{◌∙◌, ap, subst, arith}
use Rattle.std.specs.Prelude.{IsTrue}
use Rattle.std.proofs.lemmas.List.Elements.{All-nil, All-cons, All-head, All-tail, All-map}
use Rattle.am_gate.specs.Build.{Place, Means}
use Rattle.am_gate.specs.Reaches.{Reaches}
use Rattle.am_gate.proofs.Laws.{Means-weaker}
use Rattle.am_bv.specs.Terms.{val, fits}
use Rattle.am_blast.specs.Words.{reads}
use Rattle.am_domain.specs.Question.{AreInputs}
use Rattle.am_domain.specs.Tuple.{IsTuple}
use Rattle.am_problem.specs.Examples.{all_fields, split}
use Rattle.am_problem.specs.Kinds.{fields_of, meaning_of, valid_term_of}
use Rattle.am_problem.specs.Limits.{IsFormed}
use Rattle.am_problem.specs.Problem.{Problem, question_of}
use Rattle.am_problem.specs.lemmas.KindLaws.{laws_of}
use Rattle.am_problem.proofs.Laws.{rows_are_inputs}
use Rattle.am_query.specs.inside.Weights.{valid_weight}
use Rattle.am_query.specs.Formulas.{forced, test, valid}
use Rattle.am_query.specs.inside.Statements.{Any}
use Rattle.am_query.proofs.Builds.{Builds}
use Rattle.am_query.proofs.Steps.{Builds-each, Builds-forced, Makes-test, Means-each, Means-forced, Means-test}
use Rattle.am_query.proofs.Steps.{Reaches-each, Reaches-forced}
use Rattle.am_query.specs.inside.Words.{AreWordsIn}
use Rattle.am_query.proofs.Tuples.{AreLong, AreLong-words, AreWordsIn-later, IsTuple-reads, map-same, map-split}
use Rattle.am_query.proofs.Tuples.{split-long, split-words, length-pieces}
use Rattle.am_query.proofs.Membership.{some_bit, is_nonzero}

module _ (p : Problem) (formed : IsFormed p) where
  abbrev w : ℕ
  w = p.width

  abbrev k : ℕ
  k = fields_of p.kind

  abbrev Valid : List ℕ → Type 0
  Valid a = (meaning_of p.kind).Valid w a

  abbrev tuples : List (List ℕ) → List (List (List ℕ))
  tuples fields = split k p.inputs fields

  -- ---- validity

  one_bit : 1 ≤ p.width
  one_bit = some_bit p formed

  valid-fits : (tuple : List (List ℕ)) → length tuple ≡ k → IsTrue (fits w (length tuple) (valid_term_of p.kind w))
  valid-fits tuple e = rw e ((laws_of p.kind).tells_validity w formed.width).fit

  abbrev is_valid : List ℕ → Bool
  is_valid a = not (eqb (val w (valid_term_of p.kind w) a) 0)

  tells-validity : (a : List ℕ) → IsTuple w k a → IsTrue (is_valid a) ↔ Valid a
  tells-validity a tuple =
      let told = ((laws_of p.kind).tells_validity w formed.width).tells a tuple in
      (λ t. told.0 ((is_nonzero _).0 t), λ h. (is_nonzero _).1 (told.1 h))

  Means-one : (v : ℕ → Bool) (tuple : List (List ℕ)) → AreLong w k tuple →
      Means v (forced (test w (valid_term_of p.kind w) tuple)) (λ u. Valid (map (reads v) tuple))
  Means-one v tuple h =
      Means-weaker
      (Means-forced _ (Means-test w one_bit tuple (valid_term_of p.kind w) (valid-fits tuple h.many) v h.bits))
      (λ u t. (tells-validity (map (reads v) tuple) (IsTuple-reads v w k tuple h)).0 t)

  -- fields that are forced to be abstract values are
  pub Means-valid : (v : ℕ → Bool) (fields : List (List ℕ)) → AreLong w (all_fields p) fields →
      Means v (valid p fields) (λ u. AreInputs (question_of p) (split k p.inputs (map (reads v) fields)))
  Means-valid v fields h =
      Means-weaker
      (Means-each (λ tuple. forced (test w (valid_term_of p.kind w) tuple)) (AreLong w k) v
      (λ tuple. Valid (map (reads v) tuple))
      (Means-one v) (tuples fields) (split-long w k p.inputs fields h))
      (λ u all. (rows_are_inputs p (map (reads v) fields) (IsTuple-reads v w (all_fields p) fields h)).1
      (subst (λ (ts : List (List ℕ)). All Valid ts) (map-split v k p.inputs fields)
      (All-map Valid (map (reads v)) (tuples fields) all)))

  -- the validity of all inputs builds no more than a test for each
  pub Builds-valid : (q : Place) (fields : List (List ℕ)) → 0 < q.next → AreWordsIn w (all_fields p) q.next fields →
      Builds (valid p fields) (p.inputs * valid_weight p) 0 Any q
  Builds-valid q fields pos h =
      subst (λ n. Builds (valid p fields) (n * valid_weight p) 0 Any q) (length-pieces k p.inputs fields)
      (Builds-each (λ tuple. forced (test w (valid_term_of p.kind w) tuple)) (AreWordsIn w k q.next)
      (valid_weight p) q.next
      (λ tuple g r l. Builds-forced
      (Makes-test w one_bit tuple (valid_term_of p.kind w) (valid-fits tuple g.many) r (omega (arith, pos, l))
      (AreWordsIn-later w k q.next r.next tuple l g).each))
      (tuples fields) (split-words w k p.inputs q.next fields h) q (omega arith))

  -- a tuple of words that read as an abstract value
  record ReadsValid (v : ℕ → Bool) (n : ℕ) (tuple : List (List ℕ)) : Type 0 where
    words : AreWordsIn w k n tuple
    valid : Valid (map (reads v) tuple)

  all-valid : (v : ℕ → Bool) (n : ℕ) (fields : List (List ℕ)) → AreWordsIn w (all_fields p) n fields →
      AreInputs (question_of p) (split k p.inputs (map (reads v) fields)) → All (ReadsValid v n) (tuples fields)
  all-valid v n fields h are =
      let each = split-words w k p.inputs n fields h in
      let row = IsTuple-reads v w (all_fields p) fields (AreLong-words w (all_fields p) n fields h) in
      let valid : All Valid (map (map (reads v)) (tuples fields)) =
      subst (λ (ts : List (List ℕ)). All Valid ts) (sym (map-split v k p.inputs fields))
      ((rows_are_inputs p (map (reads v) fields) row).0 are) in
      all_unmapped (tuples fields) each valid
    where
      all_unmapped : (ts : List (List (List ℕ))) → All (AreWordsIn w k n) ts → All Valid (map (map (reads v)) ts) →
          All (ReadsValid v n) ts
      all_unmapped [] each valid = All-nil (ReadsValid v n)
      all_unmapped (t ∷ ts) each valid =
          All-cons (ReadsValid v n) t ts
          (record {
            words = All-head (AreWordsIn w k n) t ts each;
            valid = All-head Valid (map (reads v) t) (map (map (reads v)) ts) valid;
          })
          (all_unmapped ts (All-tail (AreWordsIn w k n) t ts each)
          (All-tail Valid (map (reads v) t) (map (map (reads v)) ts) valid))

  -- fields that read as abstract values can be forced to
  pub Reaches-valid : (v : ℕ → Bool) (q : Place) (fields : List (List ℕ)) → 0 < q.next → IsTrue (v 0) →
      AreWordsIn w (all_fields p) q.next fields →
      AreInputs (question_of p) (split k p.inputs (map (reads v) fields)) →
      Reaches v (valid p fields) q (λ u r a. Unit {0})
  Reaches-valid v q fields pos t h are =
      Reaches-each (λ tuple. forced (test w (valid_term_of p.kind w) tuple)) (ReadsValid v q.next) q.next v
      (λ tuple g u same r l.
      let words = AreWordsIn-later w k q.next r.next tuple l g.words in
      Reaches-forced (omega (arith, pos, l)) (same 0 pos ∙ t)
      (Makes-test w one_bit tuple (valid_term_of p.kind w) (valid-fits tuple g.words.many) r (omega (arith, pos, l))
      words.each)
      (λ z more. Means-weaker
      (Means-test w one_bit tuple (valid_term_of p.kind w) (valid-fits tuple g.words.many) z
      (AreLong-words w k q.next tuple g.words).bits)
      (λ lit e. e
      ∙ ap is_valid (map-same z v w q.next (λ x b. more x (omega (arith, b, l)) ∙ same x b) tuple g.words.each)
      ∙ (tells-validity (map (reads v) tuple) (IsTuple-reads v w k tuple (AreLong-words w k q.next tuple g.words))).1
      g.valid)))
      (tuples fields) (all-valid v q.next fields h are) v (λ x l. refl) q (omega arith)
