-- Members of inputs, and the assumption.
use Rattle.std.proofs.Common.{◌≡◌, ℕ, suc, ◌*◌, ◌<◌, Bool, not, eqb, List, [], ◌∷◌, All, map, length, zip, refl, sym}
use Rattle.std.proofs.Common.{◌∙◌, ap, subst, arith}
use Rattle.std.specs.Prelude.{IsTrue, IfSome}
use Rattle.std.specs.declared.option.Option.{Option}
use Rattle.std.specs.declared.option.Option.TheVariants.{None, Some}
use Rattle.std.proofs.lemmas.List.Elements.{All-nil, All-cons, All-head, All-tail}
use Rattle.am_gate.specs.Build.{Place, Step, Means}
use Rattle.am_gate.specs.Reaches.{Reaches}
use Rattle.am_gate.proofs.Laws.{Means-answer, Means-weaker, Reaches-answer}
use Rattle.am_bv.specs.Terms.{val, fits}
use Rattle.am_bv.specs.declared.term.Term.{Term}
use Rattle.am_blast.specs.Words.{reads, IsWord}
use Rattle.am_blast.proofs.Laws.{IsWord-later}
use Rattle.am_domain.specs.Question.{AreMembers, IsMember}
use Rattle.am_problem.specs.Examples.{all_fields, split}
use Rattle.am_problem.specs.Kinds.{fields_of}
use Rattle.am_problem.specs.Limits.{IsFormed, IsOperation}
use Rattle.am_problem.specs.Loads.{assumption_weight}
use Rattle.am_problem.specs.Problem.{IsAssumed, Problem, question_of}
use Rattle.am_query.specs.inside.Weights.{member_weight}
use Rattle.am_query.specs.Formulas.{assumed, forced, member_test, members}
use Rattle.am_query.specs.inside.Statements.{Any}
use Rattle.am_query.proofs.Builds.{Builds, Builds-answer}
use Rattle.am_query.proofs.Steps.{Builds-each, Builds-forced, Makes-test, Means-each, Means-forced, Means-test}
use Rattle.am_query.proofs.Steps.{Reaches-each, Reaches-forced}
use Rattle.am_query.specs.inside.Words.{AreWordsIn}
use Rattle.am_query.proofs.Tuples.{AreLong, AreLong-words, AreWordsIn-later, length-pieces, map-same, map-split}
use Rattle.am_query.proofs.Tuples.{reads-same, split-long, split-words}
use Rattle.am_query.proofs.Membership.{some_bit, is_nonzero, below-reads, Means-admitted, Builds-admitted}
use Rattle.am_query.proofs.Membership.{Reaches-admitted}

module _ (p : Problem) (formed : IsFormed p) where
  abbrev w : ℕ
  w = p.width

  abbrev k : ℕ
  k = fields_of p.kind

  abbrev tuples : List (List ℕ) → List (List (List ℕ))
  tuples fields = split k p.inputs fields

  abbrev Pair : Type 0
  Pair = List (List ℕ) × List ℕ

  abbrev one_member : Pair → Step (Unit {0})
  one_member = λ (tuple, word). forced (member_test p tuple word)

  -- ---- members

  -- a tuple and a word of w bits
  record IsLongPair (both : Pair) : Type 0 where
    tuple : AreLong w k both.0
    word : length both.1 ≡ w

  record IsPair (n : ℕ) (both : Pair) : Type 0 where
    tuple : AreWordsIn w k n both.0
    word : IsWord w n both.1

  abbrev HasMember : (ℕ → Bool) → Pair → Type 0
  HasMember v both = IsMember (question_of p) (map (reads v) both.0) (reads v both.1)

  long-pairs : (ts : List (List (List ℕ))) (words : List (List ℕ)) → All (AreLong w k) ts →
      All (λ x. length x ≡ w) words →
      All IsLongPair (zip ts words)
  long-pairs [] words h e = All-nil IsLongPair
  long-pairs (t ∷ ts) [] h e = All-nil IsLongPair
  long-pairs (t ∷ ts) (c ∷ words) h e =
      let Long : List ℕ → Type 0 = λ x. length x ≡ w in
      All-cons IsLongPair (t, c) (zip ts words)
      (record { tuple = All-head (AreLong w k) t ts h; word = All-head Long c words e })
      (long-pairs ts words (All-tail (AreLong w k) t ts h) (All-tail Long c words e))

  -- pairs of tuples and members are tuples and their members
  paired-members : (v : ℕ → Bool) (ts : List (List (List ℕ))) (words : List (List ℕ)) → length ts ≡ length words →
      All (λ x. length x ≡ w) words →
      All (HasMember v) (zip ts words) → AreMembers (question_of p) (map (map (reads v)) ts) (map (reads v) words)
  paired-members v [] [] e long h = tt
  paired-members v [] (c ∷ words) e long h = absurd (omega (arith, e))
  paired-members v (t ∷ ts) [] e long h = absurd (omega (arith, e))
  paired-members v (t ∷ ts) (c ∷ words) e long h =
      let Long : List ℕ → Type 0 = λ x. length x ≡ w in (
        below-reads p formed v c (All-head Long c words long),
        All-head (HasMember v) (t, c) (zip ts words) h,
        paired-members v ts words (omega (arith, e)) (All-tail Long c words long)
            (All-tail (HasMember v) (t, c) (zip ts words) h),
      )

  -- words that are forced to be members of inputs are
  pub Means-members : (v : ℕ → Bool) (fields words : List (List ℕ)) → AreLong w (all_fields p) fields →
      AreLong w p.inputs words →
      Means v (members p fields words)
      (λ u. AreMembers (question_of p) (split k p.inputs (map (reads v) fields)) (map (reads v) words))
  Means-members v fields words h e =
      let long = long-pairs (tuples fields) words (split-long w k p.inputs fields h) e.bits in
      let many : length (tuples fields) ≡ length words = length-pieces k p.inputs fields ∙ sym e.many in
      Means-weaker
      (Means-each one_member IsLongPair v (HasMember v)
      (λ both g. Means-admitted p formed v both.0 both.1 g.tuple g.word) (zip (tuples fields) words) long)
      (λ u all. subst (λ (ts : List (List ℕ)). AreMembers (question_of p) ts (map (reads v) words))
      (map-split v k p.inputs fields)
      (paired-members v (tuples fields) words many e.bits all))

  pairs : (n : ℕ) (ts : List (List (List ℕ))) (words : List (List ℕ)) → All (AreWordsIn w k n) ts →
      All (IsWord w n) words →
      All (IsPair n) (zip ts words)
  pairs n [] words h e = All-nil (IsPair n)
  pairs n (t ∷ ts) [] h e = All-nil (IsPair n)
  pairs n (t ∷ ts) (c ∷ words) h e =
      All-cons (IsPair n) (t, c) (zip ts words)
      (record { tuple = All-head (AreWordsIn w k n) t ts h; word = All-head (IsWord w n) c words e })
      (pairs n ts words (All-tail (AreWordsIn w k n) t ts h) (All-tail (IsWord w n) c words e))

  length-pairs : (ts : List (List (List ℕ))) (words : List (List ℕ)) → length ts ≡ length words →
      length (zip ts words) ≡ length words
  length-pairs [] [] e = refl
  length-pairs [] (c ∷ words) e = absurd (omega (arith, e))
  length-pairs (t ∷ ts) [] e = absurd (omega (arith, e))
  length-pairs (t ∷ ts) (c ∷ words) e = ap suc (length-pairs ts words (omega (arith, e)))

  -- the members of all inputs build no more than a test for each
  pub Builds-members : (q : Place) (fields words : List (List ℕ)) → 0 < q.next →
      AreWordsIn w (all_fields p) q.next fields → AreWordsIn w p.inputs q.next words →
      Builds (members p fields words) (p.inputs * member_weight p) 0 Any q
  Builds-members q fields words pos h e =
      let many : length (zip (tuples fields) words) ≡ p.inputs =
      length-pairs (tuples fields) words (length-pieces k p.inputs fields ∙ sym e.many) ∙ e.many in
      subst (λ n. Builds (members p fields words) (n * member_weight p) 0 Any q) many
      (Builds-each one_member (IsPair q.next) (member_weight p) q.next
      (λ both g r l. Builds-admitted p formed r both.0 both.1 (omega (arith, pos, l))
      (AreWordsIn-later w k q.next r.next both.0 l g.tuple) (IsWord-later w q.next r.next both.1 l g.word))
      (zip (tuples fields) words) (pairs q.next (tuples fields) words (split-words w k p.inputs q.next fields h) e.each)
      q (omega arith))

  -- a tuple and a word that read as an input and its member
  record ReadsMember (v : ℕ → Bool) (n : ℕ) (both : Pair) : Type 0 where
    words : IsPair n both
    member : HasMember v both

  all-members : (v : ℕ → Bool) (n : ℕ) (ts : List (List (List ℕ))) (words : List (List ℕ)) →
      All (IsPair n) (zip ts words) →
      AreMembers (question_of p) (map (map (reads v)) ts) (map (reads v) words) → All (ReadsMember v n) (zip ts words)
  all-members v n [] words h are = All-nil (ReadsMember v n)
  all-members v n (t ∷ ts) [] h are = All-nil (ReadsMember v n)
  all-members v n (t ∷ ts) (c ∷ words) h are =
      All-cons (ReadsMember v n) (t, c) (zip ts words)
      (record { words = All-head (IsPair n) (t, c) (zip ts words) h; member = are.1 })
      (all-members v n ts words (All-tail (IsPair n) (t, c) (zip ts words) h) are.2)

  -- words that read as members of inputs can be forced to
  pub Reaches-members : (v : ℕ → Bool) (q : Place) (fields words : List (List ℕ)) → 0 < q.next → IsTrue (v 0) →
      AreWordsIn w (all_fields p) q.next fields → AreWordsIn w p.inputs q.next words →
      AreMembers (question_of p) (split k p.inputs (map (reads v) fields)) (map (reads v) words) →
      Reaches v (members p fields words) q (λ u r a. Unit {0})
  Reaches-members v q fields words pos t h e are =
      let inside = pairs q.next (tuples fields) words (split-words w k p.inputs q.next fields h) e.each in
      let are_read : AreMembers (question_of p) (map (map (reads v)) (tuples fields)) (map (reads v) words) =
      subst (λ (ts : List (List ℕ)). AreMembers (question_of p) ts (map (reads v) words))
      (sym (map-split v k p.inputs fields)) are in
      Reaches-each one_member (ReadsMember v q.next) q.next v
      (λ both g u same r l.
      Reaches-admitted p formed u r (omega (arith, pos, l)) (same 0 pos ∙ t) both.0 both.1
      (AreWordsIn-later w k q.next r.next both.0 l g.words.tuple) (IsWord-later w q.next r.next both.1 l g.words.word)
      (rw (map-same u v w q.next same both.0 g.words.tuple.each, reads-same u v q.next same both.1 g.words.word.inside)
      g.member))
      (zip (tuples fields) words) (all-members v q.next (tuples fields) words inside are_read) v (λ x l. refl) q
      (omega arith)

  -- ---- the assumption

  assumption-fits : (t : Term) (words : List (List ℕ)) → IsOperation w p.inputs t → length words ≡ p.inputs →
      IsTrue (fits w (length words) t)
  assumption-fits t words is e = rw e is.fit

  -- where the assumption is forced, the operation is used
  pub Means-assumed : (v : ℕ → Bool) (words : List (List ℕ)) → AreLong w p.inputs words → (o : Option Term) →
      IfSome o (IsOperation w p.inputs) →
      Means v (assumed p words o) (λ u. IsAssumed w o (map (reads v) words))
  Means-assumed v words h None is = Means-answer _ tt
  Means-assumed v words h (Some t) is =
      Means-weaker
      (Means-forced _ (Means-test w (some_bit p formed) words t (assumption-fits t words is h.many) v h.bits))
      (λ u g. (is_nonzero _).0 g)

  -- the assumption builds no more than its weight
  pub Builds-assumed : (q : Place) (words : List (List ℕ)) → 0 < q.next → AreWordsIn w p.inputs q.next words →
      (o : Option Term) → IfSome o (IsOperation w p.inputs) →
      Builds (assumed p words o) (assumption_weight w o) 0 Any q
  Builds-assumed q words pos h None is = Builds-answer _ tt
  Builds-assumed q words pos h (Some t) is =
      Builds-forced (Makes-test w (some_bit p formed) words t (assumption-fits t words is h.many) q pos h.each)

  -- where the operation is used, that can be forced
  pub Reaches-assumed : (v : ℕ → Bool) (q : Place) (words : List (List ℕ)) → 0 < q.next → IsTrue (v 0) →
      AreWordsIn w p.inputs q.next words →
      (o : Option Term) → IfSome o (IsOperation w p.inputs) → IsAssumed w o (map (reads v) words) →
      Reaches v (assumed p words o) q (λ u r a. Unit {0})
  Reaches-assumed v q words pos t h None is used = Reaches-answer _ tt
  Reaches-assumed v q words pos t h (Some term) is used =
      Reaches-forced pos t
      (Makes-test w (some_bit p formed) words term (assumption-fits term words is h.many) q pos h.each)
      (λ u same. Means-weaker
      (Means-test w (some_bit p formed) words term (assumption-fits term words is h.many) u
      (AreLong-words w p.inputs q.next words h).bits)
      (λ l e. e ∙ ap (λ env. not (eqb (val w term env) 0)) (map-same u v w q.next same words h.each)
      ∙ (is_nonzero _).1 used))
