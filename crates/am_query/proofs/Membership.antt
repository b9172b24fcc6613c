-- Tests of membership and of validity: what they mean, what they build, and which truth values they reach.
use Rattle.std.proofs.Common.{◌≡◌, ◌≢◌, ℕ, ◌+◌, ◌^◌, ◌<◌, ◌≤◌, ◌↔◌, Bool, true, false, not, eqb, List, [], ◌∷◌, ◌++◌}
use Rattle.std.proofs.Common.{map, length, refl, ◌∙◌, ap, arith}
use Rattle.std.specs.Prelude.{IsTrue}
use Rattle.std.proofs.Math.Nat.{pow-le-pow_right}
use Rattle.std.proofs.lemmas.Bool.Decides.{nat_tests}
use Rattle.am_lit.specs.Truth.{literal_value}
use Rattle.am_gate.specs.Circuit.{IsLiteral}
use Rattle.am_gate.specs.Build.{Place, Means}
use Rattle.am_gate.specs.Promises.{MakesGates}
use Rattle.am_gate.specs.Reaches.{Reaches}
use Rattle.am_gate.proofs.Laws.{Means-weaker}
use Rattle.am_bv.specs.Terms.{val, fits, nodes}
use Rattle.am_blast.specs.Words.{reads, IsWord}
use Rattle.am_blast.proofs.Laws.{reads-lt}
use Rattle.am_domain.specs.Laws.{is_member}
use Rattle.am_domain.specs.Question.{IsMember}
use Rattle.am_domain.specs.Tuple.{IsTuple}
use Rattle.am_domain.proofs.Laws.{is_member-tells}
use Rattle.am_problem.specs.Kinds.{abstraction_of, fields_of, member_term_of, valid_term_of}
use Rattle.am_problem.specs.Limits.{IsFormed}
use Rattle.am_problem.specs.Problem.{Problem, question_of}
use Rattle.am_problem.specs.lemmas.KindLaws.{laws_of}
use Rattle.am_query.specs.inside.Weights.{member_weight}
use Rattle.am_query.specs.Formulas.{forced, refused, member_test}
use Rattle.am_query.specs.inside.Statements.{Any}
use Rattle.am_query.proofs.Builds.{Builds}
use Rattle.am_query.proofs.Steps.{Builds-forced, Builds-refused, Makes-test, Means-forced, Means-refused, Means-test}
use Rattle.am_query.proofs.Steps.{Reaches-forced, Reaches-refused}
use Rattle.am_query.specs.inside.Words.{AreWordsIn}
use Rattle.am_query.proofs.Tuples.{AreLong, AreLong-snoc, AreLong-words, AreWordsIn-snoc, IsTuple-reads, map-same}
use Rattle.am_query.proofs.Tuples.{map-snoc, reads-same}

-- a number isn't 0
pub is_nonzero : (n : ℕ) → IsTrue (not (eqb n 0)) ↔ (n ≢ 0)
is_nonzero n = grind (arith, nat_tests)

untrue : (b : Bool) → ¬ IsTrue b → b ≡ false
untrue true h = absurd (h refl)
untrue false h = refl

module _ (p : Problem) (formed : IsFormed p) where
  abbrev w : ℕ
  w = p.width

  abbrev k : ℕ
  k = fields_of p.kind

  -- a word of a problem has a bit
  pub some_bit : 1 ≤ p.width
  some_bit = omega (arith, formed.width.0)

  -- ---- membership

  abbrev IsIn : List ℕ → ℕ → Type 0
  IsIn a c = IsMember (question_of p) a c

  -- whether the member term isn't 0 there
  abbrev tells : List ℕ → ℕ → Bool
  tells a c = is_member w (member_term_of p.kind w) a c

  tells-members : (a : List ℕ) → IsTuple w k a → (c : ℕ) → c < 2 ^ w → IsTrue (tells a c) ↔ IsIn a c
  tells-members a tuple c below =
      is_member-tells (abstraction_of p.kind) (laws_of p.kind).tells_membership w formed.width a tuple c below

  member-fits : (tuple : List (List ℕ)) (word : List ℕ) → length (tuple ++ word ∷ []) ≡ k + 1 →
      IsTrue (fits w (length (tuple ++ word ∷ [])) (member_term_of p.kind w))
  member-fits tuple word e = rw e ((laws_of p.kind).tells_membership w formed.width).fit

  few-nodes : (n : ℕ) → n ≤ 16 ^ k → n < 4294967296
  few-nodes n l =
      let some : 0 < 16 = omega arith in
      let four : 16 ^ k ≤ 16 ^ 4 = pow-le-pow_right some (laws_of p.kind).few_fields in
      omega (arith, l, four)

  -- the terms of the tests are small
  pub member-nodes : nodes (member_term_of p.kind p.width) < 4294967296
  member-nodes = few-nodes _ ((laws_of p.kind).tells_membership w formed.width).small

  -- the term for validity has few nodes
  pub valid-nodes : nodes (valid_term_of p.kind p.width) < 4294967296
  valid-nodes = few-nodes _ ((laws_of p.kind).tells_validity w formed.width).small

  -- the test tells whether what the word reads is a member of what the tuple reads
  Means-member_test : (v : ℕ → Bool) (tuple : List (List ℕ)) (word : List ℕ) → AreLong w k tuple → length word ≡ w →
      Means v (member_test p tuple word) (λ l. literal_value v l ≡ tells (map (reads v) tuple) (reads v word))
  Means-member_test v tuple word h e =
      let all = AreLong-snoc w k tuple word h e in
      Means-weaker
      (Means-test w some_bit (tuple ++ word ∷ []) (member_term_of p.kind w) (member-fits tuple word all.many) v
      all.bits)
      (λ l g. g ∙ ap (λ env. not (eqb (val w (member_term_of p.kind w) env) 0)) (map-snoc v tuple word))

  pub Makes-member_test : (q : Place) (tuple : List (List ℕ)) (word : List ℕ) → 0 < q.next →
      AreWordsIn w k q.next tuple → IsWord w q.next word →
      MakesGates (member_test p tuple word) (member_weight p) IsLiteral q
  Makes-member_test q tuple word pos h e =
      let all = AreWordsIn-snoc w k q.next tuple word h e in
      Makes-test w some_bit (tuple ++ word ∷ []) (member_term_of p.kind w) (member-fits tuple word all.many) q pos
      all.each

  -- a row of w literals reads a word of w bits
  pub below-reads : (v : ℕ → Bool) (word : List ℕ) → length word ≡ w → reads v word < 2 ^ w
  below-reads v word e = rw (← e) (reads-lt v word)

  -- a word that is forced to be a member is one
  pub Means-admitted : (v : ℕ → Bool) (tuple : List (List ℕ)) (word : List ℕ) → AreLong w k tuple → length word ≡ w →
      Means v (forced (member_test p tuple word)) (λ u. IsMember (question_of p) (map (reads v) tuple) (reads v word))
  Means-admitted v tuple word h e =
      Means-weaker (Means-forced _ (Means-member_test v tuple word h e))
      (λ u t.
      (tells-members (map (reads v) tuple) (IsTuple-reads v w k tuple h) (reads v word) (below-reads v word e)).0 t)

  -- one that is refused is none
  pub Means-excluded : (v : ℕ → Bool) (tuple : List (List ℕ)) (word : List ℕ) → AreLong w k tuple → length word ≡ w →
      Means v (refused (member_test p tuple word))
      (λ u. ¬ IsMember (question_of p) (map (reads v) tuple) (reads v word))
  Means-excluded v tuple word h e =
      Means-weaker (Means-refused _ (Means-member_test v tuple word h e))
      (λ u t is. t
      ((tells-members (map (reads v) tuple) (IsTuple-reads v w k tuple h) (reads v word) (below-reads v word e)).1 is))

  module _ (v : ℕ → Bool) (q : Place) (pos : 0 < q.next) (true_zero : IsTrue (v 0)) (tuple : List (List ℕ))
      (word : List ℕ)
      (h : AreWordsIn w k q.next tuple) (e : IsWord w q.next word) where
    -- the test has the same value for all truth values that agree on what is there
    member-same : (u : ℕ → Bool) → ((x : ℕ) → x < q.next → u x ≡ v x) →
        tells (map (reads u) tuple) (reads u word) ≡ tells (map (reads v) tuple) (reads v word)
    member-same u same = rw (map-same u v w q.next same tuple h.each, reads-same u v q.next same word e.inside) refl

    its : IsTrue (tells (map (reads v) tuple) (reads v word)) ↔ IsIn (map (reads v) tuple) (reads v word)
    its =
        tells-members (map (reads v) tuple) (IsTuple-reads v w k tuple (AreLong-words w k q.next tuple h))
        (reads v word) (below-reads v word e.bits)

    -- a member can be forced to be one
    pub Reaches-admitted : IsMember (question_of p) (map (reads v) tuple) (reads v word) →
        Reaches v (forced (member_test p tuple word)) q (λ u r a. Unit {0})
    Reaches-admitted is =
        Reaches-forced pos true_zero (Makes-member_test q tuple word pos h e)
        (λ u same. Means-weaker (Means-member_test u tuple word (AreLong-words w k q.next tuple h) e.bits)
        (λ l g. g ∙ member-same u same ∙ its.1 is))

    -- what is no member can be refused
    pub Reaches-excluded : (¬ IsMember (question_of p) (map (reads v) tuple) (reads v word)) →
        Reaches v (refused (member_test p tuple word)) q (λ u r a. Unit {0})
    Reaches-excluded none =
        Reaches-refused pos true_zero (Makes-member_test q tuple word pos h e)
        (λ u same. Means-weaker (Means-member_test u tuple word (AreLong-words w k q.next tuple h) e.bits)
        (λ l g. g ∙ member-same u same ∙ untrue _ (λ t. none (its.0 t))))

  -- a word that is forced to be a member builds one test
  pub Builds-admitted : (q : Place) (tuple : List (List ℕ)) (word : List ℕ) → 0 < q.next → AreWordsIn w k q.next tuple →
      IsWord w q.next word →
      Builds (forced (member_test p tuple word)) (member_weight p) 0 Any q
  Builds-admitted q tuple word pos h e = Builds-forced (Makes-member_test q tuple word pos h e)

  -- a word that is refused as a member builds one test
  pub Builds-excluded : (q : Place) (tuple : List (List ℕ)) (word : List ℕ) → 0 < q.next → AreWordsIn w k q.next tuple →
      IsWord w q.next word →
      Builds (refused (member_test p tuple word)) (member_weight p) 0 Any q
  Builds-excluded q tuple word pos h e = Builds-refused (Makes-member_test q tuple word pos h e)
