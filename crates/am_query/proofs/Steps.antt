-- What may be stated in any circuit: what it means, what it builds, and which truth values it reaches.
use Rattle.std.proofs.Common.{◌≡◌, ℕ, ◌*◌, ◌<◌, ◌≤◌, Bool, true, false, not, eqb, ◌||◌, List, [], ◌∷◌, All, map, length}
use Rattle.std.proofs.Common.{refl, sym, ◌∙◌, ap, arith}
use Rattle.std.specs.Prelude.{IsTrue}
use Rattle.std.proofs.lemmas.List.Elements.{All-nil, All-cons, All-head, All-tail}
use Rattle.am_lit.specs.Literal.{opposite_of}
use Rattle.am_lit.specs.Truth.{literal_value}
use Rattle.am_lit.proofs.Laws.{literal_value-opposite_of}
use Rattle.am_gate.specs.Circuit.{IsLiteral}
use Rattle.am_gate.specs.Build.{Step, Place, Means}
use Rattle.am_gate.specs.Promises.{MakesGates}
use Rattle.am_gate.specs.Reaches.{Reaches}
use Rattle.am_gate.proofs.Laws.{IsLiteral-opposite, Means-answer, Means-bind, Means-weaker, Makes-bind, Reaches-answer}
use Rattle.am_gate.proofs.Laws.{Reaches-bind, Reaches-gates, Reaches-tell}
use Rattle.am_bv.specs.Terms.{val, fits}
use Rattle.am_bv.specs.declared.term.Term.{Term}
use Rattle.am_blast.specs.Words.{reads, IsWord}
use Rattle.am_blast.proofs.Laws.{Means-blasted, Makes-blasted, Means-nonzero, Makes-nonzero}
use Rattle.am_problem.specs.Loads.{tested_term_weight}
use Rattle.am_query.specs.Formulas.{each, forced, refused, test}
use Rattle.am_query.specs.inside.Statements.{Any}
use Rattle.am_query.proofs.Builds.{Builds, Builds-answer, Builds-bind, Builds-gates, Builds-more, Builds-tell}
use Rattle.am_query.proofs.Builds.{Means-tell, Reaches-weaker}

-- one literal

or-false : (b : Bool) → (b || false) ≡ b
or-false true = refl
or-false false = refl

-- a literal is a clause of one
pub All-one : (n l : ℕ) → IsLiteral n l → All (IsLiteral n) (l ∷ [])
All-one n l h = All-cons (IsLiteral n) l [] h (All-nil (IsLiteral n))

-- ---- one statement after another

module _ {A : Type 0} (state : A → Step (Unit {0})) (P : A → Type 0) where
  -- what each one means
  pub Means-each : (v : ℕ → Bool) (R : A → Type 0) → ((x : A) → P x → Means v (state x) (λ u. R x)) →
      (xs : List A) → All P xs → Means v (each state xs) (λ u. All R xs)
  unfolding each
  Means-each v R one [] h = Means-answer _ (All-nil R)
  Means-each v R one (x ∷ xs) h =
      Means-bind _ (one x (All-head P x xs h))
      (λ u r. Means-weaker (Means-each v R one xs (All-tail P x xs h)) (λ u rs. All-cons R x xs r rs))

  -- what each one builds, from a number of variables on
  pub Builds-each : (k n : ℕ) → ((x : A) → P x → (q : Place) → n ≤ q.next → Builds (state x) k 0 Any q) →
      (xs : List A) → All P xs → (p : Place) → n ≤ p.next → Builds (each state xs) (length xs * k) 0 Any p
  unfolding each
  Builds-each k n one [] h p l = Builds-more _ (Builds-answer _ tt) (omega arith)
  Builds-each k n one (x ∷ xs) h p l =
      Builds-bind _ (length xs * k) 0 (one x (All-head P x xs h) p l) (omega arith) refl
      (λ u q m r. Builds-each k n one xs (All-tail P x xs h) q (omega (arith, l, m)))

  -- where each one is reached from all truth values that agree with some on the variables below n
  pub Reaches-each : (n : ℕ) (v : ℕ → Bool) →
      ((x : A) → P x → (u : ℕ → Bool) → ((y : ℕ) → y < n → u y ≡ v y) → (q : Place) → n ≤ q.next →
      Reaches u (state x) q (λ z r a. Unit {0})) →
      (xs : List A) → All P xs → (u : ℕ → Bool) → ((y : ℕ) → y < n → u y ≡ v y) → (p : Place) → n ≤ p.next →
      Reaches u (each state xs) p (λ z r a. Unit {0})
  unfolding each
  Reaches-each n v one [] h u same p l = Reaches-answer _ tt
  Reaches-each n v one (x ∷ xs) h u same p l =
      Reaches-bind _ (one x (All-head P x xs h) u same p l)
      (λ z a q m more r. Reaches-each n v one xs (All-tail P x xs h) z (λ y k. more y (omega (arith, k, l)) ∙ same y k)
      q (omega (arith, l, m)))

-- ---- a test that holds, and one that doesn't

-- what is forced holds
pub Means-forced : {v : ℕ → Bool} {m : Step ℕ} (b : Bool) → Means v m (λ l. literal_value v l ≡ b) →
    Means v (forced m) (λ u. IsTrue b)
unfolding forced
Means-forced {v = v} b h =
    Means-bind _ h (λ l e. Means-weaker (Means-tell v (l ∷ [])) (λ u t. sym e ∙ sym (or-false (literal_value v l)) ∙ t))

-- what is refused doesn't
pub Means-refused : {v : ℕ → Bool} {m : Step ℕ} (b : Bool) → Means v m (λ l. literal_value v l ≡ b) →
    Means v (refused m) (λ u. ¬ IsTrue b)
unfolding refused
Means-refused {v = v} b h =
    Means-bind _ h (λ l e. Means-weaker (Means-tell v (opposite_of l ∷ []))
    (λ u t i.
    let true_opposite = sym (or-false (literal_value v (opposite_of l))) ∙ t in
    absurd (cc (literal_value-opposite_of v l, true_opposite, e, i))))

-- they build the gates of the test
pub Builds-forced : {m : Step ℕ} {k : ℕ} {p : Place} → MakesGates m k IsLiteral p → Builds (forced m) k 0 Any p
unfolding forced
Builds-forced h =
    Builds-bind _ 0 0 (Builds-gates h) (omega arith) refl (λ l q m one. Builds-tell (l ∷ []) q (All-one q.next l one))

-- a refused test builds the gates of the test
pub Builds-refused : {m : Step ℕ} {k : ℕ} {p : Place} → MakesGates m k IsLiteral p → Builds (refused m) k 0 Any p
unfolding refused
Builds-refused h = Builds-bind _ 0 0 (Builds-gates h) (omega arith) refl
    (λ l q m one. Builds-tell (opposite_of l ∷ []) q (All-one q.next (opposite_of l) (IsLiteral-opposite q.next l one)))

-- a test that holds can be forced
pub Reaches-forced : {v : ℕ → Bool} {m : Step ℕ} {k : ℕ} {p : Place} → 0 < p.next → IsTrue (v 0) →
    MakesGates m k IsLiteral p →
    ((u : ℕ → Bool) → ((x : ℕ) → x < p.next → u x ≡ v x) → Means u m (λ l. literal_value u l ≡ true)) →
    Reaches v (forced m) p (λ u q a. Unit {0})
unfolding forced
Reaches-forced pos t makes means =
    Reaches-bind _ (Reaches-gates pos t makes means)
    (λ u l q le same g. Reaches-weaker
    (Reaches-tell u (l ∷ []) q (All-one q.next l g.0) (or-false (literal_value u l) ∙ g.1))
    (λ z r a n s h. tt))

-- a test that doesn't hold can be refused
pub Reaches-refused : {v : ℕ → Bool} {m : Step ℕ} {k : ℕ} {p : Place} → 0 < p.next → IsTrue (v 0) →
    MakesGates m k IsLiteral p →
    ((u : ℕ → Bool) → ((x : ℕ) → x < p.next → u x ≡ v x) → Means u m (λ l. literal_value u l ≡ false)) →
    Reaches v (refused m) p (λ u q a. Unit {0})
unfolding refused
Reaches-refused pos t makes means =
    Reaches-bind _ (Reaches-gates pos t makes means)
    (λ u l q le same g. Reaches-weaker
    (Reaches-tell u (opposite_of l ∷ []) q (All-one q.next (opposite_of l) (IsLiteral-opposite q.next l g.0))
    (or-false (literal_value u (opposite_of l)) ∙ literal_value-opposite_of u l ∙ ap not g.1))
    (λ z r a n s h. tt))

-- ---- the test of a term

module _ (w : ℕ) (one : 1 ≤ w) (words : List (List ℕ)) (t : Term) (fit : IsTrue (fits w (length words) t)) where
  -- it tells whether the term's value isn't 0
  pub Means-test : (v : ℕ → Bool) → All (λ word. length word ≡ w) words →
      Means v (test w t words) (λ l. literal_value v l ≡ not (eqb (val w t (map (reads v) words)) 0))
  unfolding test
  Means-test v long =
      Means-bind _ (Means-blasted w one words v long t fit)
      (λ value r. Means-weaker (Means-nonzero v value) (λ l e. e ∙ ap (λ n. not (eqb n 0)) r.value))

  -- it makes the gates of the term and of the test of a word
  pub Makes-test : (p : Place) → 0 < p.next → All (IsWord w p.next) words →
      MakesGates (test w t words) (tested_term_weight w t) IsLiteral p
  unfolding test
  Makes-test p pos h =
      Makes-bind _ w (Makes-blasted w one words t fit p pos h) refl
      (λ value q l is. rw is.bits at (Makes-nonzero value q (omega (arith, pos, l)) is.inside))
