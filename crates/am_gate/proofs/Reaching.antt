-- Rules of reaching truth values.
use Rattle.std.proofs.Common.{◌≡◌, ℕ, ◌+◌, ◌%◌, ◌<◌, ◌≤◌, Bool, not, cond, List, [], ◌∷◌, eqb, refl, sym, ◌∙◌, ap}
use Rattle.std.proofs.Common.{arith, subst}
use Rattle.std.specs.Prelude.{All, IsTrue}
use Rattle.std.proofs.lemmas.List.Elements.{All-head, All-tail}
use Rattle.am_lit.specs.Literal.{variable_of}
use Rattle.am_lit.specs.Truth.{literal_value, clause_value}
use Rattle.am_gate.specs.Circuit.{Event, Event.Input, Event.And, Event.Xor, Event.Mux, Event.Clause, IsLiteral, makes}
use Rattle.am_gate.specs.Circuit.{AreScoped, literals_of}
use Rattle.am_gate.specs.Value.{EventHolds, Meets}
use Rattle.am_gate.specs.Build.{Place, Step, past, ◌>>=◌, answer, tell, Means}
use Rattle.am_gate.specs.Promises.{MakesGates}
use Rattle.am_gate.specs.Reaches.{Reaches}
use Rattle.am_gate.proofs.Building.{Meets-append}
use Rattle.am_gate.proofs.Scoping.{AreScoped-append, past-append, past-not_less}
use Rattle.am_gate.proofs.Making.{Makes-extend}

-- what truth values say depends on the variables below alone

module _ (u v : ℕ → Bool) where
  literal-same : (g l : ℕ) → ((x : ℕ) → x < g → u x ≡ v x) → IsLiteral g l → literal_value u l ≡ literal_value v l
  literal-same g l f h = ap (λ b. cond (eqb (l % 2) 0) b (not b)) (f (variable_of l) h)

  clause-same : (g : ℕ) (c : List ℕ) → ((x : ℕ) → x < g → u x ≡ v x) → All (IsLiteral g) c →
      clause_value u c ≡ clause_value v c
  clause-same g [] f h = refl
  clause-same g (l ∷ c) f h =
      rw (literal-same g l f (All-head (IsLiteral g) l c h), clause-same g c f (All-tail (IsLiteral g) l c h)) refl

  holds-same : (g : ℕ) (e : Event) → ((x : ℕ) → x < g + makes e → u x ≡ v x) → All (IsLiteral g) (literals_of e) →
      EventHolds v g e →
      EventHolds u g e
  holds-same g Input f s h = tt
  holds-same g (And a b) f s h =
      let low = λ (x : ℕ) (l : x < g). f x (omega (arith, l)) in
      let here : g < g + 1 = omega arith in
      f g here ∙ h ∙ rw (literal-same g a low (s 0 0 (omega arith)), literal-same g b low (s 1 0 (omega arith))) refl
  holds-same g (Xor a b) f s h =
      let low = λ (x : ℕ) (l : x < g). f x (omega (arith, l)) in
      let here : g < g + 1 = omega arith in
      f g here ∙ h ∙ rw (literal-same g a low (s 0 0 (omega arith)), literal-same g b low (s 1 0 (omega arith))) refl
  holds-same g (Mux c a b) f s h =
      let low = λ (x : ℕ) (l : x < g). f x (omega (arith, l)) in
      let here : g < g + 1 = omega arith in
      f g here ∙ h
      ∙ rw (
        literal-same g c low (s 0 0 (omega arith)),
        literal-same g a low (s 1 0 (omega arith)),
        literal-same g b low (s 2 0 (omega arith)),
      )
      refl
  holds-same g (Clause c) f s h = clause-same g c (λ x l. f x (omega (arith, l))) s ∙ h

  meets-same : (p : Place) (es : List Event) → AreScoped p.next es → ((x : ℕ) → x < (past p es).next → u x ≡ v x) →
      Meets v p.next es →
      Meets u p.next es
  unfolding Meets past
  meets-same p [] s f h = tt
  meets-same p (e ∷ es) s f h =
      let q : Place = record p { next = p.next + makes e } in
      (holds-same p.next e (λ x l. f x (omega (arith, l, past-not_less q es))) s.0 h.0, meets-same q es s.1 f h.1)

-- an answer needs no events
pub Reaches-answer : {A : Type 0} {v : ℕ → Bool} {p : Place} {Q : (ℕ → Bool) → Place → A → Type 0} (a : A) → Q v p a →
    Reaches v (answer a) p Q
unfolding answer past Meets
Reaches-answer {v = v} a h = record { scoped = tt; values = v; below = λ x l. refl; meets = tt; given = h }

-- the second step goes on from the truth values that the first one reached
pub Reaches-bind : {A B : Type 0} {v : ℕ → Bool} {m : Step A} {p : Place} {Q : (ℕ → Bool) → Place → A → Type 0}
    {R : (ℕ → Bool) → Place → B → Type 0} (f : A → Step B) →
    Reaches v m p Q →
    ((u : ℕ → Bool) (a : A) (q : Place) → p.next ≤ q.next → ((x : ℕ) → x < p.next → u x ≡ v x) → Q u q a →
    Reaches u (f a) q R) →
    Reaches v (m >>= f) p R
unfolding ◌>>=◌
Reaches-bind {m = m} {p = p} {R = R} f one two =
    let es = (m p).events in
    let q = past p es in
    let more = past-not_less p es in
    let r = two one.values (m p).value q more one.below one.given in
    let fs = (f (m p).value q).events in
    record {
      scoped = AreScoped-append p es fs one.scoped r.scoped;
      values = r.values;
      below = λ x l. r.below x (omega (arith, l, more)) ∙ one.below x l;
      meets = Meets-append r.values p es fs (meets-same r.values one.values p es one.scoped r.below one.meets) r.meets;
      given = subst (λ (z : Place). R r.values z (f (m p).value q).value) (sym (past-append p es fs)) r.given;
    }

-- gates can always be met
pub Reaches-gates : {A : Type 0} {v : ℕ → Bool} {m : Step A} {k : ℕ} {p : Place} {Q : ℕ → A → Type 0}
    {P : (ℕ → Bool) → A → Type 0} →
    0 < p.next → IsTrue (v 0) → MakesGates m k Q p →
    ((u : ℕ → Bool) → ((x : ℕ) → x < p.next → u x ≡ v x) → Means u m (P u)) →
    Reaches v m p (λ u q a. Q q.next a × P u a)
Reaches-gates {v = v} {p = p} pos t s means =
    let r = Makes-extend v s in
    record {
      scoped = s.scoped;
      values = r.0;
      below = r.1;
      meets = r.2;
      given = (s.given, (means r.0 r.1).holds p (r.1 0 pos ∙ t) r.2);
    }

-- a clause that holds
pub Reaches-tell : (v : ℕ → Bool) (c : List ℕ) (p : Place) → All (IsLiteral p.next) c → IsTrue (clause_value v c) →
    Reaches v (tell c) p (λ u q a. (u ≡ v) × (q.next ≡ p.next))
unfolding tell past Meets
Reaches-tell v c p s h =
    record { scoped = (s, tt); values = v; below = λ x l. refl; meets = (h, tt); given = (refl, omega arith) }
