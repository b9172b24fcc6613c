-- Rules of steps: what calls follow, and what values mean.
use Rattle.std.proofs.Common.{◌≡◌, ℕ, ◌+◌, ◌*◌, Bool, not, cond, Option, None, Some, List, [], ◌∷◌, ◌++◌, ◌&&◌, refl}
use Rattle.std.proofs.Common.{sym, ◌∙◌, ap, subst}
use Rattle.std.specs.Prelude.{IsTrue}
use Rattle.std.specs.Bool.{beq}
use Rattle.am_lit.specs.Truth.{literal_value}
use Rattle.am_gate.specs.Circuit.{Event, Event.And, Event.Xor, Event.Mux, Event.Clause, makes, Net, after, built}
use Rattle.am_gate.specs.Folding.{folded, folded_in}
use Rattle.am_gate.specs.Value.{EventHolds, Meets}
use Rattle.am_gate.specs.Build.{Place, Step, past, ◌>>=◌, answer, made_or, ask, tell, place_of, Follows, Means}
use Rattle.am_gate.proofs.Meaning.{literal_value-even}
use Rattle.am_gate.proofs.Folds.{folded_from, value-and, value-xor, value-mux}

-- events make what the first of them make, and then the others
pub built-append : (n : Net) (es fs : List Event) → built n (es ++ fs) ≡ built (built n es) fs
unfolding built
built-append n [] fs = refl
built-append n (e ∷ es) fs = built-append (after n e) es fs

-- the place after events is that of the circuit that they make
pub place_of-built : (n : Net) (es : List Event) → place_of (built n es) ≡ past (place_of n) es
unfolding built past after
place_of-built n [] = refl
place_of-built n (e ∷ es) = place_of-built (after n e) es

-- events are met where the first of them and then the others are
pub Meets-parts : (v : ℕ → Bool) (p : Place) (es fs : List Event) → Meets v p.next (es ++ fs) →
    Meets v p.next es × Meets v (past p es).next fs
unfolding Meets past
Meets-parts v p [] fs h = (tt, h)
Meets-parts v p (e ∷ es) fs h =
    let rest = Meets-parts v (record p { next = p.next + makes e }) es fs h.1 in
    ((h.0, rest.0), rest.1)

-- the other way round
pub Meets-append : (v : ℕ → Bool) (p : Place) (es fs : List Event) → Meets v p.next es → Meets v (past p es).next fs →
    Meets v p.next (es ++ fs)
unfolding Meets past
Meets-append v p [] fs h k = k
Meets-append v p (e ∷ es) fs h k = (h.0, Meets-append v (record p { next = p.next + makes e }) es fs h.1 k)

-- what calls follow

-- a gate that was made
pub Follows-ask : (n : Net) (e : Event) → folded_in n.folding e ≡ None → Follows (ask e) n (2 * n.vars) (after n e)
unfolding ask built
Follows-ask n e h = record { value = rw h refl; circuit = rw h refl }

-- a literal that stands for a gate
pub Follows-folded : (n : Net) (e : Event) (l : ℕ) → folded_in n.folding e ≡ Some l → Follows (ask e) n l n
unfolding ask built
Follows-folded n e l h = record { value = rw h refl; circuit = rw h refl }

-- a clause that is forced
pub Follows-tell : (n : Net) (c : List ℕ) → Follows (tell c) n tt (after n (Clause c))
unfolding tell built
Follows-tell n c = record { value = refl; circuit = refl }

-- an answer needs no call
pub Follows-answer : {A : Type 0} {a : A} {n : Net} → Follows (answer a) n a n
unfolding answer built
Follows-answer = record { value = refl; circuit = refl }

-- one call after another
pub Follows-bind : {A B : Type 0} {m : Step A} {old mid new : Net} {a : A} {b : B} (f : A → Step B) →
    Follows m old a mid → Follows (f a) mid b new → Follows (m >>= f) old b new
unfolding ◌>>=◌
Follows-bind {m = m} {old = old} {mid = mid} {a = a} f one two =
    let es = (m (place_of old)).events in
    let here : place_of mid ≡ past (place_of old) es = ap place_of one.circuit ∙ place_of-built old es in
    let same : f a (place_of mid) ≡ f (m (place_of old)).value (past (place_of old) es) = rw (one.value, here) refl in
    record {
      value = two.value ∙ ap (λ r. r.value) same;
      circuit = two.circuit ∙ ap (λ r. built mid r.events) same ∙ rw (one.circuit, built-append) refl;
    }

-- what values mean

-- an answer is what it is
pub Means-answer : {A : Type 0} {v : ℕ → Bool} {P : A → Type 0} (a : A) → P a → Means v (answer a) P
unfolding answer
Means-answer a h = record { holds = λ p t m. h }

-- what the first step means is known of the value that the second goes on with
pub Means-bind : {A B : Type 0} {v : ℕ → Bool} {m : Step A} {P : A → Type 0} {Q : B → Type 0} (f : A → Step B) →
    Means v m P → ((a : A) → P a → Means v (f a) Q) → Means v (m >>= f) Q
unfolding ◌>>=◌
Means-bind {v = v} {m = m} f one two = record {
  holds = λ p t h.
      let both = Meets-parts v p (m p).events (f (m p).value (past p (m p).events)).events h in
      (two (m p).value (one.holds p t both.0)).holds (past p (m p).events) t both.1;
}

-- what follows from what a step means
pub Means-weaker : {A : Type 0} {v : ℕ → Bool} {m : Step A} {P Q : A → Type 0} → Means v m P → ((a : A) → P a → Q a) →
    Means v m Q
Means-weaker {m = m} one more = record { holds = λ p t h. more (m p).value (one.holds p t h) }

-- also where a fact rests on variable 0 being true
pub Means-truth : {A : Type 0} {v : ℕ → Bool} {m : Step A} {P : A → Type 0} → (IsTrue (v 0) → Means v m P) → Means v m P
Means-truth h = record { holds = λ p t k. (h t).holds p t k }

-- what a gate means, of the literal of its variable and of one that stands for it
Means-ask : (v : ℕ → Bool) (e : Event) (P : ℕ → Type 0) →
    ((g : ℕ) → EventHolds v g e → P (2 * g)) → (IsTrue (v 0) → (l : ℕ) → folded e ≡ Some l → P l) → Means v (ask e) P
unfolding ask Meets
Means-ask v e P gate fold = record { holds = λ p t h. go p t (folded_in p.folding e) refl h } where
  go : (p : Place) → IsTrue (v 0) → (o : Option ℕ) → folded_in p.folding e ≡ o →
      Meets v p.next (made_or o e p.next).events →
      P (made_or o e p.next).value
  go p t None q m = gate p.next m.0
  go p t (Some l) q m = fold t l (folded_from p.folding e l q)

-- the three gates
pub Means-and : (v : ℕ → Bool) (a b : ℕ) →
    Means v (ask (And a b)) (λ l. literal_value v l ≡ (literal_value v a && literal_value v b))
Means-and v a b = Means-ask v (And a b) _ (λ g h. literal_value-even v g ∙ h) (λ t l e. value-and v t a b l e)

-- an exclusive or has the exclusive or of the values
pub Means-xor : (v : ℕ → Bool) (a b : ℕ) →
    Means v (ask (Xor a b)) (λ l. literal_value v l ≡ not (beq (literal_value v a) (literal_value v b)))
Means-xor v a b = Means-ask v (Xor a b) _ (λ g h. literal_value-even v g ∙ h) (λ t l e. value-xor v t a b l e)

-- a choice has the value that the choosing literal picks
pub Means-mux : (v : ℕ → Bool) (c a b : ℕ) →
    Means v (ask (Mux c a b))
    (λ l. literal_value v l ≡ cond (literal_value v c) (literal_value v a) (literal_value v b))
Means-mux v c a b = Means-ask v (Mux c a b) _ (λ g h. literal_value-even v g ∙ h) (λ t l e. value-mux v t c a b l e)

-- what a step means, of the call that followed it
pub Means-Follows : {A : Type 0} {v : ℕ → Bool} {m : Step A} {P : A → Type 0} {old : Net} {r : A} {new : Net} →
    Means v m P → Follows m old r new → IsTrue (v 0) → Meets v old.vars (m (place_of old)).events → P r
Means-Follows {P = P} {old = old} means f t h = subst P (sym f.value) (means.holds (place_of old) t h)
