-- What steps build: at most so many gates, so many inputs, and clauses, each over earlier variables.
use Rattle.std.proofs.Common.{◌≡◌, ℕ, ◌+◌, ◌/◌, ◌%◌, ◌≤◌, ◌<◌, Bool, not, cond, eqb, List, [], ◌∷◌, ◌++◌, All, length}
use Rattle.std.proofs.Common.{length-append, refl, sym, ap, subst, arith}
use Rattle.std.specs.Prelude.{IsTrue}
use Rattle.std.proofs.lemmas.List.Elements.{All-nil}
use Rattle.am_lit.specs.Truth.{literal_value, clause_value}
use Rattle.am_gate.specs.Circuit.{Event, Event.Input, Event.And, Event.Xor, Event.Mux, Event.Clause, AreScoped}
use Rattle.am_gate.specs.Circuit.{IsLiteral, inputs_of}
use Rattle.am_gate.specs.Value.{Meets}
use Rattle.am_gate.specs.Build.{Step, Place, past, ◌>>=◌, answer, ask, tell, AreGates, Means}
use Rattle.am_gate.specs.Promises.{MakesGates}
use Rattle.am_gate.specs.Reaches.{Reaches}
use Rattle.am_query.specs.inside.Statements.{Any}
use Rattle.am_gate.proofs.Laws.{AreScoped-append, past-append, past-not_less, never-input}

-- the events of a step are made over earlier variables: at most so many gates, so many inputs, and clauses
pub record Builds {A : Type 0} (m : Step A) (gates count : ℕ) (Q : ℕ → A → Type 0) (p : Place) : Type 0 where
  pub scoped : AreScoped p.next (m p).events
  pub inputs : length (inputs_of p.next (m p).events) ≡ count
  pub most : (past p (m p).events).next ≤ p.next + (count + gates)
  pub given : Q (past p (m p).events).next (m p).value

inputs_of-append : (p : Place) (es fs : List Event) →
    inputs_of p.next (es ++ fs) ≡ inputs_of p.next es ++ inputs_of (past p es).next fs
unfolding past
inputs_of-append p [] fs = refl
inputs_of-append p (Input ∷ es) fs =
    ap (λ (xs : List ℕ). p.next ∷ xs) (inputs_of-append (record p { next = p.next + 1 }) es fs)
inputs_of-append p (And a b ∷ es) fs = inputs_of-append (record p { next = p.next + 1 }) es fs
inputs_of-append p (Xor a b ∷ es) fs = inputs_of-append (record p { next = p.next + 1 }) es fs
inputs_of-append p (Mux c a b ∷ es) fs = inputs_of-append (record p { next = p.next + 1 }) es fs
inputs_of-append p (Clause literals ∷ es) fs =
    let same : record p { next = p.next + 0 } ≡ p = ap (λ n. record p { next = n }) (omega arith) in
    subst (λ (q : Place). inputs_of p.next (es ++ fs) ≡ inputs_of p.next es ++ inputs_of (past q es).next fs) (sym same)
    (inputs_of-append p es fs)

inputs_of-gates : (g : ℕ) (es : List Event) → AreGates es → inputs_of g es ≡ []
inputs_of-gates g [] h = refl
inputs_of-gates g (Input ∷ es) h = absurd h
inputs_of-gates g (And a b ∷ es) h = inputs_of-gates (g + 1) es h
inputs_of-gates g (Xor a b ∷ es) h = inputs_of-gates (g + 1) es h
inputs_of-gates g (Mux c a b ∷ es) h = inputs_of-gates (g + 1) es h
inputs_of-gates g (Clause literals ∷ es) h = absurd h

-- an answer builds nothing
pub Builds-answer : {A : Type 0} {p : Place} {Q : ℕ → A → Type 0} (a : A) → Q p.next a → Builds (answer a) 0 0 Q p
unfolding answer past
Builds-answer a h = record { scoped = tt; inputs = refl; most = omega arith; given = h }

-- a step of gates
pub Builds-gates : {A : Type 0} {m : Step A} {k : ℕ} {Q : ℕ → A → Type 0} {p : Place} → MakesGates m k Q p →
    Builds m k 0 Q p
Builds-gates {m = m} {p = p} h = record {
  scoped = h.scoped;
  inputs = ap length (inputs_of-gates p.next (m p).events h.gates);
  most = omega (arith, h.counts.most);
  given = h.given;
}

-- an input
pub Builds-input : (p : Place) → Builds (ask Input) 0 1 IsLiteral p
unfolding ask past
Builds-input p = record {
  scoped = rw (never-input p.folding) (All-nil (IsLiteral p.next), tt);
  inputs = rw (never-input p.folding) refl;
  most = rw (never-input p.folding) (omega arith);
  given = rw (never-input p.folding) (omega arith);
}

-- a clause
pub Builds-tell : (c : List ℕ) (p : Place) → All (IsLiteral p.next) c → Builds (tell c) 0 0 Any p
unfolding tell past
Builds-tell c p h = record { scoped = (h, tt); inputs = refl; most = omega arith; given = tt }

-- one step after another
pub Builds-bind : {A B : Type 0} {m : Step A} {p : Place} {j i g n : ℕ} {P : ℕ → A → Type 0} {Q : ℕ → B → Type 0}
    (f : A → Step B) (k l : ℕ) →
    Builds m j i P p → j + k ≡ g → i + l ≡ n →
    ((a : A) (q : Place) → p.next ≤ q.next → P q.next a → Builds (f a) k l Q q) →
    Builds (m >>= f) g n Q p
unfolding ◌>>=◌
Builds-bind {m = m} {p = p} {Q = Q} f k l one e d two =
    let es = (m p).events in
    let q = past p es in
    let r = two (m p).value q (past-not_less p es) one.given in
    let fs = (f (m p).value q).events in
    let end = past-append p es fs in
    record {
      scoped = AreScoped-append p es fs one.scoped r.scoped;
      inputs = rw (inputs_of-append p es fs, length-append) (omega (arith, one.inputs, r.inputs, d));
      most = rw end (omega (arith, one.most, r.most, e, d));
      given = rw end r.given;
    }

-- the same with more gates
pub Builds-more : {A : Type 0} {m : Step A} {j i : ℕ} {Q : ℕ → A → Type 0} {p : Place} (k : ℕ) → Builds m j i Q p →
    j ≤ k →
    Builds m k i Q p
Builds-more k h l = record { scoped = h.scoped; inputs = h.inputs; most = omega (arith, h.most, l); given = h.given }

-- what follows from what is known of the value
pub Builds-weaker : {A : Type 0} {m : Step A} {k i : ℕ} {P Q : ℕ → A → Type 0} {p : Place} → Builds m k i P p →
    ((n : ℕ) (a : A) → p.next ≤ n → P n a → Q n a) → Builds m k i Q p
Builds-weaker {m = m} {p = p} h more = record {
  scoped = h.scoped;
  inputs = h.inputs;
  most = h.most;
  given = more (past p (m p).events).next (m p).value (past-not_less p (m p).events) h.given;
}

-- truth values

-- a literal has the same value where the earlier variables have
pub literal-same : (u v : ℕ → Bool) (n l : ℕ) → ((x : ℕ) → x < n → u x ≡ v x) → IsLiteral n l →
    literal_value u l ≡ literal_value v l
literal-same u v n l same h = ap (λ b. cond (eqb (l % 2) 0) b (not b)) (same (l / 2) h)

-- a clause that was told is true
pub Means-tell : (v : ℕ → Bool) (c : List ℕ) → Means v (tell c) (λ u. IsTrue (clause_value v c))
unfolding tell Meets
Means-tell v c = record { holds = λ p t h. h.0 }

-- what follows from what truth values reach
pub Reaches-weaker : {A : Type 0} {v : ℕ → Bool} {m : Step A} {p : Place} {Q R : (ℕ → Bool) → Place → A → Type 0} →
    Reaches v m p Q →
    ((u : ℕ → Bool) (q : Place) (a : A) → p.next ≤ q.next → ((x : ℕ) → x < p.next → u x ≡ v x) → Q u q a → R u q a) →
    Reaches v m p R
Reaches-weaker {m = m} {p = p} one more = record {
  scoped = one.scoped;
  values = one.values;
  below = one.below;
  meets = one.meets;
  given = more one.values (past p (m p).events) (m p).value (past-not_less p (m p).events) one.below one.given;
}
