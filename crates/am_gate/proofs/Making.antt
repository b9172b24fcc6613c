-- Rules of steps that make gates, and how many.
use Rattle.std.proofs.Common.{ℕ, ◌≡◌, ◌+◌, ◌<◌, ◌≤◌, Bool, false, Option, None, Some, [], ◌∷◌, All, refl, ◌∙◌, ap}
use Rattle.std.proofs.Common.{arith, subst}
use Rattle.am_gate.specs.Circuit.{Event, Event.And, Event.Xor, Event.Mux, Net, IsLiteral, makes, AreScoped, literals_of}
use Rattle.am_gate.specs.Folding.{folded, folded_in}
use Rattle.am_gate.specs.Build.{Step, Place, place_of, past, ◌>>=◌, answer, made_or, ask, Follows, AreGates}
use Rattle.am_gate.specs.Value.{Meets}
use Rattle.am_gate.specs.Promises.{CountsGates, MakesGates}
use Rattle.am_gate.proofs.Building.{place_of-built}
use Rattle.am_gate.proofs.Normals.{two, three}
use Rattle.am_gate.proofs.Folds.{folded_from, within-and, within-xor, within-mux}
use Rattle.am_gate.proofs.Scoping.{AreScoped-append, AreGates-append, past-append, past-not_less, gates_extend}

-- an answer makes no gate
pub Makes-answer : {A : Type 0} {p : Place} {Q : ℕ → A → Type 0} (a : A) → Q p.next a → MakesGates (answer a) 0 Q p
unfolding answer past
Makes-answer a h = record {
  scoped = tt;
  gates = tt;
  counts = record { most = omega arith; exact = λ f. omega arith; folding = refl };
  given = h;
}

CountsGates-trans : (j k n : ℕ) (p q r : Place) → j + k ≡ n → CountsGates j p q → CountsGates k q r → CountsGates n p r
CountsGates-trans j k n p q r e one two = record {
  most = omega (arith, e, one.most, two.most);
  exact = λ f. omega (arith, e, one.exact f, two.exact (one.folding ∙ f));
  folding = two.folding ∙ one.folding;
}

-- j gates, and then k more
pub Makes-bind : {A B : Type 0} {m : Step A} {p : Place} {j n : ℕ} {P : ℕ → A → Type 0} {Q : ℕ → B → Type 0}
    (f : A → Step B) (k : ℕ) →
    MakesGates m j P p → j + k ≡ n →
    ((a : A) (q : Place) → p.next ≤ q.next → P q.next a → MakesGates (f a) k Q q) →
    MakesGates (m >>= f) n Q p
unfolding ◌>>=◌
Makes-bind {m = m} {p = p} {j = j} {n = n} {Q = Q} f k one e two =
    let es = (m p).events in
    let q = past p es in
    let r = two (m p).value q (past-not_less p es) one.given in
    let fs = (f (m p).value q).events in
    let end = past-append p es fs in
    record {
      scoped = AreScoped-append p es fs one.scoped r.scoped;
      gates = AreGates-append es fs one.gates r.gates;
      counts = rw end (CountsGates-trans j k n p q (past q fs) e one.counts r.counts);
      given = rw end r.given;
    }

-- what follows from what is known of the value
pub Makes-weaker : {A : Type 0} {m : Step A} {p : Place} {k : ℕ} {P Q : ℕ → A → Type 0} →
    MakesGates m k P p → ((n : ℕ) (a : A) → p.next ≤ n → P n a → Q n a) → MakesGates m k Q p
Makes-weaker {m = m} {p = p} one more = record {
  scoped = one.scoped;
  gates = one.gates;
  counts = one.counts;
  given = more (past p (m p).events).next (m p).value (past-not_less p (m p).events) one.given;
}

-- the same where the number of gates is written in another way
pub Makes-count : {A : Type 0} {m : Step A} {p : Place} {j k : ℕ} {Q : ℕ → A → Type 0} → MakesGates m j Q p → j ≡ k →
    MakesGates m k Q p
Makes-count {m = m} {p = p} {Q = Q} h e = subst (λ n. MakesGates m n Q p) e h

-- a gate, or a literal that stands for it
Makes-ask : (e : Event) (p : Place) → makes e ≡ 1 → AreGates (e ∷ []) → All (IsLiteral p.next) (literals_of e) →
    ((l : ℕ) → folded e ≡ Some l → IsLiteral p.next l) → MakesGates (ask e) 1 IsLiteral p
unfolding ask past
Makes-ask e p one gate below fold = record {
  scoped = scoped (folded_in p.folding e);
  gates = gates (folded_in p.folding e);
  counts = counts (folded_in p.folding e) refl;
  given = given (folded_in p.folding e) refl;
} where
  scoped : (o : Option ℕ) → AreScoped p.next (made_or o e p.next).events
  scoped None = (below, tt)
  scoped (Some l) = tt

  gates : (o : Option ℕ) → AreGates (made_or o e p.next).events
  gates None = gate
  gates (Some l) = tt

  counts : (o : Option ℕ) → folded_in p.folding e ≡ o → CountsGates 1 p (past p (made_or o e p.next).events)
  counts None q = record { most = omega (arith, one); exact = λ f. omega (arith, one); folding = refl }
  counts (Some l) q = record { most = omega arith; exact = λ f. absurd (cc (rw f at q)); folding = refl }

  given : (o : Option ℕ) → folded_in p.folding e ≡ o →
      IsLiteral (past p (made_or o e p.next).events).next (made_or o e p.next).value
  given None q = omega (arith, one)
  given (Some l) q = fold l (folded_from p.folding e l q)

-- the three gates
pub Makes-and : (a b : ℕ) (p : Place) → IsLiteral p.next a → IsLiteral p.next b →
    MakesGates (ask (And a b)) 1 IsLiteral p
Makes-and a b p ha hb = Makes-ask (And a b) p refl tt (two p.next a b ha hb) (λ l e. within-and p.next a b l ha hb e)

-- an exclusive or is at most one gate
pub Makes-xor : (a b : ℕ) (p : Place) → IsLiteral p.next a → IsLiteral p.next b →
    MakesGates (ask (Xor a b)) 1 IsLiteral p
Makes-xor a b p ha hb = Makes-ask (Xor a b) p refl tt (two p.next a b ha hb) (λ l e. within-xor p.next a b l ha hb e)

-- a choice is at most one gate
pub Makes-mux : (c a b : ℕ) (p : Place) → IsLiteral p.next c → IsLiteral p.next a → IsLiteral p.next b →
    MakesGates (ask (Mux c a b)) 1 IsLiteral p
Makes-mux c a b p hc ha hb =
    Makes-ask (Mux c a b) p refl tt (three p.next c a b hc ha hb) (λ l e. within-mux p.next c a b l hc ha hb e)

-- a call that follows a step makes exactly so many variables in a circuit that doesn't fold
pub Makes-exactly : {A : Type 0} {m : Step A} {k : ℕ} {Q : ℕ → A → Type 0} {old new : Net} {r : A} →
    old.folding ≡ false → MakesGates m k Q (place_of old) → Follows m old r new → new.vars ≡ old.vars + k
Makes-exactly {m = m} {old = old} plain s f =
    ap (λ n. n.vars) f.circuit ∙ ap (λ p. p.next) (place_of-built old (m (place_of old)).events) ∙ s.counts.exact plain

-- truth values of the variables so far extend to such that meet the gates
pub Makes-extend : {A : Type 0} {m : Step A} {k : ℕ} {Q : ℕ → A → Type 0} {p : Place} (v : ℕ → Bool) →
    MakesGates m k Q p →
    (w : ℕ → Bool) × ((x : ℕ) → x < p.next → w x ≡ v x) × Meets w p.next (m p).events
Makes-extend {m = m} {p = p} v s = gates_extend v p.next (m p).events s.scoped s.gates
