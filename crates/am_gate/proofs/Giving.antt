-- Rules of calls: what they give, from what they follow and how many gates that makes.
use Rattle.std.proofs.Common.{ℕ, ◌≡◌, ◌+◌, ◌*◌, ◌≤◌, Bool, true, false, cond, List, [], ◌∷◌, length, length-append, sym}
use Rattle.std.proofs.Common.{◌∙◌, ap, arith}
use Rattle.std.specs.Prelude.{Ok}
use Rattle.std.specs.List.{flat_map}
use Rattle.am_lit.specs.Clause.{sorted_literals}
use Rattle.am_gate.specs.Circuit.{Event, Event.Input, Event.And, Event.Xor, Event.Mux, Event.Clause, Net, after, built}
use Rattle.am_gate.specs.Circuit.{added, clauses_of, is_tautology}
use Rattle.am_gate.specs.Build.{Step, ◌>>=◌, answer, place_of, past, Follows, AreGates}
use Rattle.am_gate.specs.Promises.{MakesGates, GivesStep, GivesOrKeeps}
use Rattle.am_gate.proofs.Building.{place_of-built, Follows-bind, Follows-answer}
use Rattle.am_gate.proofs.Growth.{Grows-same, Grows-trans, Follows-Begins}
use Rattle.am_gate.proofs.Scoping.{vars-gates}

one_added : (c : List ℕ) → length (added c) ≤ 1
unfolding added
one_added c = go (is_tautology (sorted_literals c))
  where
    go : (b : Bool) → length (cond {A = List (List ℕ)} b [] (sorted_literals c ∷ [])) ≤ 1
    go true = omega arith
    go false = omega arith

few_added : (cs : List (List ℕ)) → length (flat_map added cs) ≤ length cs
few_added [] = omega arith
few_added (c ∷ cs) = rw (length-append (added c) (flat_map added cs)) (omega (arith, one_added c, few_added cs))

-- a gate adds at most four clauses
few_clauses : (n : Net) (e : Event) → length (clauses_of (2 * n.vars) e) ≤ 4 →
    length (after n e).clauses ≤ length n.clauses + 4
unfolding after
few_clauses n e h =
    rw (length-append n.clauses (flat_map added (clauses_of (2 * n.vars) e)))
    (omega (arith, h, few_added (clauses_of (2 * n.vars) e)))

clauses-gates : (n : Net) (es : List Event) → AreGates es →
    length (built n es).clauses ≤ length n.clauses + 4 * length es
unfolding built
clauses-gates n [] h = omega arith
clauses-gates n (Input ∷ es) h = absurd h
clauses-gates n (And a b ∷ es) h =
    let three : 3 ≤ 4 = omega arith in
    omega (arith, clauses-gates (after n (And a b)) es h, few_clauses n (And a b) three)
clauses-gates n (Xor a b ∷ es) h =
    let four : 4 ≤ 4 = omega arith in
    omega (arith, clauses-gates (after n (Xor a b)) es h, few_clauses n (Xor a b) four)
clauses-gates n (Mux c a b ∷ es) h =
    let four : 4 ≤ 4 = omega arith in
    omega (arith, clauses-gates (after n (Mux c a b)) es h, few_clauses n (Mux c a b) four)
clauses-gates n (Clause literals ∷ es) h = absurd h

-- a call that follows a step gives what the step makes
pub GivesStep-Follows : {A : Type 0} {m : Step A} {k : ℕ} {Q : ℕ → A → Type 0} {old : Net} {r : A} {new : Net} →
    MakesGates m k Q (place_of old) → Follows m old r new → GivesStep m k Q old r new
GivesStep-Follows {m = m} {k = k} {old = old} {new = new} s f =
    let es = (m (place_of old)).events in
    let there : (past (place_of old) es).next ≡ new.vars =
    ap (λ p. p.next) (sym (place_of-built old es)) ∙ ap (λ n. n.vars) (sym f.circuit) in
    let most : new.vars ≤ old.vars + k = omega (arith, there, s.counts.most) in
    let gates : new.vars ≡ old.vars + length es = ap (λ n. n.vars) f.circuit ∙ vars-gates old es s.gates in
    let clauses : length new.clauses ≤ length old.clauses + 4 * length es =
    rw f.circuit (clauses-gates old es s.gates) in
    record {
      follows = f;
      given = rw (f.value, ← there) s.given;
      grows = record {
        not_less = omega (arith, gates);
        vars = omega (arith, most);
        clauses = omega (arith, most, gates, clauses);
      };
    }

-- the same of a call that found memory
pub GivesOrKeeps-Follows : {A E : Type 0} {m : Step A} {k : ℕ} {Q : ℕ → A → Type 0} {old : Net} {r : A} {new : Net} →
    MakesGates m k Q (place_of old) → Follows m old r new → GivesOrKeeps {E = E} m k Q old (Ok r) new
GivesOrKeeps-Follows s f = record { ok = GivesStep-Follows s f; err = tt; begins = Follows-Begins f }

-- an answer needs no call
pub GivesStep-answer : {A : Type 0} {r : A} {Q : ℕ → A → Type 0} {n : Net} → Q n.vars r → GivesStep (answer r) 0 Q n r n
GivesStep-answer {n = n} h = record { follows = Follows-answer; given = h; grows = Grows-same n }

-- one call after another
pub GivesStep-bind : {A B : Type 0} {m : Step A} {j k n : ℕ} {P : ℕ → A → Type 0} {Q : ℕ → B → Type 0}
    {old mid new : Net}
    {a : A} {b : B} (f : A → Step B) →
    GivesStep m j P old a mid → GivesStep (f a) k Q mid b new → j + k ≤ n → GivesStep (m >>= f) n Q old b new
GivesStep-bind {n = n} f one two e = record {
  follows = Follows-bind f one.follows two.follows;
  given = two.given;
  grows = Grows-trans n one.grows two.grows e;
}
