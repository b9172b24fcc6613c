-- The inputs of a circuit, call after call.
use Rattle.std.proofs.Common.{ℕ, ◌≡◌, ◌+◌, ◌*◌, Bool, List, [], ◌∷◌, ◌++◌, All, append-nil, refl, sym, ◌∙◌, ap, subst}
use Rattle.std.proofs.Common.{arith}
use Rattle.std.proofs.lemmas.List.Elements.{All-nil}
use Rattle.am_gate.specs.Circuit.{Event, Event.Input, Event.And, Event.Xor, Event.Mux, Event.Clause, Net, IsLiteral}
use Rattle.am_gate.specs.Circuit.{AreScoped, HasInputs, after, built, start, inputs_of}
use Rattle.am_gate.specs.Build.{Step, Place, place_of, past, ask, tell, AreGates, Follows}
use Rattle.am_gate.proofs.Building.{built-append, place_of-built}
use Rattle.am_gate.proofs.Folds.{never-input}
use Rattle.am_gate.proofs.Growth.{Begins-built}
use Rattle.am_gate.proofs.Scoping.{AreScoped-append, inputs_of-gates}

-- the inputs of some events, and then those of others
inputs_of-append : (p : Place) (es fs : List Event) →
    inputs_of p.next (es ++ fs) ≡ inputs_of p.next es ++ inputs_of (past p es).next fs
unfolding past
inputs_of-append p [] fs = refl
inputs_of-append p (Input ∷ es) fs = ap (λ xs. p.next ∷ xs) (inputs_of-append (record p { next = p.next + 1 }) es fs)
inputs_of-append p (And a b ∷ es) fs = inputs_of-append (record p { next = p.next + 1 }) es fs
inputs_of-append p (Xor a b ∷ es) fs = inputs_of-append (record p { next = p.next + 1 }) es fs
inputs_of-append p (Mux c a b ∷ es) fs = inputs_of-append (record p { next = p.next + 1 }) es fs
inputs_of-append p (Clause literals ∷ es) fs =
    let none : p.next + 0 ≡ p.next = omega arith in
    let same : record p { next = p.next + 0 } ≡ p = ap (λ n. record p { next = n }) none in
    subst (λ (q : Place). inputs_of p.next (es ++ fs) ≡ inputs_of p.next es ++ inputs_of (past q es).next fs) (sym same)
    (inputs_of-append p es fs)

-- a new circuit has none
pub HasInputs-start : (folding : Bool) → HasInputs [] (start folding)
unfolding built
HasInputs-start folding = record { events = []; circuit = refl; scoped = tt; variables = refl }

-- a call adds the inputs of the step that it follows
pub HasInputs-Follows : {A : Type 0} {m : Step A} {inputs : List ℕ} {old new : Net} {r : A} →
    HasInputs inputs old → Follows m old r new → AreScoped old.vars (m (place_of old)).events →
    HasInputs (inputs ++ inputs_of old.vars (m (place_of old)).events) new
HasInputs-Follows {m = m} {inputs = inputs} {old = old} h f s =
    subst (HasInputs (inputs ++ inputs_of old.vars fs)) (sym f.circuit) (record {
      events = es ++ fs;
      circuit =
          subst (λ form. built old fs ≡ built (start form) (es ++ fs)) (sym (Begins-built old fs).folding)
          (ap (λ n. built n fs) h.circuit ∙ sym (built-append (start old.folding) es fs));
      scoped = AreScoped-append p es fs h.scoped (subst (λ g. AreScoped g fs) here s);
      variables =
          inputs_of-append p es fs ∙ ap (λ xs. xs ++ inputs_of (past p es).next fs) h.variables
          ∙ ap (λ g. inputs ++ inputs_of g fs) (sym here);
    })
  where
    es : List Event
    es = h.events

    fs : List Event
    fs = (m (place_of old)).events

    p : Place
    p = place_of (start old.folding)

    here : old.vars ≡ (past p es).next
    here = ap (λ n. n.vars) h.circuit ∙ ap (λ q. q.next) (place_of-built (start old.folding) es)

-- gates add none
pub HasInputs-gates : {A : Type 0} {m : Step A} {inputs : List ℕ} {old new : Net} {r : A} →
    HasInputs inputs old → Follows m old r new → AreScoped old.vars (m (place_of old)).events →
    AreGates (m (place_of old)).events →
    HasInputs inputs new
HasInputs-gates {m = m} {inputs = inputs} {old = old} {new = new} h f s g =
    subst (λ xs. HasInputs xs new)
    (ap (λ xs. inputs ++ xs) (inputs_of-gates old.vars (m (place_of old)).events g) ∙ append-nil inputs)
    (HasInputs-Follows h f s)

-- what an input gives: the literal of the next variable
pub Follows-input : {old new : Net} {r : ℕ} → Follows (ask Input) old r new →
    (r ≡ 2 * old.vars) × (new.vars ≡ old.vars + 1)
unfolding ask built after
Follows-input {old = old} f =
    let made = never-input old.folding in
    (rw made at f.value, ap (λ n. n.vars) (rw made at f.circuit))

-- an input adds its variable
pub HasInputs-input : {inputs : List ℕ} {old new : Net} {r : ℕ} → HasInputs inputs old → Follows (ask Input) old r new →
    HasInputs (inputs ++ old.vars ∷ []) new
unfolding ask
HasInputs-input {inputs = inputs} {old = old} h f =
    rw (never-input old.folding) at (HasInputs-Follows h f (rw (never-input old.folding) (scoped_input old.vars)))
  where
    scoped_input : (g : ℕ) → AreScoped g (Input ∷ [])
    scoped_input g = (All-nil (IsLiteral g), tt)

-- a forced clause adds none
pub HasInputs-tell : {inputs : List ℕ} {old new : Net} {r : Unit {0}} (c : List ℕ) → HasInputs inputs old →
    Follows (tell c) old r new →
    All (IsLiteral old.vars) c → HasInputs inputs new
unfolding tell
HasInputs-tell {inputs = inputs} {new = new} c h f s =
    subst (λ xs. HasInputs xs new) (append-nil inputs) (HasInputs-Follows h f (s, tt))
