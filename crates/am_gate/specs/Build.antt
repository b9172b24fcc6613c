-- How circuits are put together: steps, which ask for inputs and gates and state clauses, one after
-- another.
use Rattle.std.specs.Prelude.{ℕ, ◌≡◌, ◌+◌, Bool, false, Option, None, Some, List, [], ◌∷◌, ◌++◌, IsTrue}
use Rattle.am_lit.specs.Literal.{literal_of}
use Rattle.am_gate.specs.Circuit.{Event, Event.Input, Event.And, Event.Xor, Event.Mux, Event.Clause, Net, makes, built}
use Rattle.am_gate.specs.Folding.{folded_in}
use Rattle.am_gate.specs.Value.{Meets}

-- where a step begins: the next variable, and whether gates fold there
pub record Place : Type 0 where
  pub next : ℕ
  pub folding : Bool

-- what a step gives, and the events that it makes
pub record Made (A : Type 0) : Type 0 where
  pub value : A
  pub events : List Event

-- a step gives a value and makes events, by the place where it begins
abbrev pub Step : Type 0 → Type 0
Step A = Place → Made A

-- the place after events
unfoldable pub past : Place → List Event → Place
past p [] = p
past p (e ∷ es) = past (record p { next = p.next + makes e }) es

-- a step, and after it the step that its value leads to
infixl 10 ◌>>=◌
unfoldable pub ◌>>=◌ : {A B : Type 0} → Step A → (A → Step B) → Step B
(m >>= f) p =
    let first = m p in
    let second = f first.value (past p first.events) in
    record { value = second.value; events = first.events ++ second.events }

-- a value, without any event
unfoldable pub answer : {A : Type 0} → A → Step A
answer a p = record { value = a; events = [] }

-- a literal without events, or an event and the literal of its variable
abbrev pub made_or : Option ℕ → Event → ℕ → Made ℕ
made_or None e g = record { value = literal_of g false; events = e ∷ [] }
made_or (Some l) e g = record { value = l; events = [] }

-- an input or a gate: the literal that it folds to, else that of its variable
unfoldable pub ask : Event → Step ℕ
ask e p = made_or (folded_in p.folding e) e p.next

-- a clause that is forced to hold
unfoldable pub tell : List ℕ → Step (Unit {0})
tell literals p = record { value = tt; events = Clause literals ∷ [] }

-- the place where the next step of a circuit begins
abbrev pub place_of : Net → Place
place_of n = record { next = n.vars; folding = n.folding }

-- a call gave what a step gives, and made what it makes
pub record Follows {A : Type 0} (m : Step A) (old : Net) (result : A) (new : Net) : Type 0 where
  pub value : result ≡ (m (place_of old)).value
  pub circuit : new ≡ built old (m (place_of old)).events

-- wherever variable 0 is true and the events of the step are met, its value is as P says
pub record Means {A : Type 0} (v : ℕ → Bool) (m : Step A) (P : A → Type 0) : Type 0 where
  pub holds : (p : Place) → IsTrue (v 0) → Meets v p.next (m p).events → P (m p).value

-- the events are gates: no input, and no clause
abbrev pub AreGates : List Event → Type 0
AreGates [] = Unit {0}
AreGates (Input ∷ es) = ⊥
AreGates (And a b ∷ es) = AreGates es
AreGates (Xor a b ∷ es) = AreGates es
AreGates (Mux c a b ∷ es) = AreGates es
AreGates (Clause literals ∷ es) = ⊥
