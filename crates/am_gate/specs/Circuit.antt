-- Circuits: the events that make them, and the variables and clauses that they have.
use Rattle.std.specs.Prelude.{ℕ, ◌≡◌, ◌+◌, ◌*◌, ◌^◌, ◌<◌, ◌≤◌, Bool, false, List, [], ◌∷◌, ◌++◌, All, length, flat_map}
use Rattle.std.specs.Prelude.{◌==◌, if◌then◌else◌}
use Rattle.std.specs.List.{list_any}
use Rattle.am_lit.specs.Literal.{literal_of, opposite_of, variable_of}
use Rattle.am_lit.specs.Clause.{IsFormula, sorted_literals}

-- what makes a part of a circuit: an input, a gate, or a clause that is forced to hold
pub data Event : Type 0 where
  Input : Event
  And : (a b : ℕ) → Event
  Xor : (a b : ℕ) → Event
  Mux : (c a b : ℕ) → Event
  Clause : (literals : List ℕ) → Event

-- some literal and its opposite stand in the clause
unfoldable pub is_tautology : List ℕ → Bool
is_tautology c = list_any (λ l. list_any (λ m. opposite_of l == m) c) c

-- a clause as it is added: sorted by code, without repeats, and not at all where it is a tautology
unfoldable pub added : List ℕ → List (List ℕ)
added c = if is_tautology (sorted_literals c) then [] else sorted_literals c ∷ []

-- the clauses of an event, as they are written; g is the literal of the next variable
abbrev pub clauses_of : ℕ → Event → List (List ℕ)
clauses_of g Input = []
clauses_of g (And a b) =
    (opposite_of g ∷ a ∷ [])
    ∷ (opposite_of g ∷ b ∷ [])
    ∷ (g ∷ opposite_of a ∷ opposite_of b ∷ [])
    ∷ []
clauses_of g (Xor a b) =
    (opposite_of g ∷ a ∷ b ∷ [])
    ∷ (opposite_of g ∷ opposite_of a ∷ opposite_of b ∷ [])
    ∷ (g ∷ opposite_of a ∷ b ∷ [])
    ∷ (g ∷ a ∷ opposite_of b ∷ [])
    ∷ []
clauses_of g (Mux c a b) =
    (opposite_of c ∷ opposite_of a ∷ g ∷ [])
    ∷ (opposite_of c ∷ a ∷ opposite_of g ∷ [])
    ∷ (c ∷ opposite_of b ∷ g ∷ [])
    ∷ (c ∷ b ∷ opposite_of g ∷ [])
    ∷ []
clauses_of g (Clause literals) = literals ∷ []

-- how many variables an event makes
abbrev pub makes : Event → ℕ
makes Input = 1
makes (And a b) = 1
makes (Xor a b) = 1
makes (Mux c a b) = 1
makes (Clause literals) = 0

-- a circuit as contracts see it; whether its gates fold is its form
pub record Net : Type 0 where
  pub vars : ℕ
  pub clauses : List (List ℕ)
  pub folding : Bool

-- the literal that is true, and its opposite
abbrev pub truth : ℕ
truth = 0

-- the literal that is false
abbrev pub falsity : ℕ
falsity = 1

-- a new circuit of a form: one variable, which is forced to be true
abbrev pub start : Bool → Net
start folding = record { vars = 1; clauses = (truth ∷ []) ∷ []; folding = folding }

-- the circuit after an event
unfoldable pub after : Net → Event → Net
after n e = record n {
  vars = n.vars + makes e;
  clauses = n.clauses ++ flat_map added (clauses_of (literal_of n.vars false) e);
}

-- the circuit that events make of a circuit
unfoldable pub built : Net → List Event → Net
built n [] = n
built n (e ∷ es) = built (after n e) es

-- a literal of a variable below a number
abbrev pub IsLiteral : ℕ → ℕ → Type 0
IsLiteral vars l = variable_of l < vars

-- the literals over which an event is made
abbrev pub literals_of : Event → List ℕ
literals_of Input = []
literals_of (And a b) = a ∷ b ∷ []
literals_of (Xor a b) = a ∷ b ∷ []
literals_of (Mux c a b) = c ∷ a ∷ b ∷ []
literals_of (Clause literals) = literals

-- each event is made over variables that were there before it; g is the next variable
abbrev pub AreScoped : ℕ → List Event → Type 0
AreScoped g [] = Unit {0}
AreScoped g (e ∷ es) = All (IsLiteral g) (literals_of e) × AreScoped (g + makes e) es

-- the variables that inputs made; g is the next variable
abbrev pub inputs_of : ℕ → List Event → List ℕ
inputs_of g [] = []
inputs_of g (Input ∷ es) = g ∷ inputs_of (g + 1) es
inputs_of g (And a b ∷ es) = inputs_of (g + 1) es
inputs_of g (Xor a b ∷ es) = inputs_of (g + 1) es
inputs_of g (Mux c a b ∷ es) = inputs_of (g + 1) es
inputs_of g (Clause literals ∷ es) = inputs_of g es

-- events made the circuit from the start, each over earlier variables, and these are its inputs' variables
pub record HasInputs (inputs : List ℕ) (n : Net) : Type 0 where
  pub events : List Event
  pub circuit : n ≡ built (start n.folding) events
  pub scoped : AreScoped 1 events
  pub variables : inputs_of 1 events ≡ inputs

-- what every circuit is: a formula over its variables, one of which is the true one
pub record IsCircuit (n : Net) : Type 0 where
  pub truth : 0 < n.vars
  pub normal : IsFormula n.clauses n.vars

-- there is room for k more gates
pub record HasRoom (k : ℕ) (n : Net) : Type 0 where
  pub vars : n.vars + k ≤ 2 ^ 30
  pub clauses : length n.clauses + 4 * k ≤ 2 ^ 31

-- a circuit grew by at most k gates
pub record Grows (k : ℕ) (old new : Net) : Type 0 where
  pub not_less : old.vars ≤ new.vars
  pub vars : new.vars ≤ old.vars + k
  pub clauses : length new.clauses ≤ length old.clauses + 4 * k

-- a circuit has the form of an earlier one, and its variables and clauses first
pub record Begins (old new : Net) : Type 0 where
  pub folding : new.folding ≡ old.folding
  pub vars : old.vars ≤ new.vars
  pub clauses : (rest : List (List ℕ)) × (new.clauses ≡ old.clauses ++ rest)
