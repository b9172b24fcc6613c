-- What circuits say under truth values of the variables.
use Rattle.std.specs.Prelude.{ℕ, ◌≡◌, ◌+◌, Bool, List, [], ◌∷◌, IsTrue, ◌&&◌, not, if◌then◌else◌}
use Rattle.std.specs.Bool.{beq}
use Rattle.am_lit.specs.Truth.{literal_value, clause_value}
use Rattle.am_gate.specs.Circuit.{Event, Event.Input, Event.And, Event.Xor, Event.Mux, Event.Clause, makes}

-- the variable of a gate has the gate's value, and a clause that is forced holds; g is the variable
abbrev pub EventHolds : (ℕ → Bool) → ℕ → Event → Type 0
EventHolds v g Input = Unit {0}
EventHolds v g (And a b) = v g ≡ (literal_value v a && literal_value v b)
EventHolds v g (Xor a b) = v g ≡ not (beq (literal_value v a) (literal_value v b))
EventHolds v g (Mux c a b) = v g ≡ (if literal_value v c then literal_value v a else literal_value v b)
EventHolds v g (Clause literals) = IsTrue (clause_value v literals)

-- the same of all events; g is the next variable
unfoldable pub Meets : (ℕ → Bool) → ℕ → List Event → Type 0
Meets v g [] = Unit {0}
Meets v g (e ∷ es) = EventHolds v g e × Meets v (g + makes e) es
