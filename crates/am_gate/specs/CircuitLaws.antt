-- The laws of circuits.
use Rattle.std.specs.Prelude.{ℕ, ◌≡◌, Bool, not, ◌&&◌, if◌then◌else◌}
use Rattle.std.specs.Bool.{beq}
use Rattle.am_lit.specs.Truth.{literal_value, Satisfies}
use Rattle.am_gate.specs.Circuit.{Event, Event.And, Event.Xor, Event.Mux, Net, start, Begins}
use Rattle.am_gate.specs.Build.{ask, Follows}

-- in each satisfying assignment of a later circuit the literal that a call gave, for the gate that it
-- made or without one, has a value
abbrev pub AnswersHave : Event → ((ℕ → Bool) → Bool) → Type 0
AnswersHave gate value = (v : ℕ → Bool) (old new later : Net) (l : ℕ)
    → Begins (start old.folding) old → Follows (ask gate) old l new → Begins new later
    → Satisfies v later.clauses → literal_value v l ≡ value v

-- the value of both
abbrev pub AndsHaveTheirValue : Type 0
AndsHaveTheirValue = (a b : ℕ) → AnswersHave (And a b) (λ v. literal_value v a && literal_value v b)

-- whether they differ
abbrev pub XorsHaveTheirValue : Type 0
XorsHaveTheirValue = (a b : ℕ) → AnswersHave (Xor a b) (λ v. not (beq (literal_value v a) (literal_value v b)))

-- the value of a where c is true, and that of b where it is false
abbrev pub MuxesHaveTheirValue : Type 0
MuxesHaveTheirValue = (c a b : ℕ)
    → AnswersHave (Mux c a b) (λ v. if literal_value v c then literal_value v a else literal_value v b)
