-- The literal that a call gave for a gate has the gate's value wherever the clauses of a later circuit hold.
use Rattle.std.proofs.Common.{ℕ, ◌≡◌, Bool, false, List, [], ◌∷◌, ◌++◌, ◌||◌, sym, ◌∙◌, subst}
use Rattle.std.specs.Prelude.{All, IsTrue}
use Rattle.std.proofs.Math.Bool.{or-false}
use Rattle.std.proofs.lemmas.List.Elements.{All-nil, All-cons, All-head, All-tail}
use Rattle.am_lit.specs.Truth.{literal_value, clause_value, Satisfies}
use Rattle.am_gate.specs.Circuit.{Event, Net, start, truth, Begins, built}
use Rattle.am_gate.specs.Build.{ask, place_of, Means}
use Rattle.am_gate.specs.CircuitLaws.{AnswersHave}
use Rattle.am_gate.proofs.Building.{Means-Follows}
use Rattle.am_gate.proofs.Growth.{Begins-built}
use Rattle.am_gate.proofs.Meaning.{Meets-built}

All-first : {X : Type 0} (P : X → Type 0) (xs ys : List X) → All P (xs ++ ys) → All P xs
All-first P [] ys h = All-nil P
All-first P (x ∷ xs) ys h = All-cons P x xs (All-head P x (xs ++ ys) h) (All-first P xs ys (All-tail P x (xs ++ ys) h))

-- where the clauses of a circuit hold, so do those of an earlier one
Satisfies-earlier : (v : ℕ → Bool) (old new : Net) → Begins old new → Satisfies v new.clauses → Satisfies v old.clauses
Satisfies-earlier v old new b h =
    All-first (λ c. IsTrue (clause_value v c)) old.clauses b.clauses.0 (subst (Satisfies v) b.clauses.1 h)

-- variable 0 is true where the clauses of any circuit hold
truth_holds : (v : ℕ → Bool) (folding : Bool) (n : Net) → Begins (start folding) n → Satisfies v n.clauses
    → IsTrue (v 0)
truth_holds v folding n b h =
    let first : IsTrue (v 0 || false) =
    All-head (λ c. IsTrue (clause_value v c)) (truth ∷ []) b.clauses.0 (subst (Satisfies v) b.clauses.1 h) in
    sym (or-false (v 0)) ∙ first

-- what a gate means, of the call that asked for it
pub answers_have : (e : Event) (value : (ℕ → Bool) → Bool)
    → ((v : ℕ → Bool) → Means v (ask e) (λ l. literal_value v l ≡ value v))
    → AnswersHave e value
answers_have e value means v old new later l first follows last h =
    let es = (ask e (place_of old)).events in
    let in_new : Satisfies v new.clauses = Satisfies-earlier v new later last h in
    let in_built : Satisfies v (built old es).clauses =
    subst (λ (n : Net). Satisfies v n.clauses) follows.circuit in_new in
    let in_old : Satisfies v old.clauses = Satisfies-earlier v old (built old es) (Begins-built old es) in_built in
    Means-Follows (means v) follows (truth_holds v old.folding old first in_old) (Meets-built v old es in_built)
