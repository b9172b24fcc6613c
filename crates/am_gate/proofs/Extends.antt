-- Each choice of the inputs' literals extends to truth values that the gates have.
use Rattle.std.proofs.Common.{◌≡◌, ℕ, ◌+◌, ◌%◌, ◌<◌, Bool, true, false, not, cond, eqb, List, [], ◌∷◌, ◌&&◌, refl, ◌∙◌}
use Rattle.std.proofs.Common.{ap, arith, add-zero}
use Rattle.std.specs.Prelude.{IsTrue}
use Rattle.std.specs.Bool.{beq}
use Rattle.std.proofs.lemmas.Bool.{eq-eqb, ne_eqb}
use Rattle.std.proofs.lemmas.List.Elements.{All-nil, All-cons}
use Rattle.am_lit.specs.Literal.{variable_of}
use Rattle.am_lit.specs.Truth.{literal_value, AllHold}
use Rattle.am_lit.specs.UnitRow.{IsChoice}
use Rattle.am_gate.specs.Circuit.{Event, Event.Input, Event.And, Event.Xor, Event.Mux, Event.Clause, AreScoped}
use Rattle.am_gate.specs.Circuit.{inputs_of}
use Rattle.am_gate.specs.Value.{Meets}
use Rattle.am_gate.proofs.Normals.{first, others}

-- the inputs and gates among events
abbrev pub gates_of : List Event → List Event
gates_of [] = []
gates_of (Input ∷ es) = Input ∷ gates_of es
gates_of (And a b ∷ es) = And a b ∷ gates_of es
gates_of (Xor a b ∷ es) = Xor a b ∷ gates_of es
gates_of (Mux c a b ∷ es) = Mux c a b ∷ gates_of es
gates_of (Clause literals ∷ es) = gates_of es

-- v with another value at g
abbrev put : (ℕ → Bool) → ℕ → Bool → ℕ → Bool
put v g b x = cond (eqb x g) b (v x)

put-same : (v : ℕ → Bool) (g : ℕ) (b : Bool) → put v g b g ≡ b
put-same v g b = rw (eq-eqb g g refl) refl

put-other : (v : ℕ → Bool) (g : ℕ) (b : Bool) (x : ℕ) → (x ≡ g → ⊥) → put v g b x ≡ v x
put-other v g b x h = rw (ne_eqb x g h) refl

-- truth values that agree with v below g, make the literals true, and are those of the gates
pub record Extended (v : ℕ → Bool) (g : ℕ) (es : List Event) (literals : List ℕ) : Type 0 where
  pub values : ℕ → Bool
  pub below : (x : ℕ) → x < g → values x ≡ v x
  pub given : AllHold values literals
  pub gates : Meets values g (gates_of es)

literal_value-agree : (v w : ℕ → Bool) (l : ℕ) → w (variable_of l) ≡ v (variable_of l)
    → literal_value w l ≡ literal_value v l
literal_value-agree v w l e = rw e refl

-- a literal is true where its variable has the literal's sign
true_by : (w : ℕ → Bool) (l : ℕ) (b : Bool) → eqb (l % 2) 0 ≡ b → w (variable_of l) ≡ b → literal_value w l ≡ true
true_by w l true e h = rw (e, h) refl
true_by w l false e h = rw (e, h) refl

module _ (v : ℕ → Bool) (g : ℕ) (b : Bool) (es : List Event) (literals : List ℕ)
    (r : Extended (put v g b) (g + 1) es literals) where
  at_gate : r.values g ≡ b
  at_gate = r.below g (omega arith) ∙ put-same v g b

  below_gate : (x : ℕ) → x < g → r.values x ≡ v x
  below_gate x lt = r.below x (omega arith) ∙ put-other v g b x (λ e. omega arith)

  same_literal : (l : ℕ) → variable_of l < g → literal_value r.values l ≡ literal_value v l
  same_literal l lt = literal_value-agree v r.values l (below_gate (variable_of l) lt)

-- the first literal, or none
abbrev pub head_or : ℕ → List ℕ → ℕ
head_or d [] = d
head_or d (x ∷ xs) = x

-- the other literals
abbrev pub tail_of : List ℕ → List ℕ
tail_of [] = []
tail_of (x ∷ xs) = xs

-- the values of the inputs extend to values that all gates meet
pub extended : (v : ℕ → Bool) (g : ℕ) (es : List Event) (literals : List ℕ) → AreScoped g es
    → IsChoice (inputs_of g es) literals
    → Extended v g es literals
unfolding Meets
extended v g [] [] s c =
    record { values = v; below = λ x l. refl; given = All-nil (λ l. IsTrue (literal_value v l)); gates = tt }
extended v g [] (l ∷ ls) s c = absurd (cc c)
extended v g (Input ∷ es) [] s c = absurd (cc c)
extended v g (Input ∷ es) (l ∷ ls) s c =
    let b : Bool = eqb (l % 2) 0 in
    let here : variable_of l ≡ g = ap (head_or g) c in
    let r = extended (put v g b) (g + 1) es ls s.1 (ap tail_of c) in
    let true_here : literal_value r.values l ≡ true =
    true_by r.values l b refl (ap r.values here ∙ at_gate v g b es ls r) in
    record {
      values = r.values;
      below = below_gate v g b es ls r;
      given = All-cons (λ m. IsTrue (literal_value r.values m)) l ls true_here r.given;
      gates = (tt, r.gates);
    }
extended v g (Clause c ∷ es) ls s choice =
    let r = extended v g es ls (rw add-zero at s.1) choice in
    record { values = r.values; below = r.below; given = r.given; gates = r.gates }
extended v g (And a b ∷ es) ls s c =
    let value : Bool = literal_value v a && literal_value v b in
    let r = extended (put v g value) (g + 1) es ls s.1 c in
    let one = same_literal v g value es ls r a (first g a (b ∷ []) s.0) in
    let two = same_literal v g value es ls r b (first g b [] (others g a (b ∷ []) s.0)) in
    record {
      values = r.values;
      below = below_gate v g value es ls r;
      given = r.given;
      gates = (rw (one, two) (at_gate v g value es ls r), r.gates);
    }
extended v g (Xor a b ∷ es) ls s c =
    let value : Bool = not (beq (literal_value v a) (literal_value v b)) in
    let r = extended (put v g value) (g + 1) es ls s.1 c in
    let one = same_literal v g value es ls r a (first g a (b ∷ []) s.0) in
    let two = same_literal v g value es ls r b (first g b [] (others g a (b ∷ []) s.0)) in
    record {
      values = r.values;
      below = below_gate v g value es ls r;
      given = r.given;
      gates = (rw (one, two) (at_gate v g value es ls r), r.gates);
    }
extended v g (Mux c a b ∷ es) ls s choice =
    let value : Bool = cond (literal_value v c) (literal_value v a) (literal_value v b) in
    let r = extended (put v g value) (g + 1) es ls s.1 choice in
    let rest = others g c (a ∷ b ∷ []) s.0 in
    let zero' = same_literal v g value es ls r c (first g c (a ∷ b ∷ []) s.0) in
    let one = same_literal v g value es ls r a (first g a (b ∷ []) rest) in
    let two = same_literal v g value es ls r b (first g b [] (others g a (b ∷ []) rest)) in
    record {
      values = r.values;
      below = below_gate v g value es ls r;
      given = r.given;
      gates = (rw (zero', one, two) (at_gate v g value es ls r), r.gates);
    }
