-- What is to be shown of an operator's circuit, at each number of arguments.
use Rattle.std.proofs.Common.{ℕ, ◌≡◌, ◌<◌, Bool, List, [], ◌∷◌, map, length, arith}
use Rattle.std.specs.Prelude.{All}
use Rattle.std.proofs.lemmas.List.Elements.{All-head, All-tail}
use Rattle.am_gate.specs.Build.{Place, Means}
use Rattle.am_gate.specs.Promises.{MakesGates}
use Rattle.am_bv.specs.declared.op.Op.{Op}
use Rattle.am_bv.specs.Operators.{arity, apply, apply_at, weight_of}
use Rattle.am_blast.specs.Words.{reads, ReadsAs, IsWord}
use Rattle.am_blast.specs.Circuits.{circuit_at, circuit_of}
use Rattle.am_blast.specs.Promises.{IsCircuitOf}

pub with_one : {A : Type 0} (P : List A → Type 0) → ((a : A) → P (a ∷ [])) → (args : List A) → length args ≡ 1 → P args
with_one P h [] e = absurd (omega arith)
with_one P h (a ∷ []) e = h a
with_one P h (a ∷ b ∷ args) e = absurd (omega arith)

pub with_two : {A : Type 0} (P : List A → Type 0) → ((a b : A) → P (a ∷ b ∷ [])) → (args : List A) → length args ≡ 2 →
    P args
with_two P h [] e = absurd (omega arith)
with_two P h (a ∷ []) e = absurd (omega arith)
with_two P h (a ∷ b ∷ []) e = h a b
with_two P h (a ∷ b ∷ c ∷ args) e = absurd (omega arith)

pub with_three : {A : Type 0} (P : List A → Type 0) → ((a b c : A) → P (a ∷ b ∷ c ∷ [])) → (args : List A) →
    length args ≡ 3 →
    P args
with_three P h [] e = absurd (omega arith)
with_three P h (a ∷ []) e = absurd (omega arith)
with_three P h (a ∷ b ∷ []) e = absurd (omega arith)
with_three P h (a ∷ b ∷ c ∷ []) e = h a b c
with_three P h (a ∷ b ∷ c ∷ d ∷ args) e = absurd (omega arith)

-- that the circuit reads as the operator's value, and that it makes its gates
module _ (w : ℕ) (op : Op) where
  abbrev HasMeaning : (ℕ → Bool) → List (List ℕ) → Type 0
  HasMeaning v args =
      All (λ a. length a ≡ w) args → Means v (circuit_of w op args) (ReadsAs v w (apply w op (map (reads v) args)))

  abbrev HasGates : Place → List (List ℕ) → Type 0
  HasGates p args = All (IsWord w p.next) args → MakesGates (circuit_of w op args) (weight_of w op) (IsWord w) p

  -- the circuit of an operator of one argument, from its meaning and its gates
  pub of_one : arity op ≡ 1 →
      ((v : ℕ → Bool) (a : List ℕ) → length a ≡ w →
      Means v (circuit_at w op a [] []) (ReadsAs v w (apply_at w op (reads v a) 0 0))) →
      ((p : Place) (a : List ℕ) → 0 < p.next → IsWord w p.next a →
      MakesGates (circuit_at w op a [] []) (weight_of w op) (IsWord w) p) →
      IsCircuitOf w op
  of_one one means makes = record {
    means = λ v args count.
        with_one (HasMeaning v) (λ a h. means v a (All-head (λ x. length x ≡ w) a [] h)) args (rw one at count);
    makes = λ p args pos count.
        with_one (HasGates p) (λ a h. makes p a pos (All-head (IsWord w p.next) a [] h)) args (rw one at count);
  }

  -- the circuit of an operator of two arguments, from its meaning and its gates
  pub of_two : arity op ≡ 2 →
      ((v : ℕ → Bool) (a b : List ℕ) → length a ≡ w → length b ≡ w →
      Means v (circuit_at w op a b []) (ReadsAs v w (apply_at w op (reads v a) (reads v b) 0))) →
      ((p : Place) (a b : List ℕ) → 0 < p.next → IsWord w p.next a → IsWord w p.next b →
      MakesGates (circuit_at w op a b []) (weight_of w op) (IsWord w) p) →
      IsCircuitOf w op
  of_two two means makes = record {
    means = λ v args count. with_two (HasMeaning v)
        (λ a b h. means v a b (All-head (λ x. length x ≡ w) a (b ∷ []) h)
        (All-head (λ x. length x ≡ w) b [] (All-tail (λ x. length x ≡ w) a (b ∷ []) h)))
        args (rw two at count);
    makes = λ p args pos count. with_two (HasGates p)
        (λ a b h. makes p a b pos (All-head (IsWord w p.next) a (b ∷ []) h)
        (All-head (IsWord w p.next) b [] (All-tail (IsWord w p.next) a (b ∷ []) h)))
        args (rw two at count);
  }

  -- the circuit of an operator of three arguments, from its meaning and its gates
  pub of_three : arity op ≡ 3 →
      ((v : ℕ → Bool) (a b c : List ℕ) → length a ≡ w → length b ≡ w → length c ≡ w →
      Means v (circuit_at w op a b c) (ReadsAs v w (apply_at w op (reads v a) (reads v b) (reads v c)))) →
      ((p : Place) (a b c : List ℕ) → 0 < p.next → IsWord w p.next a → IsWord w p.next b → IsWord w p.next c →
      MakesGates (circuit_at w op a b c) (weight_of w op) (IsWord w) p) →
      IsCircuitOf w op
  of_three three means makes = record {
    means = λ v args count. with_three (HasMeaning v)
        (λ a b c h. let rest = All-tail (λ x. length x ≡ w) a (b ∷ c ∷ []) h in
        means v a b c (All-head (λ x. length x ≡ w) a (b ∷ c ∷ []) h) (All-head (λ x. length x ≡ w) b (c ∷ []) rest)
        (All-head (λ x. length x ≡ w) c [] (All-tail (λ x. length x ≡ w) b (c ∷ []) rest))) args (rw three at count);
    makes = λ p args pos count. with_three (HasGates p)
        (λ a b c h. let rest = All-tail (IsWord w p.next) a (b ∷ c ∷ []) h in
        makes p a b c pos (All-head (IsWord w p.next) a (b ∷ c ∷ []) h) (All-head (IsWord w p.next) b (c ∷ []) rest)
        (All-head (IsWord w p.next) c [] (All-tail (IsWord w p.next) b (c ∷ []) rest))) args (rw three at count);
  }
