-- The variables of a circuit's inputs rise, and are variables of the circuit.
use Rattle.std.proofs.Common.{ℕ, ◌≡◌, ◌+◌, ◌<◌, ◌≤◌, Bool, List, [], ◌∷◌, All, arith, subst}
use Rattle.std.specs.List.{AllPairs}
use Rattle.std.specs.List.Sorted.{IsStrictlyIncreasing}
use Rattle.std.proofs.lemmas.List.Elements.{All-nil, All-cons, All-weaker}
use Rattle.std.proofs.lemmas.List.Kept.{AllPairs-cons}
use Rattle.am_gate.specs.Circuit.{Event, Event.Input, Event.And, Event.Xor, Event.Mux, Event.Clause, Net, after, built}
use Rattle.am_gate.specs.Circuit.{inputs_of, start}
use Rattle.am_gate.proofs.Growth.{Begins-built}

-- a variable from low on, and below high
record IsBetween (low high x : ℕ) : Type 0 where
  pub least : low ≤ x
  pub below : x < high

module _ (high : ℕ) where
  more : (low : ℕ) (xs : List ℕ) → All (IsBetween (low + 1) high) xs → All (IsBetween low high) xs
  more low xs h =
      All-weaker (IsBetween (low + 1) high) (IsBetween low high)
      (λ x k. record { least = omega (arith, k.least); below = k.below }) xs h

  above : (low : ℕ) (xs : List ℕ) → All (IsBetween (low + 1) high) xs → All (λ x. low < x) xs
  above low xs h = All-weaker (IsBetween (low + 1) high) (λ x. low < x) (λ x k. omega (arith, k.least)) xs h

between : (n : Net) (es : List Event) → All (IsBetween n.vars (built n es).vars) (inputs_of n.vars es)
unfolding built after
between n [] = All-nil (IsBetween n.vars n.vars)
between n (Input ∷ es) =
    All-cons (IsBetween n.vars (built (after n Input) es).vars) n.vars (inputs_of (n.vars + 1) es)
    (record { least = omega arith; below = omega (arith, (Begins-built (after n Input) es).vars) })
    (more (built (after n Input) es).vars n.vars (inputs_of (n.vars + 1) es) (between (after n Input) es))
between n (And a b ∷ es) =
    more (built (after n (And a b)) es).vars n.vars (inputs_of (n.vars + 1) es) (between (after n (And a b)) es)
between n (Xor a b ∷ es) =
    more (built (after n (Xor a b)) es).vars n.vars (inputs_of (n.vars + 1) es) (between (after n (Xor a b)) es)
between n (Mux c a b ∷ es) =
    more (built (after n (Mux c a b)) es).vars n.vars (inputs_of (n.vars + 1) es) (between (after n (Mux c a b)) es)
between n (Clause c ∷ es) =
    let same : n.vars + 0 ≡ n.vars = omega arith in
    subst (λ low. All (IsBetween low (built (after n (Clause c)) es).vars) (inputs_of low es)) same
    (between (after n (Clause c)) es)

rises : (n : Net) (es : List Event) → AllPairs (λ x y. x < y) (inputs_of n.vars es)
unfolding built after
rises n [] = λ i j d lt within. absurd (omega arith)
rises n (Input ∷ es) =
    AllPairs-cons (λ x y. x < y) n.vars (inputs_of (n.vars + 1) es)
    (above (built (after n Input) es).vars n.vars (inputs_of (n.vars + 1) es) (between (after n Input) es))
    (rises (after n Input) es)
rises n (And a b ∷ es) = rises (after n (And a b)) es
rises n (Xor a b ∷ es) = rises (after n (Xor a b)) es
rises n (Mux c a b ∷ es) = rises (after n (Mux c a b)) es
rises n (Clause c ∷ es) =
    let same : n.vars + 0 ≡ n.vars = omega arith in
    subst (λ low. AllPairs (λ x y. x < y) (inputs_of low es)) same (rises (after n (Clause c)) es)

-- the inputs strictly increase
pub inputs-rise : (folding : Bool) (es : List Event) → IsStrictlyIncreasing (inputs_of 1 es)
inputs-rise folding es = λ k lt. rises (start folding) es k (k + 1) 0 (omega arith) lt

-- the inputs are variables of the circuit
pub inputs-below : (folding : Bool) (es : List Event) → All (λ x. x < (built (start folding) es).vars) (inputs_of 1 es)
inputs-below folding es =
    All-weaker (IsBetween 1 (built (start folding) es).vars) (λ x. x < (built (start folding) es).vars) (λ x h. h.below)
    (inputs_of 1 es) (between (start folding) es)
