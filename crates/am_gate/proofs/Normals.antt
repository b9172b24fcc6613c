-- What a circuit adds is normal.
use Rattle.std.proofs.Common.{◌≡◌, ℕ, ◌+◌, ◌*◌, ◌<◌, ◌≤◌, Bool, true, false, List, [], ◌∷◌, ◌++◌, All, refl, sym, ◌∙◌}
use Rattle.std.proofs.Common.{arith, subst, get_or, inl, inr, add-zero}
use Rattle.std.specs.Prelude.{Contains}
use Rattle.std.specs.List.{flat_map}
use Rattle.std.proofs.lemmas.List.Elements.{All-nil, All-cons, All-head, All-tail, All-weaker, All-append}
use Rattle.std.proofs.lemmas.List.Elements.{Contains-get_or}
use Rattle.std.proofs.lemmas.List.Kept.{AllPairs-from_increasing}
use Rattle.am_lit.specs.Literal.{opposite_of, variable_of}
use Rattle.am_lit.specs.Clause.{IsFormula, IsNormal, NoVariableTwice, sorted_literals}
use Rattle.am_lit.proofs.Laws.{All-sorted_literals, IsStrictlyIncreasing-sorted_literals}
use Rattle.am_gate.specs.Circuit.{Event, Event.Input, Event.And, Event.Xor, Event.Mux, Event.Clause, Net, IsCircuit}
use Rattle.am_gate.specs.Circuit.{IsLiteral, clauses_of, literals_of, makes, is_tautology, added, start}
use Rattle.am_lit.proofs.Laws.{opposite_parts, variable_of-opposite_of}
use Rattle.am_gate.proofs.Sorting.{added_kept, added_dropped, tautology_from}

-- in a sorted row that is no tautology no variable stands twice
apart_in : (c : List ℕ) → is_tautology (sorted_literals c) ≡ false → NoVariableTwice (sorted_literals c)
apart_in c e = λ i j d lt within same.
    let row = sorted_literals c in
    let up : get_or row i d < get_or row j d =
    AllPairs-from_increasing row (IsStrictlyIncreasing-sorted_literals c) i j d lt within in
    let next : get_or row j d ≡ opposite_of (get_or row i d) = elim (opposite_parts (get_or row i d))
    [ inl p ↦ omega (arith, p.0, p.1) | inr p ↦ omega (arith, p.0, p.1) ] in
    let clash : true ≡ false =
    sym
    (tautology_from row (get_or row i d) (Contains-get_or row i d (omega arith))
    (subst (Contains row) next (Contains-get_or row j d within)))
    ∙ e in
    cc

pub IsFormula-added : (n : ℕ) (c : List ℕ) → All (IsLiteral n) c → IsFormula (added c) n
IsFormula-added n c below = go (is_tautology (sorted_literals c)) refl where
  go : (b : Bool) → is_tautology (sorted_literals c) ≡ b → IsFormula (added c) n
  go true e = rw (added_dropped c e) (All-nil (IsNormal n))
  go false e = rw (added_kept c e) (All-cons (IsNormal n) (sorted_literals c) [] (record {
    rising = IsStrictlyIncreasing-sorted_literals c;
    apart = apart_in c e;
    below = All-sorted_literals (IsLiteral n) c below;
  }) (All-nil (IsNormal n)))

-- the same of each of some clauses
abbrev AllBelow : ℕ → List (List ℕ) → Type 0
AllBelow n [] = Unit {0}
AllBelow n (c ∷ cs) = All (IsLiteral n) c × AllBelow n cs

all_added : (n : ℕ) (cs : List (List ℕ)) → AllBelow n cs → IsFormula (flat_map added cs) n
all_added n [] h = All-nil (IsNormal n)
all_added n (c ∷ cs) h =
    All-append (IsNormal n) (added c) (flat_map added cs) (IsFormula-added n c h.0) (all_added n cs h.1)

IsNormal-more : (n m : ℕ) (c : List ℕ) → n ≤ m → IsNormal n c → IsNormal m c
IsNormal-more n m c le h = record {
  rising = h.rising;
  apart = h.apart;
  below = All-weaker (IsLiteral n) (IsLiteral m) (λ l lt. omega (arith, lt, le)) c h.below;
}

also : (n l : ℕ) (c : List ℕ) → IsLiteral n l → All (IsLiteral n) c → All (IsLiteral n) (l ∷ c)
also n l c h hs = All-cons (IsLiteral n) l c h hs

-- the first literal is one
pub first : (n l : ℕ) (c : List ℕ) → All (IsLiteral n) (l ∷ c) → IsLiteral n l
first n l c h = All-head (IsLiteral n) l c h

-- the other literals are
pub others : (n l : ℕ) (c : List ℕ) → All (IsLiteral n) (l ∷ c) → All (IsLiteral n) c
others n l c h = All-tail (IsLiteral n) l c h

-- a list of one literal
pub one : (n x : ℕ) → IsLiteral n x → All (IsLiteral n) (x ∷ [])
one n x hx = also n x [] hx (All-nil (IsLiteral n))

-- a list of two literals
pub two : (n x y : ℕ) → IsLiteral n x → IsLiteral n y → All (IsLiteral n) (x ∷ y ∷ [])
two n x y hx hy = also n x (y ∷ []) hx (one n y hy)

-- a list of three literals
pub three : (n x y z : ℕ) → IsLiteral n x → IsLiteral n y → IsLiteral n z → All (IsLiteral n) (x ∷ y ∷ z ∷ [])
three n x y z hx hy hz = also n x (y ∷ z ∷ []) hx (two n y z hy hz)

-- the opposite is a literal of the same variable
pub IsLiteral-opposite : (n l : ℕ) → IsLiteral n l → IsLiteral n (opposite_of l)
IsLiteral-opposite n l h = rw (variable_of-opposite_of l) h

-- the clauses of an event are over the earlier variables and its own
clauses_below : (g : ℕ) (e : Event) → All (IsLiteral g) (literals_of e) → AllBelow (g + makes e) (clauses_of (2 * g) e)
clauses_below g Input h = tt
clauses_below g (Clause c) h = (rw add-zero h, tt)
clauses_below g (And a b) h =
    let g' : variable_of (2 * g) < g + 1 = omega arith in
    let a' : variable_of a < g + 1 = omega (arith, first g a (b ∷ []) h) in
    let b' : variable_of b < g + 1 = omega (arith, first g b [] (others g a (b ∷ []) h)) in (
      (two (g + 1) (opposite_of (2 * g)) a (IsLiteral-opposite (g + 1) (2 * g) g') a'),
      (
        (two (g + 1) (opposite_of (2 * g)) b (IsLiteral-opposite (g + 1) (2 * g) g') b'),
        (
          (three (g + 1) (2 * g) (opposite_of a) (opposite_of b) g' (IsLiteral-opposite (g + 1) a a')
              (IsLiteral-opposite (g + 1) b b')),
          tt,
        ),
      ),
    )
clauses_below g (Xor a b) h =
    let g' : variable_of (2 * g) < g + 1 = omega arith in
    let a' : variable_of a < g + 1 = omega (arith, first g a (b ∷ []) h) in
    let b' : variable_of b < g + 1 = omega (arith, first g b [] (others g a (b ∷ []) h)) in
    let down = IsLiteral-opposite (g + 1) (2 * g) g' in (
      (three (g + 1) (opposite_of (2 * g)) a b down a' b'),
      (
        (three (g + 1) (opposite_of (2 * g)) (opposite_of a) (opposite_of b) down (IsLiteral-opposite (g + 1) a a')
            (IsLiteral-opposite (g + 1) b b')),
        (
          (three (g + 1) (2 * g) (opposite_of a) b g' (IsLiteral-opposite (g + 1) a a') b'),
          (
            (three (g + 1) (2 * g) a (opposite_of b) g' a' (IsLiteral-opposite (g + 1) b b')),
            tt,
          ),
        ),
      ),
    )
clauses_below g (Mux c a b) h =
    let g' : variable_of (2 * g) < g + 1 = omega arith in
    let c' : variable_of c < g + 1 = omega (arith, first g c (a ∷ b ∷ []) h) in
    let a' : variable_of a < g + 1 = omega (arith, first g a (b ∷ []) (others g c (a ∷ b ∷ []) h)) in
    let b' : variable_of b < g + 1 = omega (arith, first g b [] (others g a (b ∷ []) (others g c (a ∷ b ∷ []) h))) in
    let down = IsLiteral-opposite (g + 1) (2 * g) g' in (
      (three (g + 1) (opposite_of c) (opposite_of a) (2 * g) (IsLiteral-opposite (g + 1) c c')
          (IsLiteral-opposite (g + 1) a a') g'),
      (
        (three (g + 1) (opposite_of c) a (opposite_of (2 * g)) (IsLiteral-opposite (g + 1) c c') a' down),
        (
          (three (g + 1) c (opposite_of b) (2 * g) c' (IsLiteral-opposite (g + 1) b b') g'),
          (
            (three (g + 1) c b (opposite_of (2 * g)) c' b' down),
            tt,
          ),
        ),
      ),
    )

-- a circuit after an event
pub IsCircuit-after : (n : Net) (e : Event) → IsCircuit n → All (IsLiteral n.vars) (literals_of e) →
    IsCircuit (record n { vars = n.vars + makes e; clauses = n.clauses ++ flat_map added (clauses_of (2 * n.vars) e) })
IsCircuit-after n e h below = record {
  truth = omega (arith, h.truth);
  normal = All-append (IsNormal (n.vars + makes e)) n.clauses (flat_map added (clauses_of (2 * n.vars) e))
      (All-weaker (IsNormal n.vars) (IsNormal (n.vars + makes e))
      (λ c k. IsNormal-more n.vars (n.vars + makes e) c (omega arith) k) n.clauses h.normal)
      (all_added (n.vars + makes e) (clauses_of (2 * n.vars) e) (clauses_below n.vars e below));
}

-- a new circuit
pub IsCircuit-start : (folding : Bool) → IsCircuit (start folding)
unfolding added is_tautology
IsCircuit-start folding = record { truth = omega arith; normal = IsFormula-added 1 (0 ∷ []) (one 1 0 (omega arith)) }
