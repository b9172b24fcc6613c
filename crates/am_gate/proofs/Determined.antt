-- The inputs of a circuit determine its formula: from a literal of each of them, unit rows reach
-- each variable.
use Rattle.std.proofs.Common.{◌≡◌, ℕ, zero, suc, ◌+◌, ◌*◌, ◌<◌, Bool, true, false, not, cond, List, [], ◌∷◌, ◌&&◌, All}
use Rattle.std.proofs.Common.{refl, sym, ◌∙◌, ap, arith, subst, ◌⊎◌, inl, inr, map, add-zero, add-one}
use Rattle.std.specs.Prelude.{Contains, ◌≢◌, IsTrue}
use Rattle.std.specs.Bool.{beq}
use Rattle.std.specs.List.{flat_map}
use Rattle.std.proofs.lemmas.Bool.{cases_eq}
use Rattle.std.proofs.lemmas.List.Elements.{All-nil, All-cons, All-head, All-tail, All-weaker, All-contains}
use Rattle.std.proofs.lemmas.List.Elements.{All-contains_itself, Contains-append_left, Contains-append_right}
use Rattle.am_lit.specs.Literal.{literal_of, opposite_of, variable_of}
use Rattle.am_lit.specs.Clause.{sorted_literals}
use Rattle.am_lit.specs.Truth.{literal_value, AllHold}
use Rattle.am_lit.specs.UnitRow.{Determines, IsChoice, IsForcedBy, IsUnitRow}
use Rattle.am_lit.proofs.Laws.{Contains-head, Contains-here, Contains-tail, Contains-map, All-sorted_literals}
use Rattle.am_lit.proofs.Laws.{Contains-sorted_literals, literal_value-opposite_of}
use Rattle.am_gate.specs.Circuit.{Event, Event.Input, Event.And, Event.Xor, Event.Mux, Event.Clause, Net, AreScoped}
use Rattle.am_gate.specs.Circuit.{added, after, built, clauses_of, inputs_of, is_tautology, start}
use Rattle.am_gate.specs.Value.{Meets}
use Rattle.am_gate.proofs.Extends.{Extended, extended, head_or, tail_of, gates_of}
use Rattle.am_gate.proofs.Normals.{first, others}
use Rattle.am_lit.proofs.Laws.{opposite_parts, variable_of-opposite_of}
use Rattle.am_gate.proofs.Sorting.{added_kept, tautology_parts}

-- the literal of a variable that is true
abbrev true_of : (ℕ → Bool) → ℕ → ℕ
true_of w x = literal_of x (not (w x))

-- the true literals of the variables below g, the last first
abbrev row_of : (ℕ → Bool) → ℕ → List ℕ
row_of w zero = []
row_of w (suc g) = true_of w g ∷ row_of w g

Contains-row_of : (w : ℕ → Bool) (g x : ℕ) → x < g → Contains (row_of w g) (true_of w x)
Contains-row_of w zero x h = absurd (omega arith)
Contains-row_of w (suc g) x h = elim (cases_eq x g) [
  | inl e ↦ Contains-here (true_of w g) (row_of w g) (true_of w x) (ap (true_of w) (sym e))
  | inr e ↦ Contains-tail (true_of w g) (row_of w g) (true_of w x) (Contains-row_of w g x (omega (arith, e)))
]

variable_of-true_of : (w : ℕ → Bool) (x : ℕ) → variable_of (true_of w x) ≡ x
variable_of-true_of w x = go (not (w x)) where
  go : (b : Bool) → variable_of (literal_of x b) ≡ x
  go true = omega arith
  go false = omega arith

not_not : (b : Bool) → not (not b) ≡ b
not_not true = refl
not_not false = refl

-- a literal that is true is the one of its variable
true_of-variable_of : (w : ℕ → Bool) (l : ℕ) → literal_value w l ≡ true → true_of w (variable_of l) ≡ l
true_of-variable_of w l t = elim (opposite_parts l) [
  | inl p ↦ (let sign : w (variable_of l) ≡ true = rw p.0 at t in rw sign (omega (arith, p.0)))
  | inr p ↦
      (let sign : w (variable_of l) ≡ false = sym (not_not _) ∙ ap not (rw p.0 at t) in rw sign (omega (arith, p.0)))
]

-- the opposite of a false literal of a variable below g is in the row
opposite_in : (w : ℕ → Bool) (g l : ℕ) → literal_value w l ≡ false → variable_of l < g
    → Contains (row_of w g) (opposite_of l)
opposite_in w g l f h =
    subst (Contains (row_of w g)) (true_of-variable_of w (opposite_of l) (literal_value-opposite_of w l ∙ ap not f))
    (Contains-row_of w g (variable_of (opposite_of l)) (rw (variable_of-opposite_of l) h))

-- a literal that is false, of a variable below g
record IsFalse (w : ℕ → Bool) (g l : ℕ) : Type 0 where
  pub untrue : literal_value w l ≡ false
  pub below : variable_of l < g

-- each literal of a clause is l, or false
abbrev Others : (ℕ → Bool) → ℕ → ℕ → List ℕ → Type 0
Others w g l [] = Unit {0}
Others w g l (m ∷ ms) = ((m ≡ l) ⊎ IsFalse w g m) × Others w g l ms

All-others : (w : ℕ → Bool) (g l : ℕ) (c : List ℕ) → Others w g l c → All (λ m. (m ≡ l) ⊎ IsFalse w g m) c
All-others w g l [] o = All-nil (λ m. (m ≡ l) ⊎ IsFalse w g m)
All-others w g l (m ∷ ms) o = All-cons (λ m. (m ≡ l) ⊎ IsFalse w g m) m ms o.0 (All-others w g l ms o.1)

abbrev In : List (List ℕ) → List (List ℕ) → Type 0
In xs clauses = (d : List ℕ) → Contains xs d → Contains clauses d

-- some clause forces l from the row
abbrev Forces : List (List ℕ) → List ℕ → ℕ → Type 0
Forces clauses row l = (c : List ℕ) × Contains clauses c × IsForcedBy row c l

-- a clause with one literal of the variable g, whose others are false, forces it
module _ (w : ℕ → Bool) (g l : ℕ) (c : List ℕ) (here : variable_of l ≡ g) (has : Contains c l)
    (other : Others w g l c) where
  sorted_others : All (λ m. (m ≡ l) ⊎ IsFalse w g m) (sorted_literals c)
  sorted_others = All-sorted_literals (λ m. (m ≡ l) ⊎ IsFalse w g m) c (All-others w g l c other)

  no_self : (b : Bool) → not b ≡ b → ⊥
  no_self true e = cc e
  no_self false e = cc e

  no_both : (b : Bool) → b ≡ false → not b ≡ false → ⊥
  no_both true e f = cc e
  no_both false e f = cc f

  pair_clash : (m : ℕ) → (m ≡ l) ⊎ IsFalse w g m → (opposite_of m ≡ l) ⊎ IsFalse w g (opposite_of m) → ⊥
  pair_clash m (inl e) (inl f) =
      no_self (literal_value w m) (sym (literal_value-opposite_of w m) ∙ ap (literal_value w) (f ∙ sym e))
  pair_clash m (inl e) (inr f) =
      let at : variable_of m ≡ g = ap variable_of e ∙ here in omega (arith, f.below, variable_of-opposite_of m)
  pair_clash m (inr e) (inl f) =
      let at : variable_of (opposite_of m) ≡ g = ap variable_of f ∙ here in
      omega (arith, e.below, variable_of-opposite_of m)
  pair_clash m (inr e) (inr f) = no_both (literal_value w m) e.untrue (sym (literal_value-opposite_of w m) ∙ f.untrue)

  no_tautology_here : (b : Bool) → is_tautology (sorted_literals c) ≡ b → b ≡ false
  no_tautology_here false e = refl
  no_tautology_here true e =
      let pair = tautology_parts (sorted_literals c) e in
      absurd (pair_clash pair.0
      (All-contains (λ m. (m ≡ l) ⊎ IsFalse w g m) (sorted_literals c) pair.0 sorted_others pair.1)
      (All-contains (λ m. (m ≡ l) ⊎ IsFalse w g m) (sorted_literals c) (opposite_of pair.0) sorted_others pair.2))

  forced : (clauses : List (List ℕ)) → In (added c) clauses → Forces clauses (row_of w g) l
  forced clauses sub = (
    sorted_literals c,
    sub (sorted_literals c)
        (rw (added_kept c (no_tautology_here (is_tautology (sorted_literals c)) refl))
        (Contains-head (sorted_literals c) [])),
    (
      (Contains-sorted_literals c l).1 has,
      All-weaker (λ m. (m ≡ l) ⊎ IsFalse w g m) (λ m. m ≢ l → Contains (row_of w g) (opposite_of m))
          (λ m o ne. elim o [ inl e ↦ absurd (ne e) | inr f ↦ opposite_in w g m f.untrue f.below ]) (sorted_literals c)
          sorted_others,
    ),
  )

-- what is added for each of these clauses is there
abbrev AllIn : List (List ℕ) → List (List ℕ) → Type 0
AllIn clauses [] = Unit {0}
AllIn clauses (c ∷ cs) = In (added c) clauses × AllIn clauses cs

all_in : (clauses cs : List (List ℕ)) → In (flat_map added cs) clauses → AllIn clauses cs
all_in clauses [] s = tt
all_in clauses (c ∷ cs) s = (
  λ d i. s d (Contains-append_left (added c) (flat_map added cs) d i),
  all_in clauses cs (λ d i. s d (Contains-append_right (added c) (flat_map added cs) d i)),
)

module _ (w : ℕ → Bool) (g : ℕ) (clauses : List (List ℕ)) where
  up : variable_of (2 * g) ≡ g
  up = omega arith

  down : variable_of (opposite_of (2 * g)) ≡ g
  down = variable_of-opposite_of (2 * g) ∙ up

  -- the literal of the variable g by its value
  at_true : w g ≡ true → Forces clauses (row_of w g) (2 * g) → Forces clauses (row_of w g) (true_of w g)
  at_true e f = rw e f

  at_false : w g ≡ false → Forces clauses (row_of w g) (opposite_of (2 * g)) → Forces clauses (row_of w g) (true_of w g)
  at_false e f =
      let odd : opposite_of (2 * g) ≡ 2 * g + 1 = elim (opposite_parts (2 * g))
      [ inl p ↦ p.1 | inr p ↦ absurd (omega (arith, p.0)) ] in
      rw e (subst (Forces clauses (row_of w g)) odd f)

  -- a false literal, and the opposite of a true one
  low : (l x : ℕ) → variable_of x < g → literal_value w x ≡ false → (x ≡ l) ⊎ IsFalse w g x
  low l x h e = inr (record { untrue = e; below = h })

  flip : (l x : ℕ) → variable_of x < g → literal_value w x ≡ true → (opposite_of x ≡ l) ⊎ IsFalse w g (opposite_of x)
  flip l x h e =
      inr (record { untrue = literal_value-opposite_of w x ∙ ap not e; below = rw (variable_of-opposite_of x) h })

  -- a clause whose first or last literal is of the variable g
  by_first : (l : ℕ) (c : List ℕ) → variable_of l ≡ g → Others w g l c → In (added (l ∷ c)) clauses
      → Forces clauses (row_of w g) l
  by_first l c e o s = forced w g l (l ∷ c) e (Contains-head l c) (inl refl, o) clauses s

  by_third : (l x y : ℕ) → variable_of l ≡ g → (x ≡ l) ⊎ IsFalse w g x → (y ≡ l) ⊎ IsFalse w g y
      → In (added (x ∷ y ∷ l ∷ [])) clauses
      → Forces clauses (row_of w g) l
  by_third l x y e o p s =
      forced w g l (x ∷ y ∷ l ∷ []) e (Contains-tail x (y ∷ l ∷ []) l (Contains-tail y (l ∷ []) l (Contains-head l [])))
      (o, (p, (inl refl, tt))) clauses s

  forced-and : (a b : ℕ) → variable_of a < g → variable_of b < g → w g ≡ (literal_value w a && literal_value w b)
      → AllIn clauses (clauses_of (2 * g) (And a b))
      → Forces clauses (row_of w g) (true_of w g)
  forced-and a b a< b< e s = go (literal_value w a) (literal_value w b) refl refl e where
    down' : ℕ
    down' = opposite_of (2 * g)

    go : (x y : Bool) → literal_value w a ≡ x → literal_value w b ≡ y → w g ≡ (x && y)
        → Forces clauses (row_of w g) (true_of w g)
    go true true ea eb e =
        at_true e
        (by_first (2 * g) (opposite_of a ∷ opposite_of b ∷ []) up
        (flip (2 * g) a a< ea, (flip (2 * g) b b< eb, tt)) s.1.1.0)
    go true false ea eb e =
        at_false e (by_first (opposite_of (2 * g)) (b ∷ []) down (low (opposite_of (2 * g)) b b< eb, tt) s.1.0)
    go false y ea eb e =
        at_false e (by_first (opposite_of (2 * g)) (a ∷ []) down (low (opposite_of (2 * g)) a a< ea, tt) s.0)

  forced-xor : (a b : ℕ) → variable_of a < g → variable_of b < g
      → w g ≡ not (beq (literal_value w a) (literal_value w b)) → AllIn clauses (clauses_of (2 * g) (Xor a b))
      → Forces clauses (row_of w g) (true_of w g)
  forced-xor a b a< b< e s = go (literal_value w a) (literal_value w b) refl refl e where
    go : (x y : Bool) → literal_value w a ≡ x → literal_value w b ≡ y → w g ≡ not (beq x y)
        → Forces clauses (row_of w g) (true_of w g)
    go false false ea eb e =
        at_false e
        (by_first (opposite_of (2 * g)) (a ∷ b ∷ []) down
        (low (opposite_of (2 * g)) a a< ea, (low (opposite_of (2 * g)) b b< eb, tt)) s.0)
    go true true ea eb e =
        at_false e
        (by_first (opposite_of (2 * g)) (opposite_of a ∷ opposite_of b ∷ []) down
        (flip (opposite_of (2 * g)) a a< ea, (flip (opposite_of (2 * g)) b b< eb, tt)) s.1.0)
    go true false ea eb e =
        at_true e
        (by_first (2 * g) (opposite_of a ∷ b ∷ []) up (flip (2 * g) a a< ea, (low (2 * g) b b< eb, tt)) s.1.1.0)
    go false true ea eb e =
        at_true e
        (by_first (2 * g) (a ∷ opposite_of b ∷ []) up (low (2 * g) a a< ea, (flip (2 * g) b b< eb, tt)) s.1.1.1.0)

  forced-mux : (c a b : ℕ) → variable_of c < g → variable_of a < g → variable_of b < g
      → w g ≡ cond (literal_value w c) (literal_value w a) (literal_value w b)
      → AllIn clauses (clauses_of (2 * g) (Mux c a b))
      → Forces clauses (row_of w g) (true_of w g)
  forced-mux c a b c< a< b< e s = go (literal_value w c) (literal_value w a) (literal_value w b) refl refl refl e where
    go : (z x y : Bool) → literal_value w c ≡ z → literal_value w a ≡ x → literal_value w b ≡ y → w g ≡ cond z x y
        → Forces clauses (row_of w g) (true_of w g)
    go true true y ec ea eb e =
        at_true e
        (by_third (2 * g) (opposite_of c) (opposite_of a) up (flip (2 * g) c c< ec) (flip (2 * g) a a< ea) s.0)
    go true false y ec ea eb e =
        at_false e
        (by_third (opposite_of (2 * g)) (opposite_of c) a down (flip (opposite_of (2 * g)) c c< ec)
        (low (opposite_of (2 * g)) a a< ea) s.1.0)
    go false x true ec ea eb e =
        at_true e (by_third (2 * g) c (opposite_of b) up (low (2 * g) c c< ec) (flip (2 * g) b b< eb) s.1.1.0)
    go false x false ec ea eb e =
        at_false e
        (by_third (opposite_of (2 * g)) c b down (low (opposite_of (2 * g)) c c< ec)
        (low (opposite_of (2 * g)) b b< eb) s.1.1.1.0)

kept : (n : Net) (es : List Event) → In n.clauses (built n es).clauses
unfolding built after
kept n [] d i = i
kept n (e ∷ es) d i =
    kept (after n e) es d (Contains-append_left n.clauses (flat_map added (clauses_of (2 * n.vars) e)) d i)

fresh : (n : Net) (e : Event) (es : List Event)
    → In (flat_map added (clauses_of (2 * n.vars) e)) (built (after n e) es).clauses
unfolding after
fresh n e es d i =
    kept (after n e) es d (Contains-append_right n.clauses (flat_map added (clauses_of (2 * n.vars) e)) d i)

-- the row grows with the events
module _ (w : ℕ → Bool) (clauses : List (List ℕ)) (given : List ℕ) where
  rows : (es : List Event) (n : Net) (ls : List ℕ) → AreScoped n.vars es → Meets w n.vars (gates_of es)
      → IsChoice (inputs_of n.vars es) ls → AllHold w ls → All (Contains given) ls → In (built n es).clauses clauses
      → IsUnitRow clauses given (row_of w n.vars)
      → IsUnitRow clauses given (row_of w (built n es).vars)
  unfolding built after Meets
  rows [] n ls sc m choice h gi s row = row
  rows (Input ∷ es) n [] sc m choice h gi s row = absurd (cc choice)
  rows (Input ∷ es) n (l ∷ ls) sc m choice h gi s row =
      let here : variable_of l ≡ n.vars = ap (head_or n.vars) choice in
      let same : true_of w n.vars ≡ l =
      ap (true_of w) (sym here) ∙ true_of-variable_of w l (All-head (λ k. IsTrue (literal_value w k)) l ls h) in
      rows es (after n Input) ls sc.1 m.1 (ap tail_of choice) (All-tail (λ k. IsTrue (literal_value w k)) l ls h)
      (All-tail (Contains given) l ls gi) s
      (rw add-one (inl (rw same (All-head (Contains given) l ls gi)), row))
  rows (Clause c ∷ es) n ls sc m choice h gi s row =
      rows es (after n (Clause c)) ls sc.1 (rw add-zero m) (rw add-zero choice) h gi s (rw add-zero row)
  rows (And a b ∷ es) n ls sc m choice h gi s row =
      rows es (after n (And a b)) ls sc.1 m.1 choice h gi s
      (rw add-one (
        inr
            (forced-and w n.vars clauses a b (first n.vars a (b ∷ []) sc.0)
            (first n.vars b [] (others n.vars a (b ∷ []) sc.0)) m.0
            (all_in clauses (clauses_of (2 * n.vars) (And a b)) (λ d i. s d (fresh n (And a b) es d i)))),
        row,
      ))
  rows (Xor a b ∷ es) n ls sc m choice h gi s row =
      rows es (after n (Xor a b)) ls sc.1 m.1 choice h gi s
      (rw add-one (
        inr
            (forced-xor w n.vars clauses a b (first n.vars a (b ∷ []) sc.0)
            (first n.vars b [] (others n.vars a (b ∷ []) sc.0)) m.0
            (all_in clauses (clauses_of (2 * n.vars) (Xor a b)) (λ d i. s d (fresh n (Xor a b) es d i)))),
        row,
      ))
  rows (Mux c a b ∷ es) n ls sc m choice h gi s row =
      let rest = others n.vars c (a ∷ b ∷ []) sc.0 in
      rows es (after n (Mux c a b)) ls sc.1 m.1 choice h gi s
      (rw add-one (
        inr
            (forced-mux w n.vars clauses c a b (first n.vars c (a ∷ b ∷ []) sc.0) (first n.vars a (b ∷ []) rest)
            (first n.vars b [] (others n.vars a (b ∷ []) rest)) m.0
            (all_in clauses (clauses_of (2 * n.vars) (Mux c a b)) (λ d i. s d (fresh n (Mux c a b) es d i)))),
        row,
      ))

-- the inputs of gates over earlier variables determine the circuit's formula
pub determined : (folding : Bool) (es : List Event) → AreScoped 1 es
    → Determines (built (start folding) es).clauses (built (start folding) es).vars (inputs_of 1 es)
determined folding es sc literals choice = (row_of w (built (start folding) es).vars, all_rows, each) where
  r : Extended (λ x. true) 1 es literals
  r = extended (λ x. true) 1 es literals sc choice

  w : ℕ → Bool
  w = r.values

  truth_forced : Forces (built (start folding) es).clauses [] (true_of w 0)
  truth_forced =
      let sign : w 0 ≡ true = r.below 0 (omega arith) in
      rw sign (
        0 ∷ [],
        kept (start folding) es (0 ∷ []) (Contains-head (0 ∷ []) []),
        (
          Contains-head 0 [],
          All-cons (λ m. m ≢ 0 → Contains [] (opposite_of m)) 0 [] (λ ne. absurd (ne refl))
              (All-nil (λ m. m ≢ 0 → Contains [] (opposite_of m))),
        ),
      )

  all_rows : IsUnitRow (built (start folding) es).clauses literals (row_of w (built (start folding) es).vars)
  all_rows =
      rows w (built (start folding) es).clauses literals es (start folding) literals sc r.gates choice r.given
      (All-contains_itself literals) (λ d i. i) (inr truth_forced, tt)

  each : (x : ℕ) → x < (built (start folding) es).vars
      → Contains (map variable_of (row_of w (built (start folding) es).vars)) x
  each x lt =
      subst (Contains (map variable_of (row_of w (built (start folding) es).vars))) (variable_of-true_of w x)
      (Contains-map variable_of (row_of w (built (start folding) es).vars) (true_of w x)
      (Contains-row_of w (built (start folding) es).vars x lt))
