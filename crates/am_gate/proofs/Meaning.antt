-- The clauses of a circuit hold exactly where its gates have their values and its forced clauses hold.
use Rattle.std.proofs.Common.{◌≡◌, ℕ, ◌+◌, ◌*◌, ◌/◌, ◌%◌, Bool, true, false, not, cond, List, [], ◌∷◌, ◌||◌, ◌&&◌, refl}
use Rattle.std.proofs.Common.{sym, ◌∙◌, ap, arith}
use Rattle.std.specs.Prelude.{Contains, ◌↔◌, IsTrue}
use Rattle.std.specs.Bool.{beq}
use Rattle.std.specs.List.{list_all, flat_map}
use Rattle.std.proofs.Math.Bool.{and-true, or-false}
use Rattle.std.proofs.lemmas.Bool.{and_parts, and_from}
use Rattle.std.proofs.lemmas.List.Folds.{list_all-append, list_any-from_Any}
use Rattle.std.proofs.lemmas.List.Sums.{AllPass-from_list_all, list_all-from_AllPass}
use Rattle.am_lit.specs.Clause.{sorted_literals}
use Rattle.am_lit.specs.Literal.{opposite_of}
use Rattle.am_lit.specs.Truth.{literal_value, clause_value, Satisfies}
use Rattle.am_lit.proofs.Laws.{clause_value-sorted_literals, literal_value-opposite_of}
use Rattle.am_gate.specs.Circuit.{Event, Event.Input, Event.And, Event.Xor, Event.Mux, Event.Clause, Net, clauses_of}
use Rattle.am_gate.specs.Circuit.{is_tautology, added, after, built, start}
use Rattle.am_gate.specs.Value.{EventHolds, Meets}
use Rattle.am_gate.proofs.Sorting.{added_dropped, added_kept, tautology_parts}

-- a variable's literal has the variable's value
pub literal_value-even : (v : ℕ → Bool) (g : ℕ) → literal_value v (2 * g) ≡ v g
literal_value-even v g =
    let rest : (2 * g) % 2 ≡ 0 = omega arith in
    let half : (2 * g) / 2 ≡ g = omega arith in
    rw (rest, half) refl

-- and its opposite the other one
pub literal_value-odd : (v : ℕ → Bool) (g : ℕ) → literal_value v (2 * g + 1) ≡ not (v g)
literal_value-odd v g =
    let rest : (2 * g + 1) % 2 ≡ 1 = omega arith in
    let half : (2 * g + 1) / 2 ≡ g = omega arith in
    rw (rest, half) refl

module _ (v : ℕ → Bool) where
  -- whether all clauses hold
  abbrev all_hold : List (List ℕ) → Bool
  all_hold cs = list_all (clause_value v) cs

  true_clause : (c : List ℕ) (l : ℕ) → Contains c l → literal_value v l ≡ true → clause_value v c ≡ true
  true_clause c l h t = list_any-from_Any (literal_value v) c (h.0, l, h.1, h.2, t)

  true_tautology : (c : List ℕ) → is_tautology c ≡ true → clause_value v c ≡ true
  true_tautology c e = let pair = tautology_parts c e in go pair.0 pair.1 pair.2 (literal_value v pair.0) refl where
    go : (l : ℕ) → Contains c l → Contains c (opposite_of l) → (b : Bool) → literal_value v l ≡ b
        → clause_value v c ≡ true
    go l h k true t = true_clause c l h t
    go l h k false t = true_clause c (opposite_of l) k (literal_value-opposite_of v l ∙ ap not t)

  all_hold-added : (c : List ℕ) → all_hold (added c) ≡ clause_value v c
  all_hold-added c = go (is_tautology (sorted_literals c)) refl where
    go : (b : Bool) → is_tautology (sorted_literals c) ≡ b → all_hold (added c) ≡ clause_value v c
    go true e = rw (added_dropped c e) (sym (true_tautology (sorted_literals c) e) ∙ clause_value-sorted_literals v c)
    go false e = rw (added_kept c e) (and-true (clause_value v (sorted_literals c)) ∙ clause_value-sorted_literals v c)

  all_hold-flat_map : (cs : List (List ℕ)) → all_hold (flat_map added cs) ≡ all_hold cs
  all_hold-flat_map [] = refl
  all_hold-flat_map (c ∷ cs) =
      list_all-append (clause_value v) (added c) (flat_map added cs)
      ∙ rw (all_hold-added c, all_hold-flat_map cs) refl

  -- whether the gate has its value, or the clause holds
  abbrev holds : ℕ → Event → Bool
  holds g Input = true
  holds g (And a b) = beq (v g) (literal_value v a && literal_value v b)
  holds g (Xor a b) = beq (v g) (not (beq (literal_value v a) (literal_value v b)))
  holds g (Mux c a b) = beq (v g) (cond (literal_value v c) (literal_value v a) (literal_value v b))
  holds g (Clause literals) = clause_value v literals

  all_hold-clauses_of : (g : ℕ) (e : Event) → all_hold (clauses_of (2 * g) e) ≡ holds g e
  all_hold-clauses_of g Input = refl
  all_hold-clauses_of g (And a b) =
      rw (
        literal_value-opposite_of v (2 * g),
        literal_value-opposite_of v a,
        literal_value-opposite_of v b,
        literal_value-even v g,
      )
      (bits (v g) (literal_value v a) (literal_value v b))
    where
      bits : (x y z : Bool)
          → ((not x || (y || false)) && ((not x || (z || false)) && ((x || (not y || (not z || false))) && true)))
          ≡ beq x (y && z)
      bits x y z = grind arith
  all_hold-clauses_of g (Xor a b) =
      rw (
        literal_value-opposite_of v (2 * g),
        literal_value-opposite_of v a,
        literal_value-opposite_of v b,
        literal_value-even v g,
      )
      (bits (v g) (literal_value v a) (literal_value v b))
    where
      bits : (x y z : Bool)
          → ((not x || (y || (z || false)))
          && ((not x || (not y || (not z || false)))
          && ((x || (not y || (z || false))) && ((x || (y || (not z || false))) && true))))
          ≡ beq x (not (beq y z))
      bits x y z = grind arith
  all_hold-clauses_of g (Mux c a b) =
      rw (
        literal_value-opposite_of v (2 * g),
        literal_value-opposite_of v c,
        literal_value-opposite_of v a,
        literal_value-opposite_of v b,
        literal_value-even v g,
      )
      (bits (v g) (literal_value v c) (literal_value v a) (literal_value v b))
    where
      bits : (x w y z : Bool)
          → ((not w || (not y || (x || false)))
          && ((not w || (y || (not x || false)))
          && ((w || (not z || (x || false))) && ((w || (z || (not x || false))) && true))))
          ≡ beq x (cond w y z)
      bits x w y z = grind arith
  all_hold-clauses_of g (Clause literals) = and-true (clause_value v literals)

  same_from : (x y : Bool) → beq x y ≡ true → x ≡ y
  same_from x y h = grind arith

  same_to : (x y : Bool) → x ≡ y → beq x y ≡ true
  same_to x y h = grind arith

  Holds_from : (g : ℕ) (e : Event) → holds g e ≡ true → EventHolds v g e
  Holds_from g Input h = tt
  Holds_from g (And a b) h = same_from _ _ h
  Holds_from g (Xor a b) h = same_from _ _ h
  Holds_from g (Mux c a b) h = same_from _ _ h
  Holds_from g (Clause literals) h = h

  Holds_to : (g : ℕ) (e : Event) → EventHolds v g e → holds g e ≡ true
  Holds_to g Input h = refl
  Holds_to g (And a b) h = same_to _ _ h
  Holds_to g (Xor a b) h = same_to _ _ h
  Holds_to g (Mux c a b) h = same_to _ _ h
  Holds_to g (Clause literals) h = h

  all_hold-after : (n : Net) (e : Event) → all_hold (after n e).clauses ≡ (all_hold n.clauses && holds n.vars e)
  unfolding after
  all_hold-after n e =
      list_all-append (clause_value v) n.clauses (flat_map added (clauses_of (2 * n.vars) e))
      ∙ rw (all_hold-flat_map (clauses_of (2 * n.vars) e), all_hold-clauses_of n.vars e) refl

  built_from : (n : Net) (es : List Event) → all_hold (built n es).clauses ≡ true
      → (all_hold n.clauses ≡ true) × Meets v n.vars es
  unfolding built Meets after
  built_from n [] h = (h, tt)
  built_from n (e ∷ es) h =
      let rest = built_from (after n e) es h in
      let both = and_parts _ _ (sym (all_hold-after n e) ∙ rest.0) in
      (both.0, (Holds_from n.vars e both.1, rest.1))

  built_to : (n : Net) (es : List Event) → all_hold n.clauses ≡ true → Meets v n.vars es
      → all_hold (built n es).clauses ≡ true
  unfolding built Meets after
  built_to n [] h m = h
  built_to n (e ∷ es) h m =
      built_to (after n e) es (all_hold-after n e ∙ and_from _ _ h (Holds_to n.vars e m.0)) m.1

  -- where the clauses of a circuit hold, its gates have their values
  pub Meets-built : (n : Net) (es : List Event) → Satisfies v (built n es).clauses → Meets v n.vars es
  Meets-built n es h = (built_from n es (list_all-from_AllPass (clause_value v) (built n es).clauses h)).1

  all_hold-start : all_hold (start false).clauses ≡ v 0
  all_hold-start = and-true (v 0 || false) ∙ or-false (v 0)

  -- the clauses of a circuit that events made
  pub Satisfies-built : (folding : Bool) (es : List Event)
      → Satisfies v (built (start folding) es).clauses ↔ (IsTrue (v 0) × Meets v 1 es)
  Satisfies-built folding es = (
    (λ h.
        let parts =
        built_from (start folding) es
        (list_all-from_AllPass (clause_value v) (built (start folding) es).clauses h) in
        (sym all_hold-start ∙ parts.0, parts.1)),
    (λ h. AllPass-from_list_all (clause_value v) (built (start folding) es).clauses
        (built_to (start folding) es (all_hold-start ∙ h.0) h.1)),
  )
