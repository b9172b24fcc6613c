-- Truth values that agree with a list.
use Rattle.std.proofs.Common.{◌≡◌, ℕ, suc, ◌+◌, ◌≤◌, eqb, Bool, true, false, not, cond, List, [], ◌∷◌, ◌++◌, ◌||◌, inl}
use Rattle.std.proofs.Common.{inr, Option, None, Some, map, length, refl, sym, ◌∙◌, subst, arith}
use Rattle.std.specs.Prelude.{slice_index_or}
use Rattle.std.specs.List.{list_any}
use Rattle.std.proofs.lemmas.Bool.{or_parts, eqb-true, and_from}
use Rattle.std.proofs.lemmas.Bool.Decides.{nat_tests}
use Rattle.std.proofs.lemmas.List.Folds.{list_all-append}
use Rattle.am_lit.proofs.Laws.{literal_value-opposite_of}
use Rattle.am_gate.proofs.Laws.{literal_value-even}
use Rattle.am_lit.specs.Literal.{opposite_of}
use Rattle.am_lit.specs.Truth.{literal_value, clause_value, value_at}
use Rattle.am_tree.specs.declared.tree.Tree.{Tree}
use Rattle.am_tree.specs.Trees.{production_of}
use Rattle.am_tree.specs.declared.slots.Argument.{Argument}
use Rattle.am_tree.specs.Slots.{Numbered, arguments, same}
use Rattle.am_tree.proofs.Laws.{Stands, Rising}
use Rattle.am_slot.specs.Selectors.{selector, selectors}
use Rattle.am_slot.specs.Clauses.{asks, pairs}
use Rattle.am_slot.proofs.Held.{is_of, slot_bits}
use Rattle.am_slot.proofs.Picks.{AllTrue, Chosen, Demanded}

-- the variables from x on have the truth values of the list
abbrev pub Agrees : (ℕ → Bool) → ℕ → List Bool → Type 0
Agrees v x [] = Unit {0}
Agrees v x (b ∷ bs) = (v x ≡ b) × Agrees v (x + 1) bs

-- the values of two lists are those of the first, and after them those of the second
pub agrees-parts : (v : ℕ → Bool) (x : ℕ) (bs cs : List Bool) → Agrees v x (bs ++ cs) →
    Agrees v x bs × Agrees v (x + length bs) cs
agrees-parts v x [] cs h = let e : x + 0 ≡ x = omega arith in (tt, rw e h)
agrees-parts v x (b ∷ bs) cs h =
    let r = agrees-parts v (x + 1) bs cs h.1 in
    let e : x + suc (length bs) ≡ x + 1 + length bs = omega arith in
    ((h.0, r.0), rw e r.1)

agrees-from : (all : List Bool) (i : ℕ) (bs : List Bool) →
    ((j : ℕ) → slice_index_or all (i + j) false ≡ slice_index_or bs j false) →
    Agrees (value_at all) i bs
agrees-from all i [] h = tt
agrees-from all i (b ∷ bs) h =
    let here : i + 0 ≡ i = omega arith in (
      rw here at (h 0),
      agrees-from all (i + 1) bs (λ j. let there : i + 1 + j ≡ i + suc j = omega arith in rw there (h (suc j))),
    )

-- the truth values of a list after the one of variable 0
pub agrees-value_at : (bs : List Bool) → Agrees (value_at (true ∷ bs)) 1 bs
agrees-value_at bs = agrees-from (true ∷ bs) 1 bs (λ j. let e : 1 + j ≡ suc j = omega arith in rw e refl)

module _ (v : ℕ → Bool) where
  -- whether one of a slot's selectors is true
  pub own-value : (t : Option Tree) (x : ℕ) (ps : List Numbered) → Agrees v x (slot_bits t ps) →
      clause_value v (selectors x ps) ≡ list_any (λ p. is_of t p.number) ps
  own-value t x [] h = refl
  own-value t x (p ∷ ps) h = rw (literal_value-even v x, h.0, own-value t (x + 1) ps h.1) refl

  -- a chosen production is the one of the slot's tree
  pub chosen-is_of : (t : Option Tree) (x : ℕ) (ps : List Numbered) (p : Numbered) → Agrees v x (slot_bits t ps) →
      Chosen v x ps p →
      is_of t p.number ≡ true
  chosen-is_of t x [] p h c = absurd c
  chosen-is_of t x (q ∷ qs) p h (inl c) = subst (λ (r : Numbered). is_of t r.number ≡ true) c.1 (sym h.0 ∙ c.0)
  chosen-is_of t x (q ∷ qs) p h (inr c) = chosen-is_of t (x + 1) qs p h.1 c

  -- a production of a tree is that of a tree that is there
  pub is_of-some : (t : Option Tree) (k : ℕ) → is_of t k ≡ true → (s : Tree) × (t ≡ Some s) × (production_of s ≡ k)
  is_of-some None k h = cc
  is_of-some (Some s) k h = (s, refl, eqb-true _ _ h)

  -- a child that is asked for is one of a chosen production
  pub chosen_asks : (a : Argument) (x : ℕ) (ps : List Numbered) → Demanded v (asks a x ps) →
      (p : Numbered) × Chosen v x ps p × Stands (arguments p.production) a
  chosen_asks a x [] d = cc
  chosen_asks a x (q ∷ qs) d =
      go (list_any (same a) (arguments q.production)) refl d (v x) refl (chosen_asks a (x + 1) qs)
    where
      go : (b : Bool) → list_any (same a) (arguments q.production) ≡ b →
          Demanded v (cond b ((opposite_of (selector x) ∷ []) ∷ asks a (x + 1) qs) (asks a (x + 1) qs)) →
          (c : Bool) → v x ≡ c →
          (Demanded v (asks a (x + 1) qs) →
          (p : Numbered) × Chosen v (x + 1) qs p × Stands (arguments p.production) a) →
          (p : Numbered) × Chosen v x (q ∷ qs) p × Stands (arguments p.production) a
      go true e d true f more = (q, inl (f, refl), e)
      go true e d false f more =
          let on : clause_value v (opposite_of (selector x) ∷ []) ≡ true =
          rw (literal_value-opposite_of v (selector x), literal_value-even v x, f) refl in
          let r = more (rw on at d) in (r.0, inr r.1, r.2)
      go false e d c f more = let r = more d in (r.0, inr r.1, r.2)

  -- no two of a slot's selectors are true

  none_later : (t : Option Tree) (k i : ℕ) (ps : List Numbered) → is_of t k ≡ true → k + 1 ≤ i → Rising i ps →
      list_any (λ p. is_of t p.number) ps ≡ false
  none_later t k i [] h l r = refl
  none_later None k i (p ∷ ps) h l r = cc
  none_later (Some s) k i (p ∷ ps) h l r =
      let is : production_of s ≡ k = eqb-true _ _ h in
      let differ : eqb (production_of s) p.number ≡ false = grind (arith, nat_tests) in
      rw differ (none_later (Some s) k (p.number + 1) ps h (omega (arith, l, r.0)) r.1)

  not_both : (l : ℕ) (ls : List ℕ) → (literal_value v l ≡ true → clause_value v ls ≡ false) →
      AllTrue v (map (λ m. opposite_of l ∷ opposite_of m ∷ []) ls)
  not_both l [] h = refl
  not_both l (m ∷ ls) h =
      and_from _ _
      (rw (literal_value-opposite_of v l, literal_value-opposite_of v m)
      (go (literal_value v l) (literal_value v m) (λ e. (or_parts _ _ (h e)).0)))
      (not_both l ls (λ e. (or_parts (literal_value v m) _ (h e)).1))
    where
      go : (b c : Bool) → (b ≡ true → c ≡ false) → (not b || (not c || false)) ≡ true
      go true true f = let e : true ≡ false = f refl in cc
      go true false f = refl
      go false c f = refl

  -- a slot's tree has one production, so no two of its selectors are true
  pub pairs_true : (t : Option Tree) (i x : ℕ) (ps : List Numbered) → Agrees v x (slot_bits t ps) → Rising i ps →
      AllTrue v (pairs (selectors x ps))
  pairs_true t i x [] h r = refl
  pairs_true t i x (p ∷ ps) h r =
      list_all-append (clause_value v) (map (λ m. opposite_of (selector x) ∷ opposite_of m ∷ []) (selectors (x + 1) ps))
      (pairs (selectors (x + 1) ps))
      ∙ and_from _ _
      (not_both (selector x) (selectors (x + 1) ps) (λ e. own-value t (x + 1) ps h.1
      ∙ none_later t p.number (p.number + 1) ps (sym h.0 ∙ sym (literal_value-even v x) ∙ e) (omega arith) r.1))
      (pairs_true t (p.number + 1) (x + 1) ps h.1 r.1)
