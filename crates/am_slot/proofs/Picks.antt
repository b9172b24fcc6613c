-- The production that truth values of selectors pick.
use Rattle.std.proofs.Common.{◌≡◌, ℕ, ◌+◌, Bool, true, false, not, cond, List, [], ◌∷◌, ◌++◌, ◌||◌, ◌⊎◌, inl, inr}
use Rattle.std.proofs.Common.{Option, Some, refl, sym, ◌∙◌, subst}
use Rattle.std.specs.List.{AllByRecursion, list_any, list_all}
use Rattle.std.proofs.lemmas.Bool.{or_right, or_cases, or_parts, and_parts}
use Rattle.std.proofs.lemmas.List.Folds.{list_all-append}
use Rattle.am_lit.proofs.Laws.{literal_value-opposite_of}
use Rattle.am_gate.proofs.Laws.{literal_value-even}
use Rattle.am_lit.specs.Literal.{opposite_of}
use Rattle.am_lit.specs.Truth.{literal_value, clause_value}
use Rattle.am_tree.specs.declared.slots.Argument.{Argument}
use Rattle.am_tree.specs.Slots.{Numbered, arguments, same}
use Rattle.am_tree.proofs.Laws.{Stands}
use Rattle.am_slot.specs.Selectors.{selector, selectors}
use Rattle.am_slot.specs.Decoded.{picked}
use Rattle.am_slot.specs.Clauses.{asks}

module _ (v : ℕ → Bool) where
  -- each clause is true
  abbrev pub AllTrue : List (List ℕ) → Type 0
  AllTrue cs = list_all (clause_value v) cs ≡ true

  -- where two lists of clauses are true, the first is
  pub true-front : (cs ds : List (List ℕ)) → AllTrue (cs ++ ds) → AllTrue cs
  true-front cs ds h = (and_parts _ _ (sym (list_all-append (clause_value v) cs ds) ∙ h)).0

  -- and the second is
  pub true-after : (cs ds : List (List ℕ)) → AllTrue (cs ++ ds) → AllTrue ds
  true-after cs ds h = (and_parts _ _ (sym (list_all-append (clause_value v) cs ds) ∙ h)).1

  -- the production stands in the list, and its selector is true
  abbrev pub Chosen : ℕ → List Numbered → Numbered → Type 0
  Chosen x [] p = ⊥
  Chosen x (q ∷ qs) p = ((v x ≡ true) × (q ≡ p)) ⊎ Chosen (x + 1) qs p

  -- one of the literals before the others is false
  abbrev pub Demanded : List (List ℕ) → Type 0
  Demanded by = list_any (λ a. not (clause_value v a)) by ≡ true

  none_picked : (x : ℕ) (last : Option Numbered) (ps : List Numbered) → clause_value v (selectors x ps) ≡ false →
      picked v x last ps ≡ last
  none_picked x last [] h = refl
  none_picked x last (p ∷ ps) h =
      let parts = or_parts (literal_value v (selector x)) (clause_value v (selectors (x + 1) ps)) h in
      let off : v x ≡ false = sym (literal_value-even v x) ∙ parts.0 in
      none_picked (x + 1) (cond (v x) (Some p) last) ps parts.1 ∙ rw off refl

  -- where some selector of a slot is true, a chosen production is picked
  pub picked_chosen : (x : ℕ) (last : Option Numbered) (ps : List Numbered) → clause_value v (selectors x ps) ≡ true →
      (p : Numbered) × (picked v x last ps ≡ Some p) × Chosen x ps p
  picked_chosen x last [] h = cc
  picked_chosen x last (q ∷ qs) h =
      go (clause_value v (selectors (x + 1) qs)) refl (picked_chosen (x + 1) (cond (v x) (Some q) last) qs)
    where
      go : (b : Bool) → clause_value v (selectors (x + 1) qs) ≡ b →
          (clause_value v (selectors (x + 1) qs) ≡ true →
          (p : Numbered) × (picked v (x + 1) (cond (v x) (Some q) last) qs ≡ Some p) × Chosen (x + 1) qs p) →
          (p : Numbered) × (picked v x last (q ∷ qs) ≡ Some p) × Chosen x (q ∷ qs) p
      go true e more = let r = more e in (r.0, r.1, inr r.2)
      go false e more =
          let lit : (literal_value v (selector x) || false) ≡ true = rw e at h in
          let on : v x ≡ true = sym (literal_value-even v x) ∙ elim (or_cases _ _ lit) [ inl a ↦ a | inr b ↦ cc ] in
          (q, none_picked (x + 1) (cond (v x) (Some q) last) qs e ∙ rw on refl, inl (on, refl))

  -- what holds of each production of a slot holds of a chosen one
  pub chosen_of : (P : Numbered → Type 0) (x : ℕ) (ps : List Numbered) (p : Numbered) → AllByRecursion P ps →
      Chosen x ps p →
      P p
  chosen_of P x [] p h c = absurd c
  chosen_of P x (q ∷ qs) p h (inl c) = subst P c.1 h.0
  chosen_of P x (q ∷ qs) p h (inr c) = chosen_of P (x + 1) qs p h.1 c

  -- a chosen production asks for each of its children
  pub asks_chosen : (a : Argument) (x : ℕ) (ps : List Numbered) (p : Numbered) → Chosen x ps p →
      Stands (arguments p.production) a →
      Demanded (asks a x ps)
  asks_chosen a x [] p c s = absurd c
  asks_chosen a x (q ∷ qs) p (inl c) s =
      let here : Stands (arguments q.production) a =
      subst (λ (r : Numbered). Stands (arguments r.production) a) (sym c.1) s in
      let off : clause_value v (opposite_of (selector x) ∷ []) ≡ false =
      rw (literal_value-opposite_of v (selector x), literal_value-even v x, c.0) refl in
      rw (here, off) refl
  asks_chosen a x (q ∷ qs) p (inr c) s =
      go (list_any (same a) (arguments q.production)) (asks a (x + 1) qs) (asks_chosen a (x + 1) qs p c s)
    where
      go : (b : Bool) (rest : List (List ℕ)) → Demanded rest →
          Demanded (cond b ((opposite_of (selector x) ∷ []) ∷ rest) rest)
      go true rest more = or_right (not (clause_value v (opposite_of (selector x) ∷ []))) _ more
      go false rest more = more
