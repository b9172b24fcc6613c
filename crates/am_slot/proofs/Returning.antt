-- The truth values that choose trees which derive give these trees back.
use Rattle.std.proofs.Common.{◌≡◌, ℕ, zero, suc, ◌+◌, ◌<◌, ◌≤◌, eqb, Bool, true, false, List, [], ◌∷◌, Option, None}
use Rattle.std.proofs.Common.{Some, map, length, refl, sym, ◌∙◌, ap, subst, arith}
use Rattle.std.specs.List.{AllByRecursion, AllZip}
use Rattle.std.proofs.lemmas.Bool.{or_left, or_right, eqb-true}
use Rattle.std.proofs.lemmas.Bool.Decides.{nat_tests}
use Rattle.std.proofs.lemmas.Simd.{map-map}
use Rattle.am_tree.specs.declared.grammar.Production.{Production}
use Rattle.am_tree.specs.declared.grammar.Production.TheVariants.{Leaf, Node}
use Rattle.am_tree.specs.declared.tree.Tree.{Tree}
use Rattle.am_tree.specs.Trees.{Rules, production_at, production_of, children_of, AreDerived, Derives}
use Rattle.am_tree.specs.declared.slots.Argument.{Argument}
use Rattle.am_tree.specs.Slots.{same, offered, positioned, arguments, shared, next_level, at_argument}
use Rattle.am_tree.proofs.Laws.{tree-out, IsOffered, Stands, are_offered, same-refl, same-true}
use Rattle.am_slot.specs.Selectors.{width}
use Rattle.am_slot.specs.Decoded.{picked, no_tree, tree_by, level_trees, trees}
use Rattle.am_slot.specs.declared.clauses.Asked.{Asked}
use Rattle.am_slot.specs.Clauses.{asks, symbols}
use Rattle.am_slot.proofs.Held.{Held, asked, part, child_at, slot_bits, level_bits, next_held, bits}
use Rattle.am_slot.proofs.Rows.{AllThree, front, behind, found}
use Rattle.am_slot.proofs.Picks.{picked_chosen, chosen_of}
use Rattle.am_slot.proofs.Derived.{symbols-next}
use Rattle.am_slot.proofs.Agreeing.{Agrees, agrees-parts, chosen-is_of}
use Rattle.am_slot.proofs.Encoding.{Good, own_chosen, here, later, good_next, next-asked, length-level_bits}

stands_in : (ks xs : List Argument) (a : Argument) → AllByRecursion (Stands ks) xs → Stands xs a → Stands ks a
stands_in ks [] a h s = cc
stands_in ks (x ∷ xs) a h s = go (same a x) refl (stands_in ks xs a h.1)
  where
    go : (b : Bool) → same a x ≡ b → (Stands xs a → Stands ks a) → Stands ks a
    go true e more = subst (λ (y : Argument). Stands ks y) (sym (same-true a x e)) h.0
    go false e more = more (rw e at s)

stands_position : (i : ℕ) (names : List ℕ) (a : Argument) → Stands (positioned i names) a → i ≤ a.position
stands_position i [] a s = cc
stands_position i (n ∷ names) a s =
    go (same a (record { position = i; symbol = n })) refl (stands_position (i + 1) names a)
  where
    go : (b : Bool) → same a (record { position = i; symbol = n }) ≡ b →
        (Stands (positioned (i + 1) names) a → i + 1 ≤ a.position) →
        i ≤ a.position
    go true e more =
        let is : a.position ≡ i =
        ap (λ (x : Argument). x.position) (same-true a (record { position = i; symbol = n }) e) in
        omega (arith, is)
    go false e more = let l : i + 1 ≤ a.position = more (rw e at s) in omega (arith, l)

same-before : (i n : ℕ) (a : Argument) → i + 1 ≤ a.position → same a (record { position = i; symbol = n }) ≡ false
same-before i n a l = let differ : eqb a.position i ≡ false = grind (arith, nat_tests) in rw differ refl

module _ (D : ℕ → Tree → Type 0) (F : Argument → Tree) where
  each_child : (i : ℕ) (names : List ℕ) (cs : List Tree) → AllZip D names cs →
      ((a : Argument) → Stands (positioned i names) a → (c : Tree) →
      at_argument None (positioned i names) (map (λ t. Some t) cs) a ≡ Some c →
      F a ≡ c) →
      map F (positioned i names) ≡ cs
  each_child i [] [] h f = refl
  each_child i [] (c ∷ cs) h f = absurd h
  each_child i (n ∷ names) [] h f = absurd h
  each_child i (n ∷ names) (c ∷ cs) h f =
      let a0 : Argument = record { position = i; symbol = n } in
      let first : F a0 ≡ c = f a0 (or_left _ _ (same-refl a0)) c (rw (same-refl a0) refl) in
      let rest = each_child (i + 1) names cs h.1
      (λ a s d e. f a (or_right (same a a0) _ s) d (rw (same-before i n a (stands_position (i + 1) names a s)) e)) in
      rw (first, rest) refl

  each_argument : (o : Production) (cs : List Tree) → AreDerived D (Some o) cs →
      ((a : Argument) → Stands (arguments o) a → (c : Tree) → part (Some o) cs a ≡ Some c → F a ≡ c) →
      map F (arguments o) ≡ cs
  each_argument (Leaf t) cs h f = sym h
  each_argument (Node op names) cs h f = each_child 0 names cs h f

-- a slot's tree is the one that it was given
abbrev pub Kept : Held → Tree → Tree → Type 0
Kept h t u = (s : Tree) → h.tree ≡ Some s → t ≡ s

module _ (rules : Rules)
    (arities : (n k : ℕ) (p : Production) → production_at rules n k ≡ Some p → (op : _) (names : List ℕ) →
    p ≡ Node op names →
    0 < length names)
    (v : ℕ → Bool) where
  slot_kept : (below x : ℕ) (h : Held) (ts : List Tree) → Good rules arities v below h →
      Agrees v x (slot_bits h.tree (offered rules below h.symbol)) →
      AllThree Kept
      (map
      (λ a. record {
        symbol = a.symbol;
        by = asks a x (offered rules below h.symbol);
        tree = child_at rules h.symbol h.tree a;
      })
      (shared rules below h.symbol))
      ts ts →
      (s : Tree) → h.tree ≡ Some s →
      tree_by rules h.symbol (shared rules below h.symbol) ts (picked v x None (offered rules below h.symbol)) ≡ s
  slot_kept below x h ts g ag children s e =
      let n = h.symbol in
      let ps = offered rules below n in
      let ks = shared rules below n in
      let der = g.derives s e in
      let mine : Agrees v x (slot_bits (Some s) ps) = rw e at ag in
      let r = picked_chosen v x None ps (own_chosen rules arities v below n x s der mine) in
      let p = r.0 in
      let is = chosen_of v (IsOffered rules below n) x ps p (are_offered rules n below) r.2 in
      let number : production_of s ≡ p.number = eqb-true _ _ (chosen-is_of v (Some s) x ps p mine r.2) in
      let at : production_at rules n (production_of s) ≡ Some p.production = rw number is.at in
      let der_at : AreDerived (Derives rules below) (Some p.production) (children_of s) = rw at at der in
      let f =
      λ (a : Argument).
      let q : Held = record { symbol = a.symbol; by = asks a x ps; tree = child_at rules n h.tree a } in q in
      let same_children : map (at_argument (no_tree rules n) ks ts) (arguments p.production) ≡ children_of s =
      each_argument (Derives rules below) (at_argument (no_tree rules n) ks ts) p.production (children_of s) der_at
      (λ a st c is_c. found Kept f (no_tree rules n) (no_tree rules n) ks ts ts a children
      (stands_in ks (arguments p.production) a is.inside st) c
      (ap (λ (t : Option Tree). child_at rules n t a) e
      ∙ ap (λ (o : Option Production). part o (children_of s) a) at ∙ is_c)) in
      rw r.1 (rw (same_children, ← number) (tree-out s))

  level_kept : (below x : ℕ) (hs : List Held) (ts : List Tree) → AllByRecursion (Good rules arities v below) hs →
      Agrees v x (level_bits rules below hs) →
      AllThree Kept (next_held rules below x hs) ts ts →
      AllThree Kept hs (level_trees rules v below x (map (λ h. h.symbol) hs) ts)
      (level_trees rules v below x (map (λ h. h.symbol) hs) ts)
  level_kept below x [] ts g ag k = tt
  level_kept below x (h ∷ hs) ts g ag k =
      let ps = offered rules below h.symbol in
      let ks = shared rules below h.symbol in
      let f =
      λ (a : Argument).
      let q : Held = record { symbol = a.symbol; by = asks a x ps; tree = child_at rules h.symbol h.tree a } in
      q in
      let rest = next_held rules below (x + width rules below h.symbol) hs in (
        slot_kept below x h _ g.0 (here rules arities v below x h _ ag) (front Kept f ks rest ts ts k),
        level_kept below (x + width rules below h.symbol) hs _ g.1 (later rules arities v below x h _ ag)
            (behind Kept f ks rest ts ts k),
      )

  last_level : (x : ℕ) (hs : List Held) → AllThree Kept (next_held rules zero x hs) [] []
  last_level x [] = tt
  last_level x (h ∷ hs) = last_level (x + width rules zero h.symbol) hs

  -- the slots that are held on the next level are those of the grammar
  pub names-next : (below x : ℕ) (hs : List Held) →
      map (λ (h : Held). h.symbol) (next_held rules below x hs) ≡ next_level rules below (map (λ h. h.symbol) hs)
  names-next below x hs =
      sym (map-map (λ (r : Asked). r.symbol) asked (next_held rules below x hs))
      ∙ ap (λ (ss : List Asked). symbols ss) (sym (next-asked rules arities v below x hs))
      ∙ symbols-next rules below x (map asked hs)
      ∙ ap (next_level rules below) (map-map (λ (r : Asked). r.symbol) asked hs)

  -- trees are chosen again by the truth values of their own productions
  pub trees_kept : (below x : ℕ) (hs : List Held) → AllByRecursion (Good rules arities v below) hs →
      Agrees v x (bits rules below x hs) →
      AllThree Kept hs (trees rules v below x (map (λ h. h.symbol) hs)) (trees rules v below x (map (λ h. h.symbol) hs))
  unfolding trees bits
  trees_kept zero x hs g ag = level_kept zero x hs [] g ag (last_level x hs)
  trees_kept (suc below) x hs g ag =
      let parts =
      agrees-parts v x (level_bits rules (suc below) hs)
      (bits rules below (x + length (level_bits rules (suc below) hs)) (next_held rules (suc below) x hs)) ag in
      let more =
      trees_kept below (x + length (level_bits rules (suc below) hs)) (next_held rules (suc below) x hs)
      (good_next rules arities v below x hs g parts.0) parts.1 in
      level_kept (suc below) x hs _ g parts.0
      (rw (names-next (suc below) x hs, length-level_bits rules arities v (suc below) hs) at more)
