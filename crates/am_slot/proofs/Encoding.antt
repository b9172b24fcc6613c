-- The truth values that choose trees which derive make the clauses true.
use Rattle.std.proofs.Common.{◌≡◌, ℕ, zero, suc, ◌+◌, ◌<◌, eqb, Bool, true, false, not, cond, List, [], ◌∷◌, ◌++◌, ◌||◌}
use Rattle.std.proofs.Common.{Option, None, Some, map, length, refl, sym, ◌∙◌, ap, subst, arith}
use Rattle.std.specs.List.{AllByRecursion, AllZip, list_any}
use Rattle.std.proofs.lemmas.Bool.{or_left, or_right, and_from}
use Rattle.std.proofs.lemmas.List.{map-append, length-map, length-append}
use Rattle.std.proofs.lemmas.List.Folds.{list_all-append, list_any-append}
use Rattle.std.proofs.lemmas.List.Sums.{sum_by-cons}
use Rattle.std.proofs.lemmas.Simd.{map-map}
use Rattle.am_lit.specs.Truth.{literal_value, clause_value}
use Rattle.am_tree.specs.declared.grammar.Production.{Production}
use Rattle.am_tree.specs.declared.grammar.Production.TheVariants.{Leaf, Node}
use Rattle.am_tree.specs.declared.tree.Tree.{Tree}
use Rattle.am_tree.specs.Trees.{Rules, production_at, production_of, children_of, AreDerived, Derives}
use Rattle.am_tree.specs.declared.slots.Argument.{Argument}
use Rattle.am_tree.specs.Slots.{Numbered, same, offered, positioned, arguments, shared, at_argument}
use Rattle.am_tree.proofs.Laws.{IsOffered, Stands, are_offered, same-true, offered_rise, offered_has}
use Rattle.am_slot.specs.Selectors.{width, widths, selectors}
use Rattle.am_slot.specs.declared.clauses.Asked.{Asked}
use Rattle.am_slot.specs.Clauses.{asks, pairs, slot_clauses, level_clauses, next_asked, symbols, clauses_from}
use Rattle.am_slot.proofs.Held.{Held, asked, is_of, part, child_at, slot_bits, level_bits, next_held, bits}
use Rattle.am_slot.proofs.Picks.{AllTrue, Demanded, chosen_of}
use Rattle.am_slot.proofs.Agreeing.{Agrees, agrees-parts, own-value, chosen-is_of, is_of-some, chosen_asks, pairs_true}

-- children at their arguments

module _ (D : ℕ → Tree → Type 0) where
  pub child_found : (i : ℕ) (names : List ℕ) (cs : List Tree) (a : Argument) → AllZip D names cs →
      list_any (same a) (positioned i names) ≡ true →
      (c : Tree) × (at_argument None (positioned i names) (map (λ t. Some t) cs) a ≡ Some c)
  child_found i [] cs a h s = cc
  child_found i (n ∷ names) [] a h s = absurd h
  child_found i (n ∷ names) (c ∷ cs) a h s =
      go (same a (record { position = i; symbol = n })) refl (child_found (i + 1) names cs a h.1)
    where
      go : (b : Bool) → same a (record { position = i; symbol = n }) ≡ b →
          (list_any (same a) (positioned (i + 1) names) ≡ true →
          (c : Tree) × (at_argument None (positioned (i + 1) names) (map (λ t. Some t) cs) a ≡ Some c)) →
          (d : Tree) × (cond b (Some c) (at_argument None (positioned (i + 1) names) (map (λ t. Some t) cs) a) ≡ Some d)
      go true e more = (c, refl)
      go false e more = more (rw e at s)

  pub child_derives : (i : ℕ) (names : List ℕ) (cs : List Tree) (a : Argument) (c : Tree) → AllZip D names cs →
      at_argument None (positioned i names) (map (λ t. Some t) cs) a ≡ Some c → D a.symbol c
  child_derives i [] cs a c h e = cc
  child_derives i (n ∷ names) [] a c h e = cc
  child_derives i (n ∷ names) (d ∷ cs) a c h e =
      go (same a (record { position = i; symbol = n })) refl e (child_derives (i + 1) names cs a c h.1)
    where
      go : (b : Bool) → same a (record { position = i; symbol = n }) ≡ b →
          cond b (Some d) (at_argument None (positioned (i + 1) names) (map (λ t. Some t) cs) a) ≡ Some c →
          (at_argument None (positioned (i + 1) names) (map (λ t. Some t) cs) a ≡ Some c → D a.symbol c) → D a.symbol c
      go true f e more =
          let is : d ≡ c = cc in
          let named : a ≡ record { position = i; symbol = n } = same-true a (record { position = i; symbol = n }) f in
          subst (λ (x : Argument). D x.symbol c) (sym named) (rw is at h.0)
      go false f e more = more e

module _ (rules : Rules)
    (arities : (n k : ℕ) (p : Production) → production_at rules n k ≡ Some p → (op : _) (names : List ℕ) →
    p ≡ Node op names →
    0 < length names)
    (v : ℕ → Bool) where
  -- a tree that derives has one of its slot's productions
  has_production : (below n : ℕ) (t : Tree) (o : Option Production) → production_at rules n (production_of t) ≡ o →
      AreDerived (Derives rules below) o (children_of t) →
      list_any (λ p. eqb (production_of t) p.number) (offered rules below n) ≡ true
  has_production below n t None e h = absurd h
  has_production zero n t (Some (Leaf s)) e h = offered_has rules zero n (production_of t) (Leaf s) e refl
  has_production (suc below) n t (Some (Leaf s)) e h = offered_has rules (suc below) n (production_of t) (Leaf s) e refl
  has_production zero n t (Some (Node op names)) e h =
      go names (children_of t) h (arities n (production_of t) (Node op names) e op names refl)
    where
      go : (names : List ℕ) (cs : List Tree) → AllZip (λ m s. ⊥) names cs → 0 < length names →
          list_any (λ p. eqb (production_of t) p.number) (offered rules zero n) ≡ true
      go [] cs h l = absurd (omega (arith, l))
      go (m ∷ names) [] h l = absurd h
      go (m ∷ names) (c ∷ cs) h l = absurd h.0
  has_production (suc below) n t (Some (Node op names)) e h =
      offered_has rules (suc below) n (production_of t) (Node op names) e refl

  -- a slot that is asked for has a tree, and that derives
  pub record Good (below : ℕ) (h : Held) : Type 0 where
    pub wanted : Demanded v h.by → (t : Tree) × (h.tree ≡ Some t)
    pub derives : (t : Tree) → h.tree ≡ Some t → Derives rules (suc below) h.symbol t

  -- one selector of a slot is true where the slot's tree derives
  pub own_chosen : (below n x : ℕ) (t : Tree) → Derives rules (suc below) n t →
      Agrees v x (slot_bits (Some t) (offered rules below n)) →
      clause_value v (selectors x (offered rules below n)) ≡ true
  own_chosen below n x t h a =
      own-value v (Some t) x (offered rules below n) a
      ∙ has_production below n t (production_at rules n (production_of t)) refl h

  asking_true : (own : List ℕ) (by : List (List ℕ)) → (Demanded v by → clause_value v own ≡ true) →
      AllTrue v (map (λ a. a ++ own) by)
  asking_true own [] f = refl
  asking_true own (a ∷ by) f =
      and_from _ _ (list_any-append (literal_value v) a own ∙ go (clause_value v a) refl)
      (asking_true own by (λ d. f (or_right (not (clause_value v a)) _ d)))
    where
      go : (b : Bool) → clause_value v a ≡ b → (clause_value v a || clause_value v own) ≡ true
      go true e = or_left _ _ e
      go false e = or_right (clause_value v a) _ (f (rw e refl))

  slot_true : (below x : ℕ) (h : Held) → Good below h → Agrees v x (slot_bits h.tree (offered rules below h.symbol)) →
      AllTrue v (slot_clauses h.by (selectors x (offered rules below h.symbol)))
  slot_true below x h g a =
      let own = selectors x (offered rules below h.symbol) in
      list_all-append (clause_value v) (map (λ r. r ++ own) h.by) (pairs own)
      ∙ and_from _ _
      (asking_true own h.by
      (λ d. let w = g.wanted d in own_chosen below h.symbol x w.0 (g.derives w.0 w.1) (rw w.1 at a)))
      (pairs_true v h.tree 0 x (offered rules below h.symbol) a (offered_rise rules below h.symbol))

  -- the next level

  part_found : (below : ℕ) (o : Production) (cs : List Tree) (a : Argument) →
      AreDerived (Derives rules below) (Some o) cs → Stands (arguments o) a →
      (c : Tree) × (part (Some o) cs a ≡ Some c)
  part_found below (Leaf t) cs a h s = cc
  part_found below (Node op names) cs a h s = child_found (Derives rules below) 0 names cs a h s

  part_derives : (below : ℕ) (o : Option Production) (cs : List Tree) (a : Argument) (c : Tree) →
      AreDerived (Derives rules below) o cs → part o cs a ≡ Some c →
      Derives rules below a.symbol c
  part_derives below None cs a c h e = absurd h
  part_derives below (Some (Leaf t)) cs a c h e = cc
  part_derives below (Some (Node op names)) cs a c h e = child_derives (Derives rules below) 0 names cs a c h e

  child-some : (below n : ℕ) (t : Option Tree) (a : Argument) (c : Tree) →
      ((s : Tree) → t ≡ Some s → Derives rules (suc below) n s) → child_at rules n t a ≡ Some c →
      Derives rules below a.symbol c
  child-some below n None a c h e = cc
  child-some below n (Some t) a c h e =
      part_derives below (production_at rules n (production_of t)) (children_of t) a c (h t refl) e

  good_child : (below x : ℕ) (h : Held) → Good (suc below) h →
      Agrees v x (slot_bits h.tree (offered rules (suc below) h.symbol)) → (a : Argument) →
      Good below
      (record {
        symbol = a.symbol;
        by = asks a x (offered rules (suc below) h.symbol);
        tree = child_at rules h.symbol h.tree a;
      })
  good_child below x h g ag a =
      let ps = offered rules (suc below) h.symbol in
      record {
        wanted = λ d.
            let r = chosen_asks v a x ps d in
            let is =
            chosen_of v (IsOffered rules (suc below) h.symbol) x ps r.0
            (are_offered rules h.symbol (suc below)) r.1 in
            let some = is_of-some v h.tree r.0.number (chosen-is_of v h.tree x ps r.0 ag r.1) in
            let at : production_at rules h.symbol (production_of some.0) ≡ Some r.0.production = rw (some.2) is.at in
            let der : AreDerived (Derives rules (suc below)) (Some r.0.production) (children_of some.0) =
            rw at at (g.derives some.0 some.1) in
            let c = part_found (suc below) r.0.production (children_of some.0) a der r.2 in (
              c.0,
              ap (λ (t : Option Tree). child_at rules h.symbol t a) some.1
                  ∙ ap (λ (o : Option Production). part o (children_of some.0) a) at ∙ c.1,
            );
        derives = λ c e. child-some (suc below) h.symbol h.tree a c g.derives e;
      }

  good_children : (below x : ℕ) (h : Held) → Good (suc below) h →
      Agrees v x (slot_bits h.tree (offered rules (suc below) h.symbol)) → (ks : List Argument) (hs : List Held) →
      AllByRecursion (Good below) hs →
      AllByRecursion (Good below)
      (map
      (λ a. record {
        symbol = a.symbol;
        by = asks a x (offered rules (suc below) h.symbol);
        tree = child_at rules h.symbol h.tree a;
      })
      ks
      ++ hs)
  good_children below x h g ag [] hs more = more
  good_children below x h g ag (k ∷ ks) hs more = (good_child below x h g ag k, good_children below x h g ag ks hs more)

  length-slot_bits : (t : Option Tree) (ps : List Numbered) → length (slot_bits t ps) ≡ length ps
  length-slot_bits t ps = length-map ps (λ p. is_of t p.number)

  -- the rest of a level agrees
  pub later : (below x : ℕ) (h : Held) (bs : List Bool) →
      Agrees v x (slot_bits h.tree (offered rules below h.symbol) ++ bs) →
      Agrees v (x + width rules below h.symbol) bs
  later below x h bs a =
      rw (length-slot_bits h.tree (offered rules below h.symbol)) at
      ((agrees-parts v x (slot_bits h.tree (offered rules below h.symbol)) bs a).1)

  -- the first slot of a level agrees
  pub here : (below x : ℕ) (h : Held) (bs : List Bool) →
      Agrees v x (slot_bits h.tree (offered rules below h.symbol) ++ bs) →
      Agrees v x (slot_bits h.tree (offered rules below h.symbol))
  here below x h bs a = (agrees-parts v x (slot_bits h.tree (offered rules below h.symbol)) bs a).0

  -- what a good level asks for on the next one is there, and derives
  pub good_next : (below x : ℕ) (hs : List Held) → AllByRecursion (Good (suc below)) hs →
      Agrees v x (level_bits rules (suc below) hs) →
      AllByRecursion (Good below) (next_held rules (suc below) x hs)
  good_next below x [] g a = tt
  good_next below x (h ∷ hs) g a =
      good_children below x h g.0 (here (suc below) x h _ a) (shared rules (suc below) h.symbol)
      (next_held rules (suc below) (x + width rules (suc below) h.symbol) hs)
      (good_next below (x + width rules (suc below) h.symbol) hs g.1 (later (suc below) x h _ a))

  level_true : (below x : ℕ) (hs : List Held) → AllByRecursion (Good below) hs →
      Agrees v x (level_bits rules below hs) →
      AllTrue v (level_clauses rules below x (map asked hs))
  level_true below x [] g a = refl
  level_true below x (h ∷ hs) g a =
      list_all-append (clause_value v) (slot_clauses h.by (selectors x (offered rules below h.symbol)))
      (level_clauses rules below (x + width rules below h.symbol) (map asked hs))
      ∙ and_from _ _ (slot_true below x h g.0 (here below x h _ a))
      (level_true below (x + width rules below h.symbol) hs g.1 (later below x h _ a))

  -- the slots that the next level asks for are those that it holds
  pub next-asked : (below x : ℕ) (hs : List Held) →
      next_asked rules below x (map asked hs) ≡ map asked (next_held rules below x hs)
  next-asked below x [] = refl
  next-asked below x (h ∷ hs) =
      let ps = offered rules below h.symbol in
      let ks = shared rules below h.symbol in
      let f =
      λ (a : Argument).
      let r : Held = record { symbol = a.symbol; by = asks a x ps; tree = child_at rules h.symbol h.tree a } in
      r in
      rw (
        map-append asked (map f ks) (next_held rules below (x + width rules below h.symbol) hs),
        map-map asked f ks,
        next-asked below (x + width rules below h.symbol) hs,
      )
      refl

  -- a level has one truth value for each of its selectors
  pub length-level_bits : (below : ℕ) (hs : List Held) →
      length (level_bits rules below hs) ≡ widths rules below (map (λ h. h.symbol) hs)
  length-level_bits below [] = refl
  length-level_bits below (h ∷ hs) =
      length-append (slot_bits h.tree (offered rules below h.symbol)) (level_bits rules below hs)
      ∙ rw (length-slot_bits h.tree (offered rules below h.symbol), length-level_bits below hs)
      (sym (sum_by-cons (width rules below) h.symbol (map (λ h. h.symbol) hs)))

  -- where the trees that are asked for derive, their truth values make all clauses true
  pub clauses_true : (below x : ℕ) (hs : List Held) → AllByRecursion (Good below) hs →
      Agrees v x (bits rules below x hs) →
      AllTrue v (clauses_from rules below x (map asked hs))
  unfolding clauses_from bits
  clauses_true zero x hs g a = level_true zero x hs g a
  clauses_true (suc below) x hs g a =
      let parts =
      agrees-parts v x (level_bits rules (suc below) hs)
      (bits rules below (x + length (level_bits rules (suc below) hs)) (next_held rules (suc below) x hs)) a in
      let more =
      clauses_true below (x + length (level_bits rules (suc below) hs)) (next_held rules (suc below) x hs)
      (good_next below x hs g parts.0) parts.1 in
      let names : symbols (map asked hs) ≡ map (λ h. h.symbol) hs = map-map (λ (r : Asked). r.symbol) asked hs in
      list_all-append (clause_value v) (level_clauses rules (suc below) x (map asked hs)) _
      ∙ and_from _ _ (level_true (suc below) x hs g parts.0)
      (rw (next-asked (suc below) x hs, names, ← length-level_bits (suc below) hs) more)
