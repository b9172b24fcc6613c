-- Where the clauses hold, the chosen trees derive.
use Rattle.std.proofs.Common.{◌≡◌, ℕ, zero, suc, ◌+◌, Bool, true, false, List, [], ◌∷◌, ◌++◌, ◌||◌, Option, None, Some}
use Rattle.std.proofs.Common.{map, refl, sym, ◌∙◌, subst}
use Rattle.std.specs.List.{AllByRecursion, AllZip}
use Rattle.std.proofs.lemmas.List.{map-append}
use Rattle.std.proofs.lemmas.Simd.{map-map}
use Rattle.std.proofs.lemmas.Bool.{and_parts}
use Rattle.std.proofs.lemmas.List.Folds.{list_any-append}
use Rattle.am_lit.specs.Truth.{literal_value, clause_value}
use Rattle.am_tree.specs.declared.grammar.Production.{Production}
use Rattle.am_tree.specs.declared.grammar.Production.TheVariants.{Leaf, Node}
use Rattle.am_tree.specs.declared.tree.Tree.{Tree}
use Rattle.am_tree.specs.Trees.{Rules, AreDerived, Derives}
use Rattle.am_tree.specs.declared.slots.Argument.{Argument}
use Rattle.am_tree.specs.Slots.{Numbered, offered, positioned, arguments, shared, next_level, at_argument}
use Rattle.am_tree.proofs.Laws.{Derives-tree, IsOffered, Stands, are_offered, stands_each}
use Rattle.am_slot.specs.Selectors.{width, widths, selectors}
use Rattle.am_slot.specs.Decoded.{picked, no_tree, tree_by, level_trees, trees}
use Rattle.am_slot.specs.declared.clauses.Asked.{Asked}
use Rattle.am_slot.specs.Clauses.{asks, pairs, children, slot_clauses, level_clauses, next_asked, symbols, clauses_from}
use Rattle.am_slot.proofs.Rows.{AllThree, front, behind, found}
use Rattle.am_slot.proofs.Picks.{AllTrue, true-front, true-after, Demanded, picked_chosen, chosen_of, asks_chosen}

-- the next level's nonterminals
pub symbols-next : (rules : Rules) (below x : ℕ) (ss : List Asked) →
    symbols (next_asked rules below x ss) ≡ next_level rules below (symbols ss)
symbols-next rules below x [] = refl
symbols-next rules below x (s ∷ ss) =
    let ps = offered rules below s.symbol in
    let ks = shared rules below s.symbol in
    map-append (λ (r : Asked). r.symbol) (children x ps ks) (next_asked rules below (x + width rules below s.symbol) ss)
    ∙ rw (
      map-map (λ (r : Asked). r.symbol)
          (λ (a : Argument). let r : Asked = record { symbol = a.symbol; by = asks a x ps } in r) ks,
      symbols-next rules below (x + width rules below s.symbol) ss,
    )
    refl

module _ (rules : Rules) (v : ℕ → Bool) where
  -- a slot that is asked for has a tree that derives
  abbrev pub Derived : ℕ → Asked → Tree → Tree → Type 0
  Derived depth s t u = Demanded v s.by → Derives rules depth s.symbol t

  -- where a slot is asked for, one of its selectors is true
  own_true : (own : List ℕ) (by : List (List ℕ)) → AllTrue v (map (λ a. a ++ own) by) → Demanded v by →
      clause_value v own ≡ true
  own_true own [] h d = cc
  own_true own (a ∷ by) h d = go (clause_value v a) refl (own_true own by (and_parts _ _ h).1)
    where
      go : (b : Bool) → clause_value v a ≡ b → (Demanded v by → clause_value v own ≡ true) → clause_value v own ≡ true
      go true e more = more (rw e at d)
      go false e more =
          let whole : (clause_value v a || clause_value v own) ≡ true =
          sym (list_any-append (literal_value v) a own) ∙ (and_parts _ _ h).0 in
          rw e at whole

  asked : ℕ → List Numbered → Argument → Asked
  asked x ps a = record { symbol = a.symbol; by = asks a x ps }

  each_derives : (depth n : ℕ) (x : ℕ) (ps : List Numbered) (ks : List Argument) (ts : List Tree) →
      AllThree (Derived depth) (map (λ a. record { symbol = a.symbol; by = asks a x ps }) ks) ts ts →
      (i : ℕ) (names : List ℕ) → AllByRecursion (Stands ks) (positioned i names) →
      AllByRecursion (λ a. Demanded v (asks a x ps)) (positioned i names) →
      AllZip (Derives rules depth) names (map (at_argument (no_tree rules n) ks ts) (positioned i names))
  each_derives depth n x ps ks ts h i [] s d = tt
  each_derives depth n x ps ks ts h i (name ∷ names) s d = (
    found (Derived depth) (λ a. record { symbol = a.symbol; by = asks a x ps }) (no_tree rules n) (no_tree rules n) ks
        ts ts (record { position = i; symbol = name }) h s.0 d.0,
    each_derives depth n x ps ks ts h (i + 1) names s.1 d.1,
  )

  production_derives : (depth n : ℕ) (x : ℕ) (ps : List Numbered) (ks : List Argument) (ts : List Tree) →
      AllThree (Derived depth) (map (λ a. record { symbol = a.symbol; by = asks a x ps }) ks) ts ts →
      (q : Production) → AllByRecursion (Stands ks) (arguments q) →
      AllByRecursion (λ a. Demanded v (asks a x ps)) (arguments q) →
      AreDerived (Derives rules depth) (Some q) (map (at_argument (no_tree rules n) ks ts) (arguments q))
  production_derives depth n x ps ks ts h (Leaf t) s d = refl
  production_derives depth n x ps ks ts h (Node op names) s d = each_derives depth n x ps ks ts h 0 names s d

  slot_derives : (below n : ℕ) (x : ℕ) (ts : List Tree) →
      AllThree (Derived below) (children x (offered rules below n) (shared rules below n)) ts ts →
      clause_value v (selectors x (offered rules below n)) ≡ true →
      Derives rules (suc below) n (tree_by rules n (shared rules below n) ts (picked v x None (offered rules below n)))
  slot_derives below n x ts h some =
      let ps = offered rules below n in
      let r = picked_chosen v x None ps some in
      let q = r.0 in
      let is = chosen_of v (IsOffered rules below n) x ps q (are_offered rules n below) r.2 in
      let asked =
      stands_each (λ a. Demanded v (asks a x ps)) (arguments q.production) (λ a s. asks_chosen v a x ps q r.2 s) in
      rw (r.1) (Derives-tree rules below n q.number _
      (subst
      (λ (o : Option Production). AreDerived (Derives rules below) o
      (map (at_argument (no_tree rules n) (shared rules below n) ts) (arguments q.production)))
      (sym is.at)
      (production_derives below n x ps (shared rules below n) ts h q.production is.inside asked)))

  level_derives : (below : ℕ) (ss : List Asked) (x : ℕ) (ts : List Tree) →
      AllThree (Derived below) (next_asked rules below x ss) ts ts → AllTrue v (level_clauses rules below x ss) →
      AllThree (Derived (suc below)) ss (level_trees rules v below x (symbols ss) ts)
      (level_trees rules v below x (symbols ss) ts)
  level_derives below [] x ts h c = tt
  level_derives below (s ∷ ss) x ts h c =
      let ps = offered rules below s.symbol in
      let ks = shared rules below s.symbol in
      let own = selectors x ps in
      let f = λ (a : Argument). let r : Asked = record { symbol = a.symbol; by = asks a x ps } in r in
      let here = true-front v (slot_clauses s.by own) _ c in (
        (λ d. slot_derives below s.symbol x _ (front (Derived below) f ks _ ts ts h)
            (own_true own s.by (true-front v (map (λ a. a ++ own) s.by) (pairs own) here) d)),
        level_derives below ss (x + width rules below s.symbol) _ (behind (Derived below) f ks _ ts ts h)
            (true-after v (slot_clauses s.by own) _ c),
      )

  last_level : (ss : List Asked) (x : ℕ) → AllThree (Derived zero) (next_asked rules zero x ss) [] []
  last_level [] x = tt
  last_level (s ∷ ss) x = last_level ss (x + width rules zero s.symbol)

  -- where the clauses are true, each slot that is asked for has a tree that derives
  pub trees_derive : (below : ℕ) (ss : List Asked) (x : ℕ) → AllTrue v (clauses_from rules below x ss) →
      AllThree (Derived (suc below)) ss (trees rules v below x (symbols ss)) (trees rules v below x (symbols ss))
  unfolding clauses_from trees
  trees_derive zero ss x c = level_derives zero ss x [] (last_level ss x) c
  trees_derive (suc below) ss x c =
      let here = true-front v (level_clauses rules (suc below) x ss) _ c in
      let more =
      trees_derive below (next_asked rules (suc below) x ss) (x + widths rules (suc below) (symbols ss))
      (true-after v (level_clauses rules (suc below) x ss) _ c) in
      level_derives (suc below) ss x _ (rw (symbols-next rules (suc below) x ss) at more) here
