-- What the slots of a layout spell derives.
use Rattle.std.proofs.Common.{◌≡◌, ℕ, zero, suc, ◌+◌, ◌-◌, ◌≤◌, List, [], ◌∷◌, ◌++◌, length, map, refl, sym, ◌∙◌, ap}
use Rattle.std.proofs.Common.{subst, arith}
use Rattle.std.specs.Prelude.{Option, Some, slice_get}
use Rattle.std.specs.List.{AllByRecursion, AllZip}
use Rattle.std.proofs.lemmas.Option.{same_Some}
use Rattle.am_tree.specs.declared.grammar.Production.{Production}
use Rattle.am_tree.specs.declared.grammar.Production.TheVariants.{Leaf, Node}
use Rattle.am_tree.specs.declared.slots.Argument.{Argument}
use Rattle.am_tree.specs.declared.slots.Slot.{Slot}
use Rattle.am_tree.specs.declared.tree.Tree.{Tree}
use Rattle.am_tree.specs.Laid.{AreSpelled, HasProduction, Spells, SpellsBy}
use Rattle.am_tree.specs.Slots.{arguments, at_argument, counted, layout_of, level_slots, next_level, offered}
use Rattle.am_tree.specs.Slots.{positioned}
use Rattle.am_tree.specs.Slots.{shared, slot_at, slots_from}
use Rattle.am_tree.specs.Trees.{AreDerived, AreTrees, Derives, Rules, children_of, production_at, production_of}
use Rattle.am_tree.proofs.Inside.{length-level}
use Rattle.am_tree.proofs.Levels.{IsProductionAt, before, child-at, has-offered, level-get, next-get}
use Rattle.am_tree.proofs.Offers.{IsOffered, Stands, are_offered}
use Rattle.am_tree.proofs.Places.{From, each-get, from-before, from-behind, from-start, zip-from}

-- children that are spelled at the arguments of a node derive from its nonterminals
children-derive : (S : ℕ → Tree → Type 0) (D : ℕ → Tree → Type 0) (ks : List Argument) (f : Argument → ℕ) →
    ((a : Argument) (u : Tree) → Stands ks a → S (f a) u → D a.symbol u) →
    (i : ℕ) (names : List ℕ) (us : List Tree) → AllByRecursion (Stands ks) (positioned i names) →
    AllZip S (map f (positioned i names)) us → AllZip D names us
children-derive S D ks f h i [] [] inside all = tt
children-derive S D ks f h i [] (u ∷ us) inside all = absurd all
children-derive S D ks f h i (n ∷ names) [] inside all = absurd all
children-derive S D ks f h i (n ∷ names) (u ∷ us) inside all = (
  h (record { position = i; symbol = n }) u inside.0 all.0,
  children-derive S D ks f h (i + 1) names us inside.1 all.1,
)

no-items : {A B : Type 0} (S : A → B → Type 0) (ys : List B) → AllZip S [] ys → ys ≡ []
no-items S [] h = refl
no-items S (y ∷ ys) h = absurd h

module _ (rules : Rules) (all : List Slot) (choice : ℕ → ℕ) where
  -- the children of the slot derive where they are spelled, with a depth
  abbrev ChildrenDerive : ℕ → ℕ → ℕ → Type 0
  ChildrenDerive below child n = (k : ℕ) (a : Argument) (height : ℕ) (u : Tree) →
      slice_get (shared rules below n) k ≡ Some a → Spells all choice height (child + k) u →
      Derives rules below a.symbol u

  production-derives : (below child n height : ℕ) (p : Production) (us : List Tree) → ChildrenDerive below child n →
      AllByRecursion (Stands (shared rules below n)) (arguments p) →
      AllZip (Spells all choice height)
      (map (at_argument 0 (shared rules below n) (counted child (shared rules below n))) (arguments p)) us →
      AreDerived (Derives rules below) (Some p) us
  production-derives below child n height (Leaf term) us h inside spells = no-items (Spells all choice height) us spells
  production-derives below child n height (Node op names) us h inside spells =
      let ks = shared rules below n in
      children-derive (Spells all choice height) (Derives rules below) ks (at_argument 0 ks (counted child ks))
      (λ a u stands spell.
      let at = child-at ks child a stands in
      h at.place a height u at.here (subst (λ i. Spells all choice height i u) at.number spell))
      0 names us inside spells

  slot-derives : (below level child n i height : ℕ) (t : Tree) →
      slice_get all i ≡ Some (slot_at rules below level child n) → ChildrenDerive below child n →
      Spells all choice height i t → Derives rules (suc below) n t
  slot-derives below level child n i zero t at h spells = absurd spells
  slot-derives below level child n i (suc height) t at h spells =
      let s : SpellsBy all choice (Spells all choice height) i t = spells in
      let slot : s.slot ≡ slot_at rules below level child n = same_Some _ _ (sym s.stands ∙ at) in
      let has : HasProduction (slot_at rules below level child n) (choice i) s.arguments =
      subst (λ (x : Slot). HasProduction x (choice i) s.arguments) slot s.has in
      let own = has-offered rules below level child n (choice i) s.arguments has in
      let is : IsOffered rules below n own.own =
      each-get (IsOffered rules below n) (offered rules below n) own.place own.own (are_offered rules n below)
      own.offers in
      let found : production_at rules n (production_of t) ≡ Some own.own.production =
      ap (production_at rules n) (sym s.chosen ∙ sym own.numbered) ∙ is.at in
      subst (λ (o : Option Production). AreDerived (Derives rules below) o (children_of t)) (sym found)
      (production-derives below child n height own.own.production (children_of t) h is.inside
      (subst (λ (row : List ℕ). AllZip (Spells all choice height) row (children_of t)) (sym own.rowed) s.children))

  -- a tree that is spelled from a slot of a level derives from its nonterminal
  pub spelled-derives : (below level first : ℕ) (ns : List ℕ) → From all first (slots_from rules below level first ns) →
      (j n height : ℕ) (t : Tree) → slice_get ns j ≡ Some n → Spells all choice height (first + j) t →
      Derives rules (suc below) n t
  unfolding slots_from
  spelled-derives zero level first ns from j n height t e spells =
      let child = first + length ns in
      slot-derives zero level (child + before rules zero ns j) n (first + j) height t
      (from j ∙ level-get rules zero level child ns j n e) (λ k a g u f s. cc) spells
  spelled-derives (suc below) level first ns from j n height t e spells =
      let child = first + length ns in
      let slots = level_slots rules (suc below) level child ns in
      let next = next_level rules (suc below) ns in
      let rest = slots_from rules below (level + 1) child next in
      let skipped : first + length slots ≡ child =
      ap (λ k. first + k) (length-level rules (suc below) level child ns) in
      let behind : From all child rest =
      subst (λ k. From all k rest) skipped (from-behind all first slots rest from) in
      slot-derives (suc below) level (child + before rules (suc below) ns j) n (first + j) height t
      (from-before all first slots rest j _ from (level-get rules (suc below) level child ns j n e))
      (λ k a g u f s.
      let number : child + before rules (suc below) ns j + k ≡ child + (before rules (suc below) ns j + k) =
      omega arith in
      spelled-derives below (level + 1) child next behind (before rules (suc below) ns j + k) a.symbol g u
      (next-get rules (suc below) ns j n k a e f) (subst (λ i. Spells all choice g i u) number s))
      spells

-- trees that are spelled derive from the starts
pub spelled-trees : (rules : Rules) (starts : List ℕ) (depth : ℕ) (ts : List Tree) → 1 ≤ depth →
    AreSpelled (layout_of rules starts depth) (length starts) ts → AreTrees rules starts depth ts
spelled-trees rules starts depth ts some s =
    let all = layout_of rules starts depth in
    let deep : suc (depth - 1) ≡ depth = omega (arith, some) in
    zip-from (Derives rules depth) starts ts (sym s.many)
    (λ m n t e f.
    let here : 0 + m ≡ m = omega arith in
    subst (λ d. Derives rules d n t) deep
    (spelled-derives rules all s.choice (depth - 1) 1 0 starts (from-start all) m n s.height t e
    (subst (λ i. Spells all s.choice s.height i t) (sym here) (s.each m t f))))
