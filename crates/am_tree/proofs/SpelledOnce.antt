-- A choice spells at most one tree from a slot.
use Rattle.std.proofs.Common.{◌≡◌, ℕ, zero, suc, ◌+◌, ◌-◌, List, [], ◌∷◌, ◌++◌, length, map, refl, sym, ◌∙◌, ap, subst}
use Rattle.std.specs.Prelude.{Some, slice_get}
use Rattle.std.specs.List.{AllByRecursion, AllZip}
use Rattle.std.proofs.lemmas.Option.{same_Some}
use Rattle.am_tree.specs.declared.grammar.Production.{Production}
use Rattle.am_tree.specs.declared.slots.Slot.{Slot}
use Rattle.am_tree.specs.declared.tree.Tree.{Tree}
use Rattle.am_tree.specs.Laid.{ChoicesSpellOne, HasProduction, Spells, SpellsBy}
use Rattle.am_tree.specs.Slots.{arguments, at_argument, counted, layout_of, level_slots, next_level, offered, shared}
use Rattle.am_tree.specs.Slots.{slot_at, slots_from}
use Rattle.am_tree.specs.Trees.{Rules, children_of, production_at, production_of, tree}
use Rattle.am_tree.proofs.Levels.{IsProductionAt, has-offered}
use Rattle.am_tree.proofs.Offers.{IsOffered, are_offered}
use Rattle.am_tree.proofs.Places.{each-append, each-get}
use Rattle.am_tree.proofs.Terms.{tree-out}

-- a slot of some nonterminal of the rules
record IsSlotOf (rules : Rules) (s : Slot) : Type 0 where
  pub below : ℕ
  pub level : ℕ
  pub child : ℕ
  pub symbol : ℕ
  pub is : s ≡ slot_at rules below level child symbol

level-slots : (rules : Rules) (below level child : ℕ) (ns : List ℕ) →
    AllByRecursion (IsSlotOf rules) (level_slots rules below level child ns)
level-slots rules below level child [] = tt
level-slots rules below level child (n ∷ ns) = (
  record { below = below; level = level; child = child; symbol = n; is = refl },
  level-slots rules below level (child + length (shared rules below n)) ns,
)

all-slots : (rules : Rules) (below level first : ℕ) (ns : List ℕ) →
    AllByRecursion (IsSlotOf rules) (slots_from rules below level first ns)
unfolding slots_from
all-slots rules zero level first ns = level-slots rules zero level (first + length ns) ns
all-slots rules (suc below) level first ns =
    each-append (IsSlotOf rules) (level_slots rules (suc below) level (first + length ns) ns)
    (slots_from rules below (level + 1) (first + length ns) (next_level rules (suc below) ns))
    (level-slots rules (suc below) level (first + length ns) ns)
    (all-slots rules below (level + 1) (first + length ns) (next_level rules (suc below) ns))

-- a slot has the slots at the arguments of its production from the production's number
same-arguments : (rules : Rules) (below child n p : ℕ) (one other : List ℕ) →
    IsProductionAt rules below child n p one → IsProductionAt rules below child n p other → one ≡ other
same-arguments rules below child n p one other a b =
    let at : (own : IsProductionAt rules below child n p one) →
    production_at rules n p ≡ Some own.own.production =
    λ own. ap (production_at rules n) (sym own.numbered)
    ∙ (each-get (IsOffered rules below n) (offered rules below n) own.place own.own (are_offered rules n below)
    own.offers).at in
    let also : (own : IsProductionAt rules below child n p other) →
    production_at rules n p ≡ Some own.own.production =
    λ own. ap (production_at rules n) (sym own.numbered)
    ∙ (each-get (IsOffered rules below n) (offered rules below n) own.place own.own (are_offered rules n below)
    own.offers).at in
    let production : a.own.production ≡ b.own.production = same_Some _ _ (sym (at a) ∙ also b) in
    let ks = shared rules below n in
    sym a.rowed ∙ ap (λ (q : Production). map (at_argument 0 ks (counted child ks)) (arguments q)) production ∙ b.rowed

same-has : (rules : Rules) (s : Slot) (p : ℕ) (one other : List ℕ) → IsSlotOf rules s → HasProduction s p one →
    HasProduction s p other → one ≡ other
same-has rules s p one other is a b =
    let slot = slot_at rules is.below is.level is.child is.symbol in
    let first : HasProduction slot p one = subst (λ (x : Slot). HasProduction x p one) is.is a in
    let second : HasProduction slot p other = subst (λ (x : Slot). HasProduction x p other) is.is b in
    same-arguments rules is.below is.child is.symbol p one other
    (has-offered rules is.below is.level is.child is.symbol p one first)
    (has-offered rules is.below is.level is.child is.symbol p other second)

module _ (rules : Rules) (all : List Slot) (are : AllByRecursion (IsSlotOf rules) all) (choice : ℕ → ℕ) where
  same-children : (h k : ℕ) →
      ((i : ℕ) (t u : Tree) → Spells all choice h i t → Spells all choice k i u → t ≡ u) →
      (row : List ℕ) (ts us : List Tree) → AllZip (Spells all choice h) row ts → AllZip (Spells all choice k) row us →
      ts ≡ us
  same-children h k one [] [] [] a b = refl
  same-children h k one [] [] (u ∷ us) a b = absurd b
  same-children h k one [] (t ∷ ts) us a b = absurd a
  same-children h k one (i ∷ row) [] us a b = absurd a
  same-children h k one (i ∷ row) (t ∷ ts) [] a b = absurd b
  same-children h k one (i ∷ row) (t ∷ ts) (u ∷ us) a b =
      ap (λ v. v ∷ ts) (one i t u a.0 b.0) ∙ ap (λ vs. u ∷ vs) (same-children h k one row ts us a.1 b.1)

  -- a slot spells one tree, whatever the heights
  spelled-once : (h k i : ℕ) (t u : Tree) → Spells all choice h i t → Spells all choice k i u → t ≡ u
  spelled-once zero k i t u a b = absurd a
  spelled-once (suc h) zero i t u a b = absurd b
  spelled-once (suc h) (suc k) i t u a b =
      let one : SpellsBy all choice (Spells all choice h) i t = a in
      let other : SpellsBy all choice (Spells all choice k) i u = b in
      let slot : one.slot ≡ other.slot = same_Some _ _ (sym one.stands ∙ other.stands) in
      let is : IsSlotOf rules other.slot = each-get (IsSlotOf rules) all i other.slot are other.stands in
      let has : HasProduction other.slot (choice i) one.arguments =
      subst (λ (x : Slot). HasProduction x (choice i) one.arguments) slot one.has in
      let row : one.arguments ≡ other.arguments =
      same-has rules other.slot (choice i) one.arguments other.arguments is has other.has in
      let children : children_of t ≡ children_of u =
      same-children h k (spelled-once h k) other.arguments (children_of t) (children_of u)
      (subst (λ (r : List ℕ). AllZip (Spells all choice h) r (children_of t)) row one.children) other.children in
      let production : production_of t ≡ production_of u = sym one.chosen ∙ other.chosen in
      sym (tree-out t) ∙ ap (λ n. tree n (children_of t)) production ∙ ap (tree (production_of u)) children
      ∙ tree-out u

-- a choice spells at most one tree from a slot of a layout
pub choices-spell-one : ChoicesSpellOne
choices-spell-one rules starts depth choice h k i t u a b =
    spelled-once rules (layout_of rules starts depth) (all-slots rules (depth - 1) 1 0 starts) choice h k i t u a b
