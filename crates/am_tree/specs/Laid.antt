-- The trees that the slots of a layout spell, where one production is chosen at each slot.
use Rattle.std.specs.Prelude.{ℕ, zero, suc, ◌≡◌, ◌↔◌, List, Some, length, slice_get}
use Rattle.std.specs.List.{AllZip}
use Rattle.am_tree.specs.declared.slots.Slot.{Slot}
use Rattle.am_tree.specs.declared.tree.Tree.{Tree}
use Rattle.am_tree.specs.Grammars.{IsGrammar}
use Rattle.am_tree.specs.Slots.{layout_of}
use Rattle.am_tree.specs.Trees.{AreTrees, Rules, children_of, production_of}

-- the slot has the production with this number, and at its arguments stand the slots with these numbers
pub record HasProduction (slot : Slot) (production : ℕ) (arguments : List ℕ) : Type 0 where
  pub place : ℕ
  pub has : slice_get slot.productions place ≡ Some production
  pub at : slice_get slot.children place ≡ Some arguments

-- the slot with a number has the chosen production, which is the tree's, and the slots at its arguments spell the
-- tree's children, as S says of each
pub record SpellsBy (slots : List Slot) (choice : ℕ → ℕ) (S : ℕ → Tree → Type 0) (i : ℕ) (t : Tree) : Type 0 where
  pub slot : Slot
  pub stands : slice_get slots i ≡ Some slot
  pub chosen : choice i ≡ production_of t
  pub arguments : List ℕ
  pub has : HasProduction slot (choice i) arguments
  pub children : AllZip S arguments (children_of t)

-- the slot with a number spells a tree of at most a height, where a function chooses the production of each slot
abbrev pub Spells : List Slot → (ℕ → ℕ) → ℕ → ℕ → Tree → Type 0
Spells slots choice zero i t = ⊥
Spells slots choice (suc height) i t = SpellsBy slots choice (Spells slots choice height) i t

-- some choice of one production for each slot spells the trees, each from the slot with its place, of which there are
-- so many
pub record AreSpelled (slots : List Slot) (count : ℕ) (ts : List Tree) : Type 0 where
  pub choice : ℕ → ℕ
  pub height : ℕ
  pub many : length ts ≡ count
  pub each : (i : ℕ) (t : Tree) → slice_get ts i ≡ Some t → Spells slots choice height i t

-- the slots of a grammar's layout spell exactly the tuples of trees that derive, one from each start
abbrev pub LayoutsHaveTheTrees : Type 0
LayoutsHaveTheTrees = (rules : Rules) (starts : List ℕ) (depth : ℕ) → IsGrammar rules starts depth → (ts : List Tree) →
    AreTrees rules starts depth ts ↔ AreSpelled (layout_of rules starts depth) (length starts) ts

-- a choice spells at most one tree from a slot of a layout
abbrev pub ChoicesSpellOne : Type 0
ChoicesSpellOne = (rules : Rules) (starts : List ℕ) (depth : ℕ) (choice : ℕ → ℕ) (h k i : ℕ) (t u : Tree) →
    Spells (layout_of rules starts depth) choice h i t → Spells (layout_of rules starts depth) choice k i u → t ≡ u
