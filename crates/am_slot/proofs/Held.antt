-- The truth values of the selectors that choose given trees.
use Rattle.std.specs.Prelude.{ℕ, zero, suc, ◌+◌, ◌==◌, Bool, false, List, [], ◌∷◌, ◌++◌, length, map, Option, Some}
use Rattle.std.specs.Prelude.{None}
use Rattle.am_tree.specs.declared.grammar.Production.{Production}
use Rattle.am_tree.specs.declared.tree.Tree.{Tree}
use Rattle.am_tree.specs.Trees.{Rules, production_at, production_of, children_of}
use Rattle.am_tree.specs.declared.slots.Argument.{Argument}
use Rattle.am_tree.specs.Slots.{Numbered, offered, arguments, shared, at_argument}
use Rattle.am_slot.specs.Selectors.{width}
use Rattle.am_slot.specs.declared.clauses.Asked.{Asked}
use Rattle.am_slot.specs.Clauses.{asks}

-- a slot, what asks for it, and its tree where the given trees reach it
pub record Held : Type 0 where
  pub symbol : ℕ
  pub by : List (List ℕ)
  pub tree : Option Tree

-- the slot and what asks for it, without its tree
abbrev pub asked : Held → Asked
asked h = record { symbol = h.symbol; by = h.by }

-- whether there is a tree, of this production
abbrev pub is_of : Option Tree → ℕ → Bool
is_of None k = false
is_of (Some t) k = production_of t == k

-- the child at an argument of a production
abbrev pub part : Option Production → List Tree → Argument → Option Tree
part None children a = None
part (Some p) children a = at_argument None (arguments p) (map (λ t. Some t) children) a

-- the child of a slot's tree at an argument, where there is one
abbrev pub child_at : Rules → ℕ → Option Tree → Argument → Option Tree
child_at rules n None a = None
child_at rules n (Some t) a = part (production_at rules n (production_of t)) (children_of t) a

-- the selector of the tree's production is true, and the slot's others are false
abbrev pub slot_bits : Option Tree → List Numbered → List Bool
slot_bits t ps = map (λ p. is_of t p.number) ps

-- the truth values of the selectors of a level
abbrev pub level_bits : Rules → ℕ → List Held → List Bool
level_bits rules below [] = []
level_bits rules below (h ∷ hs) = slot_bits h.tree (offered rules below h.symbol) ++ level_bits rules below hs

-- the slots of the next level, with the trees that this level's trees have there
abbrev pub next_held : Rules → ℕ → ℕ → List Held → List Held
next_held rules below x [] = []
next_held rules below x (h ∷ hs) =
    map
    (λ a. record {
      symbol = a.symbol;
      by = asks a x (offered rules below h.symbol);
      tree = child_at rules h.symbol h.tree a;
    })
    (shared rules below h.symbol)
    ++ next_held rules below (x + width rules below h.symbol) hs

-- the truth values of the selectors of a level and of those below it
unfoldable pub bits : Rules → ℕ → ℕ → List Held → List Bool
bits rules zero x hs = level_bits rules zero hs
bits rules (suc below) x hs =
    level_bits rules (suc below) hs
    ++ bits rules below (x + length (level_bits rules (suc below) hs)) (next_held rules (suc below) x hs)
