-- Blocks: one word for each slot, from the last slot to the first.
use Rattle.std.specs.Prelude.{ℕ, zero, suc, ◌+◌, List, [], ◌∷◌, length, map, take, drop}
use Rattle.am_blast.specs.declared.bitwise.Gate.TheVariants.{Choose}
use Rattle.am_gate.specs.Build.{Step, ◌>>=◌, answer}
use Rattle.am_blast.specs.Words.{zeros}
use Rattle.am_blast.specs.Bitwise.{bitwise}
use Rattle.am_blast.specs.Circuits.{circuit_of, blasted}
use Rattle.am_tree.specs.declared.grammar.Production.{Production}
use Rattle.am_tree.specs.declared.grammar.Production.TheVariants.{Leaf, Node}
use Rattle.am_tree.specs.Trees.{Rules}
use Rattle.am_tree.specs.declared.slots.Argument.{Argument}
use Rattle.am_tree.specs.Slots.{Numbered, offered, positioned, shared, next_level, at_argument}
use Rattle.am_slot.specs.Selectors.{width, widths, selector}

-- the word of a production over the words of its slot's children
abbrev pub production_word : ℕ → List (List ℕ) → List Argument → List (List ℕ) → Production → Step (List ℕ)
production_word w fields children below (Leaf t) = blasted w fields t
production_word w fields children below (Node op names) =
    circuit_of w op (map (at_argument [] children below) (positioned 0 names))

-- the word of a production where its selector x is true, else the word old
unfoldable pub chosen_word :
    ℕ → List (List ℕ) → List Argument → List (List ℕ) → Production → ℕ → List ℕ → Step (List ℕ)
chosen_word w fields children below p x old = do
  word ← production_word w fields children below p
  bitwise (Choose (selector x)) word old

-- the word of a slot from its productions, in order, over the word so far
unfoldable pub slot_word :
    ℕ → List (List ℕ) → List Argument → List (List ℕ) → ℕ → List ℕ → List Numbered → Step (List ℕ)
slot_word w fields children below x old [] = answer old
slot_word w fields children below x old (p ∷ ps) = do
  new ← chosen_word w fields children below p.production x old
  slot_word w fields children below (x + 1) new ps

-- the words of a level, over those of the next level
unfoldable pub level_words : Rules → ℕ → List (List ℕ) → ℕ → ℕ → List ℕ → List (List ℕ) → Step (List (List ℕ))
level_words rules w fields below x [] next = answer []
level_words rules w fields below x (n ∷ ns) next = do
  rest ← level_words rules w fields below (x + width rules below n) ns (drop (length (shared rules below n)) next)
  word ← slot_word w fields (shared rules below n) (take (length (shared rules below n)) next) x (zeros w)
      (offered rules below n)
  answer (word ∷ rest)

-- the words of a level with so many levels below it, where x is its first selector
unfoldable pub words : Rules → ℕ → List (List ℕ) → ℕ → ℕ → List ℕ → Step (List (List ℕ))
words rules w fields zero x ns = level_words rules w fields zero x ns []
words rules w fields (suc below) x ns = do
  next ← words rules w fields below (x + widths rules (suc below) ns) (next_level rules (suc below) ns)
  level_words rules w fields (suc below) x ns next
