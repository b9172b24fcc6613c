-- The clauses of a template, level by level.
use Rattle.std.specs.Prelude.{ℕ, zero, suc, ◌+◌, List, [], ◌∷◌, ◌++◌, map, if◌then◌else◌}
use Rattle.std.specs.List.{list_any}
use Rattle.am_lit.specs.Literal.{opposite_of}
use Rattle.am_tree.specs.Trees.{Rules}
use Rattle.am_tree.specs.declared.slots.Argument.{Argument}
use Rattle.am_tree.specs.Slots.{Numbered, offered, arguments, shared, same}
use Rattle.am_slot.specs.declared.clauses.Asked.{Asked}
use Rattle.am_slot.specs.Selectors.{width, widths, selector, selectors}

-- what asks for a slot: a root is asked for by no literal, another slot by the opposite of the selector
-- of each of its parent's productions that has it as a child

-- a root of a nonterminal
abbrev pub root : ℕ → Asked
root n = record { symbol = n; by = [] ∷ [] }

-- both are not chosen, for each two of the literals, the earlier one outer
abbrev pub pairs : List ℕ → List (List ℕ)
pairs [] = []
pairs (l ∷ ls) = map (λ m. opposite_of l ∷ opposite_of m ∷ []) ls ++ pairs ls

-- the clauses of a slot with these selectors
abbrev pub slot_clauses : List (List ℕ) → List ℕ → List (List ℕ)
slot_clauses by own = map (λ a. a ++ own) by ++ pairs own

-- what asks for the child at an argument, where x is the first production's selector
abbrev pub asks : Argument → ℕ → List Numbered → List (List ℕ)
asks a x [] = []
asks a x (p ∷ ps) =
    if list_any (same a) (arguments p.production) then (opposite_of (selector x) ∷ []) ∷ asks a (x + 1) ps
    else asks a (x + 1) ps

-- the children of a slot, each with what asks for it
abbrev pub children : ℕ → List Numbered → List Argument → List Asked
children x ps arguments = map (λ a. record { symbol = a.symbol; by = asks a x ps }) arguments

-- the clauses of the slots of a level, of which x is the first selector
abbrev pub level_clauses : Rules → ℕ → ℕ → List Asked → List (List ℕ)
level_clauses rules below x [] = []
level_clauses rules below x (s ∷ ss) =
    slot_clauses s.by (selectors x (offered rules below s.symbol))
    ++ level_clauses rules below (x + width rules below s.symbol) ss

-- the slots of the next level, with what asks for each
abbrev pub next_asked : Rules → ℕ → ℕ → List Asked → List Asked
next_asked rules below x [] = []
next_asked rules below x (s ∷ ss) =
    children x (offered rules below s.symbol) (shared rules below s.symbol)
    ++ next_asked rules below (x + width rules below s.symbol) ss

-- the nonterminals of slots
abbrev pub symbols : List Asked → List ℕ
symbols ss = map (λ s. s.symbol) ss

-- the clauses of a level and of those below it
unfoldable pub clauses_from : Rules → ℕ → ℕ → List Asked → List (List ℕ)
clauses_from rules zero x ss = level_clauses rules zero x ss
clauses_from rules (suc below) x ss =
    level_clauses rules (suc below) x ss
    ++ clauses_from rules below (x + widths rules (suc below) (symbols ss)) (next_asked rules (suc below) x ss)
