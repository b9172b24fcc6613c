-- The slots of a grammar. A level of slots is a list of nonterminals; below is the number of levels
-- that stand below it.
use Rattle.std.specs.Prelude.{ℕ, zero, suc, ◌<◌, ◌+◌, ◌-◌, ◌&&◌, ◌==◌, Bool, true, false, List, [], ◌∷◌, ◌++◌, length}
use Rattle.std.specs.Prelude.{map, flat_map, filter, slice_index_or, if◌then◌else◌}
use Rattle.std.specs.List.{list_any, AllByRecursion}
use Rattle.am_tree.specs.declared.grammar.Production.{Production}
use Rattle.am_tree.specs.declared.grammar.Production.TheVariants.{Leaf, Node}
use Rattle.am_tree.specs.declared.slots.Argument.{Argument}
use Rattle.am_tree.specs.declared.slots.Slot.{Slot}
use Rattle.am_tree.specs.Trees.{Rules}

-- a production with its number in its nonterminal's list
pub record Numbered : Type 0 where
  pub number : ℕ
  pub production : Production

-- productions with their numbers, the first of which is given
abbrev pub numbered : ℕ → List Production → List Numbered
numbered i [] = []
numbered i (p ∷ ps) = (record { number = i; production = p }) ∷ numbered (i + 1) ps

-- a slot of the last level has leaf productions only
abbrev pub is_offered : ℕ → Production → Bool
is_offered below (Leaf t) = true
is_offered zero (Node op names) = false
is_offered (suc below) (Node op names) = true

-- the productions that a slot has, of those of its nonterminal
abbrev pub offered_by : ℕ → List Production → List Numbered
offered_by below ps = filter (λ p. is_offered below p.production) (numbered 0 ps)

-- the productions that a nonterminal's slot has
abbrev pub offered : Rules → ℕ → ℕ → List Numbered
offered rules below n = offered_by below (slice_index_or rules n [])

-- nonterminals at their positions among the arguments

-- two arguments are one: the same nonterminal at the same position
abbrev pub same : Argument → Argument → Bool
same a b = (a.position == b.position) && (a.symbol == b.symbol)

-- nonterminals as arguments, the first of which stands at a given position
abbrev pub positioned : ℕ → List ℕ → List Argument
positioned i [] = []
positioned i (n ∷ ns) = (record { position = i; symbol = n }) ∷ positioned (i + 1) ns

-- the arguments of a production: none of a leaf, else its nonterminals at their positions
abbrev pub arguments : Production → List Argument
arguments (Leaf t) = []
arguments (Node op names) = positioned 0 names

-- those that are seen, and after them each further one once, in order of first occurrence
abbrev pub distinct : List Argument → List Argument → List Argument
distinct seen [] = seen
distinct seen (a ∷ rest) = distinct (if list_any (same a) seen then seen else seen ++ a ∷ []) rest

-- the children of a slot with these productions
abbrev pub shared_by : ℕ → List Production → List Argument
shared_by zero ps = []
shared_by (suc below) ps = distinct [] (flat_map arguments ps)

-- the children of a nonterminal's slot
abbrev pub shared : Rules → ℕ → ℕ → List Argument
shared rules below n = shared_by below (slice_index_or rules n [])

-- the nonterminals of the children of a level's slots, which are the next level
abbrev pub next_level : Rules → ℕ → List ℕ → List ℕ
next_level rules below ns = flat_map (λ n. map (λ a. a.symbol) (shared rules below n)) ns

-- what stands at an argument, where xs stand at the arguments of a list
abbrev pub at_argument : {A : Type 0} → A → List Argument → List A → Argument → A
at_argument other [] xs a = other
at_argument other (k ∷ ks) [] a = other
at_argument other (k ∷ ks) (x ∷ xs) a = if same a k then x else at_argument other ks xs a

-- so many numbers from one on
abbrev pub counted : ℕ → List Argument → List ℕ
counted from [] = []
counted from (a ∷ rest) = from ∷ counted (from + 1) rest

-- the slot of a nonterminal with these productions and children, which are numbered from child on
abbrev pub slot_by : ℕ → ℕ → ℕ → ℕ → List Production → List Argument → Slot
slot_by below level child n ps children = record {
  symbol = n;
  level = level;
  productions = map (λ p. p.number) (offered_by below ps);
  children =
      map (λ p. map (at_argument 0 children (counted child children)) (arguments p.production)) (offered_by below ps);
}

-- the slot of a nonterminal of the grammar
abbrev pub slot_at : Rules → ℕ → ℕ → ℕ → ℕ → Slot
slot_at rules below level child n = slot_by below level child n (slice_index_or rules n []) (shared rules below n)

-- the slots of a level, where the next level begins with the number child
abbrev pub level_slots : Rules → ℕ → ℕ → ℕ → List ℕ → List Slot
level_slots rules below level child [] = []
level_slots rules below level child (n ∷ ns) =
    slot_at rules below level child n
    ∷ level_slots rules below level (child + length (shared rules below n)) ns

-- the slots of a level and of those below it, numbered from first on
unfoldable pub slots_from : Rules → ℕ → ℕ → ℕ → List ℕ → List Slot
slots_from rules zero level first ns = level_slots rules zero level (first + length ns) ns
slots_from rules (suc below) level first ns =
    level_slots rules (suc below) level (first + length ns) ns
    ++ slots_from rules below (level + 1) (first + length ns) (next_level rules (suc below) ns)

-- the arguments of all productions are below a number
abbrev pub AreInside : ℕ → Rules → Type 0
AreInside n rules =
    AllByRecursion (λ ps. AllByRecursion (λ p. AllByRecursion (λ a. a.symbol < n) (arguments p)) ps) rules

-- the slots of a grammar: one root of level 1 for each start, and those below
abbrev pub layout_of : Rules → List ℕ → ℕ → List Slot
layout_of rules starts depth = slots_from rules (depth - 1) 1 0 starts
