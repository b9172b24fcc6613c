-- Definitions at small examples, computed.
use Rattle.std.proofs.Common.{◌≡◌, [], ◌∷◌, Some, map, length, refl}
use Rattle.std.specs.Prelude.{slice_get}
use Rattle.am_bv.specs.declared.op.Op.TheVariants.{Xor, And, Or}
use Rattle.am_bv.specs.declared.term.Term.TheVariants.{Const}
use Rattle.am_tree.specs.declared.grammar.Production.TheVariants.{Leaf, Node}
use Rattle.am_tree.specs.Trees.{Rules}
use Rattle.am_tree.specs.Slots.{slots_from}
use Rattle.am_slot.specs.Clauses.{root, clauses_from}

two_leaves : Rules
two_leaves = (Leaf (Const 0) ∷ Leaf (Const 1) ∷ []) ∷ (Leaf (Const 2) ∷ []) ∷ []

incomparable : clauses_from two_leaves 0 1 (map root (0 ∷ 1 ∷ [])) ≡ ((2 ∷ 4 ∷ []) ∷ (3 ∷ 5 ∷ []) ∷ (6 ∷ []) ∷ [])
unfolding two_leaves clauses_from
incomparable = refl

-- A: a leaf, (xor A B), (and A A); B: a leaf
nested : Rules
nested = (Leaf (Const 0) ∷ Node Xor (0 ∷ 1 ∷ []) ∷ Node And (0 ∷ 0 ∷ []) ∷ []) ∷ (Leaf (Const 2) ∷ []) ∷ []

slots : length (slots_from nested 1 1 0 (0 ∷ [])) ≡ 4
unfolding nested slots_from
slots = refl

-- root 1 2 3; child (0, A) 4; child (1, B) 5; child (1, A) 6
nested_clauses : clauses_from nested 1 1 (map root (0 ∷ [])) ≡
    ((2 ∷ 4 ∷ 6 ∷ []) ∷ (3 ∷ 5 ∷ []) ∷ (3 ∷ 7 ∷ []) ∷ (5 ∷ 7 ∷ [])
    ∷ (5 ∷ 8 ∷ []) ∷ (7 ∷ 8 ∷ []) ∷ (5 ∷ 10 ∷ []) ∷ (7 ∷ 12 ∷ []) ∷ [])
unfolding nested clauses_from
nested_clauses = refl

-- Z, O: (or A A); A: (and B B); B: four leaves
known_bits : Rules
known_bits =
    (Node Or (2 ∷ 2 ∷ []) ∷ []) ∷ (Node Or (2 ∷ 2 ∷ []) ∷ []) ∷ (Node And (3 ∷ 3 ∷ []) ∷ [])
    ∷ (Leaf (Const 0) ∷ Leaf (Const 1) ∷ Leaf (Const 2) ∷ Leaf (Const 3) ∷ []) ∷ []

fourteen : length (slots_from known_bits 2 1 0 (0 ∷ 1 ∷ [])) ≡ 14
unfolding known_bits slots_from
fourteen = refl

third : slice_get (slots_from known_bits 2 1 0 (0 ∷ 1 ∷ [])) 2
    ≡ Some (record { symbol = 2; level = 2; productions = 0 ∷ []; children = (6 ∷ 7 ∷ []) ∷ [] })
unfolding known_bits slots_from
third = refl
