-- Laws of lists of trees and of weights, for all rules. The functions of `theorems` prove them.
use Rattle.std.specs.Prelude.{ℕ, ◌≡◌, ◌-◌, ◌↔◌, AllPairs, Contains, List, length, sum_by}
use Rattle.am_tree.specs.declared.tree.Tree.{Tree}
use Rattle.am_tree.specs.Counts.{tuple_count}
use Rattle.am_tree.specs.Listed.{tuples_of}
use Rattle.am_tree.specs.Slots.{layout_of}
use Rattle.am_tree.specs.Trees.{AreTrees, Rules}
use Rattle.am_tree.specs.Weights.{block_weight, weight_in}

-- the number of tuples is the length of the list of tuples
abbrev pub TuplesAreCounted : Type 0
TuplesAreCounted = (rules : Rules) (starts : List ℕ) (depth : ℕ) →
    length (tuples_of rules starts depth) ≡ tuple_count rules starts depth

-- the list has exactly the tuples of trees that derive, one from each start
abbrev pub TuplesAreListed : Type 0
TuplesAreListed = (rules : Rules) (starts : List ℕ) (depth : ℕ) (ts : List Tree) →
    Contains (tuples_of rules starts depth) ts ↔ AreTrees rules starts depth ts

-- each tuple stands in the list once
abbrev pub TuplesStandOnce : Type 0
TuplesStandOnce = (rules : Rules) (starts : List ℕ) (depth : ℕ) →
    AllPairs (λ ts us. ¬ ts ≡ us) (tuples_of rules starts depth)

-- a block weighs what the slots of the layout weigh together
abbrev pub BlockWeighsItsSlots : Type 0
BlockWeighsItsSlots = (rules : Rules) (starts : List ℕ) (depth w : ℕ) →
    block_weight rules w (depth - 1) starts ≡ sum_by (weight_in rules w) (layout_of rules starts depth)
