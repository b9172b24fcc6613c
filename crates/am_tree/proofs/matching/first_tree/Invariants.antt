use Rattle.std.proofs.Common.{◌≡◌, ℕ, suc, ◌<◌, [], slice_index_or}
use Rattle.std.specs.List.{AllZip}
use Rattle.am_tree.specs.declared.tree.Tree.{Tree}
use Rattle.am_tree.specs.Trees.{Rules, production_of, IsTreeOf}
use Rattle.am_tree.specs.inside.Matched.{arguments_of, AreFound}
use Rattle.am_tree.proofs.matching.first_tree.Given as goal

abbrev pub invariant-loop-i : goal.invariant-loop-i
invariant-loop-i l = (rules : Rules) (d n : ℕ) → slice_index_or rules n [] ≡ l.productions →
    AllZip (AreFound rules d) (arguments_of l.term) l.tables →
    (t : Tree) → production_of t < l.i → ¬ IsTreeOf rules (suc d) n l.term t
