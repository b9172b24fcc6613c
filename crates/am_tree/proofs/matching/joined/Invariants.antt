use Rattle.std.proofs.Common.{◌≡◌, ℕ, List, length, take}
use Rattle.std.specs.List.{AllZip}
use Rattle.am_bv.specs.declared.term.Term.{Term}
use Rattle.am_tree.specs.Trees.{Rules}
use Rattle.am_tree.specs.inside.Matched.{AreFound, Joins}
use Rattle.am_tree.proofs.matching.joined.Given as goal

abbrev pub invariant-loop-i : goal.invariant-loop-i
invariant-loop-i l = (rules : Rules) (d : ℕ) (args : List Term) → AllZip (AreFound rules d) args l.tables →
    length l.names ≡ length args →
    Joins rules d (take l.i l.names) (take l.i args) l.trees
