use Rattle.std.proofs.Common.{◌≡◌, ◌++◌, drop}
use Rattle.am_tree.specs.Trees.{terms_at}
use Rattle.am_tree.specs.inside.Matched.{givers}
use Rattle.am_tree.proofs.grammar.Grammar.+term_of.Given as goal

abbrev pub decreases-term_of : goal.decreases-term_of
decreases-term_of l = goal.size-term_of l

abbrev pub invariant-loop-i : goal.invariant-loop-i
invariant-loop-i l =
    l.terms ++ terms_at (drop l.i l.names) (givers l.self.rules (drop l.i l.child-items))
    ≡ terms_at l.names (givers l.self.rules l.child-items)
