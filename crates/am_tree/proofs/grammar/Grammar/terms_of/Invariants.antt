use Rattle.std.proofs.Common.{◌≡◌, ◌++◌, drop}
use Rattle.am_tree.specs.Trees.{terms_of}
use Rattle.am_tree.proofs.grammar.Grammar.terms_of.Given as goal

abbrev pub invariant-loop-i : goal.invariant-loop-i
invariant-loop-i l =
    l.terms ++ terms_of l.fn.self.rules (drop l.i l.fn.self.starts) (drop l.i l.tree-items)
    ≡ terms_of l.fn.self.rules l.fn.self.starts l.tree-items
