use Rattle.std.proofs.Common.{◌≡◌, map}
use Rattle.std.specs.List.{range_with_len}
use Rattle.am_bv.specs.declared.term.Term.TheVariants.{Field}
use Rattle.am_tree.specs.declared.grammar.Production.TheVariants.{Leaf}
use Rattle.am_problem.proofs.generator.argument_rule.Given as goal

abbrev pub invariant-loop-field : goal.invariant-loop-field
invariant-loop-field l = l.rule ≡ map (λ i. Leaf (Field i)) (range_with_len 0 l.field)
