use Rattle.std.proofs.Common.{All, IsTrue, take}
use Rattle.am_tree.specs.Grammars.{is_production}
use Rattle.am_tree.proofs.grammar.are_productions.Given as goal

abbrev pub invariant-loop-production : goal.invariant-loop-production
invariant-loop-production l = All (λ p. IsTrue (is_production l.count p)) (take l.production-index l.productions)
