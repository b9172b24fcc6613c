use Rattle.std.proofs.Common.{All, IsTrue, take}
use Rattle.am_slot.specs.Encoding.{is_leaf_over}
use Rattle.am_slot.proofs.rules.are_leaves_over.Given as goal

abbrev pub invariant-loop-production : goal.invariant-loop-production
invariant-loop-production l = All (λ p. IsTrue (is_leaf_over l.w l.count p)) (take l.production-index l.productions)
