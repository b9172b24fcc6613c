use Rattle.std.proofs.Common.{All, IsTrue, take}
use Rattle.am_slot.specs.Encoding.{is_leaf_over}
use Rattle.am_slot.proofs.rules.RuleTable.are_over.Given as goal

abbrev pub invariant-loop-rule : goal.invariant-loop-rule
invariant-loop-rule l =
    All (λ r. All (λ p. IsTrue (is_leaf_over l.w l.count p)) r.productions) (take l.rule-index l.rule-items)
