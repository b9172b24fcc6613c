use Rattle.std.proofs.Common.{◌≡◌, map, take}
use Rattle.std.specs.Prelude.{All}
use Rattle.am_tree.specs.Slots.{shared_by}
use Rattle.am_slot.proofs.rules.RuleTable.new.Given as goal

abbrev pub invariant-loop-productions : goal.invariant-loop-productions
invariant-loop-productions l = record {
  copies : map (λ r. r.productions) l.rules ≡ take l.productions-index l.grammar.rules;
  children : All (λ r. r.children.items ≡ shared_by 1 r.productions) l.rules;
}
