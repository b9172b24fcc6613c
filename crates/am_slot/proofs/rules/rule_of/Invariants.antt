use Rattle.std.proofs.Common.{◌≡◌, take}
use Rattle.am_slot.proofs.rules.rule_of.Given as goal

abbrev pub invariant-loop-production : goal.invariant-loop-production
invariant-loop-production l = l.copies ≡ take l.production-index l.productions
