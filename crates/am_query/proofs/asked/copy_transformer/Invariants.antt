use Rattle.std.proofs.Common.{◌≡◌, take}
use Rattle.am_query.proofs.asked.copy_transformer.Given as goal

abbrev pub invariant-loop-term : goal.invariant-loop-term
invariant-loop-term l = l.terms ≡ take l.term-index l.t
