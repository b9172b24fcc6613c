use Rattle.am_all.proofs.ValueLaws.{Found}
use Rattle.am_all.proofs.values.abstract_values.Given as goal

abbrev pub invariant-loop-number : goal.invariant-loop-number
invariant-loop-number l = Found l.p l.values l.number
