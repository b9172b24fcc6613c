use Rattle.std.proofs.Common.{take}
use Rattle.std.specs.List.{All}
use Rattle.am_query.specs.Acceptance.{IsExcluded}
use Rattle.am_cert.proofs.conditions.negatives_true.Given as goal

abbrev pub invariant-loop-i : goal.invariant-loop-i
invariant-loop-i l = All (IsExcluded l.p l.terms) (take l.i l.negatives)
