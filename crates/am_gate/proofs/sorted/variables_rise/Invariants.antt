use Rattle.std.proofs.Common.{ℕ, ◌+◌, ◌<◌, get_or}
use Rattle.am_lit.specs.Literal.{variable_of}
use Rattle.am_gate.proofs.sorted.variables_rise.Given as goal

abbrev pub invariant-loop-i : goal.invariant-loop-i
invariant-loop-i l =
    (k : ℕ) → k + 1 < l.i → variable_of (get_or l.literals k 0) < variable_of (get_or l.literals (k + 1) 0)
