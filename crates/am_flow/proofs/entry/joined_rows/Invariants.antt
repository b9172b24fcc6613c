use Rattle.std.proofs.Common.{◌≡◌, ◌++◌, take, drop}
use Rattle.am_flow.specs.States.{joined_rows}
use Rattle.am_flow.proofs.entry.joined_rows.Given as goal

abbrev pub invariant-variables : goal.invariant-variables
invariant-variables l = l.joined ≡ take l.i (joined_rows l.flow l.fn.row l.other) ++ drop l.i l.fn.row
