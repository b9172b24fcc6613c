-- The exit codes.
use Rattle.std.specs.Prelude.{ℕ}
use Rattle.amurth.specs.declared.status.Status.{Status}
use Rattle.amurth.specs.declared.status.Status.TheVariants.{Done, NoMemory, ReadFault, Refused, Rejected}
use Rattle.amurth.specs.declared.status.Status.TheVariants.{SpentConflicts, SpentTurns, Usage, WriteFault}

-- the exit code of each status
abbrev pub exit_code : Status → ℕ
exit_code Done = 0
exit_code Usage = 2
exit_code ReadFault = 3
exit_code WriteFault = 4
exit_code NoMemory = 5
exit_code Refused = 6
exit_code SpentTurns = 7
exit_code SpentConflicts = 8
exit_code Rejected = 9
