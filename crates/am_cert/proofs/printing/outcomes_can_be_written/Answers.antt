use Rattle.am_cert.proofs.Writable.{outcomes_are_writable}
use Rattle.am_cert.proofs.printing.outcomes_can_be_written.Goals as goal

pub returns : goal.returns
returns c = outcomes_are_writable
