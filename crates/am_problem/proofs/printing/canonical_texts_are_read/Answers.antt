use Rattle.am_problem.proofs.PrintingLaws.{printed_reads}
use Rattle.am_problem.proofs.printing.canonical_texts_are_read.Goals as goal

pub returns : goal.returns
returns c = printed_reads
