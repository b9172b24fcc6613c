use Rattle.am_syntax.proofs.CanonicalLaws.{printed_reads_back}
use Rattle.am_syntax.proofs.theorems.printed_terms_read_back.Goals as goal

pub returns : goal.returns
returns c = printed_reads_back
