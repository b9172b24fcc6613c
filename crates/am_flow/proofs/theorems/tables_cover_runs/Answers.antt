use Rattle.am_flow.proofs.RunLaws.{tables_cover}
use Rattle.am_flow.proofs.theorems.tables_cover_runs.Goals as goal

pub returns : goal.returns
returns c = tables_cover
