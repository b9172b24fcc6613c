use Rattle.std.proofs.Common.{ap, ◌∙◌}
use Rattle.am_problem.specs.StoredLines.{seen_names}
use Rattle.am_problem.proofs.Indexing.{insert_new}
use Rattle.am_problem.proofs.numbering.add_name.Goals as goal

pub returns : goal.returns
returns c = ap seen_names c.in_ok-insert.ensures.keys ∙ insert_new c.args.names.now.keys c.args.name c.requires
