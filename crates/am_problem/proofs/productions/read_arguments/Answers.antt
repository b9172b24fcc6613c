use Rattle.std.proofs.Common.{codes, subst}
use Rattle.am_syntax.specs.Pieces.{times}
use Rattle.am_problem.specs.Grammar.{name_before}
use Rattle.am_syntax.specs.Readers.{Makes}
use Rattle.am_problem.specs.StoredLines.{seen_names}
use Rattle.am_problem.proofs.productions.read_arguments.Goals as goal

pub returns : goal.returns
returns c =
    subst (λ n. Makes seen_names c.read_names.result c.args.text.now c.read_names.new.text
    (times (λ _. name_before (codes ")")) n).read) c.arity.ensures.value c.read_names.ensures
