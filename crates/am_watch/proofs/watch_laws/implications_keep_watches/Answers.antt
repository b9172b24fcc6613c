use Rattle.am_watch.proofs.Going.{holds_imply}
use Rattle.am_watch.proofs.watch_laws.implications_keep_watches.Goals as goal

pub returns : goal.returns
returns c = λ w clauses t l reason trail h. holds_imply w clauses t l reason h trail.passed
