use Rattle.am_watch.proofs.Going.{holds_back}
use Rattle.am_watch.proofs.watch_laws.returns_keep_watches.Goals as goal

pub returns : goal.returns
returns c = λ w clauses t level trail le h. holds_back w clauses t level h trail le
