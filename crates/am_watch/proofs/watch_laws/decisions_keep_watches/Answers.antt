use Rattle.am_watch.proofs.Going.{holds_decide}
use Rattle.am_watch.proofs.watch_laws.decisions_keep_watches.Goals as goal

pub returns : goal.returns
returns c = λ w clauses t l h end. holds_decide w clauses t l h end
