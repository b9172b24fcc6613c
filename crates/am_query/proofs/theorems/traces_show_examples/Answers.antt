use Rattle.am_query.proofs.Laws.{traces_grow, traces_show}
use Rattle.am_query.proofs.theorems.traces_show_examples.Goals as goal

pub returns : goal.returns
returns c = record { show = traces_show; grow = traces_grow }
