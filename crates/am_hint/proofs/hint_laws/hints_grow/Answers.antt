use Rattle.am_hint.proofs.Listed.{hints_grow}
use Rattle.am_hint.proofs.hint_laws.hints_grow.Goals as goal

pub returns : goal.returns
returns c = hints_grow
