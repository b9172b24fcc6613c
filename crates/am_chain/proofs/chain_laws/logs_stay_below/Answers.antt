use Rattle.std.proofs.Common.{[]}
use Rattle.std.proofs.lemmas.List.Elements.{All-nil}
use Rattle.am_chain.specs.ChainLaws.{IsRisingBelow}
use Rattle.am_chain.proofs.Ordered.{formula_below, replay_below}
use Rattle.am_chain.proofs.chain_laws.logs_stay_below.Goals as goal

pub returns : goal.returns
returns c = λ vars clauses derived log normal e.
    replay_below vars clauses (formula_below vars clauses normal) [] derived log (All-nil (IsRisingBelow vars)) e
