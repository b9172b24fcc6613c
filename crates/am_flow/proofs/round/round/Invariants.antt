use Rattle.std.proofs.Common.{take}
use Rattle.am_flow.specs.Stored.{seen_operations}
use Rattle.am_flow.proofs.RoundLaws.{IsAfter}
use Rattle.am_flow.proofs.round.round.Given as goal

abbrev pub invariant-edges : goal.invariant-edges
invariant-edges l = IsAfter l.flow (seen_operations l.operations) l.before (take l.edge-index l.edges) l.after.items
