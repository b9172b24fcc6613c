use Rattle.std.proofs.Common.{take}
use Rattle.am_flow.specs.Flows.{AllFit}
use Rattle.am_flow.proofs.flow.Flow.matches.Given as goal

abbrev pub invariant-signatures : goal.invariant-signatures
invariant-signatures l = AllFit l.self (take l.i l.signatures)
