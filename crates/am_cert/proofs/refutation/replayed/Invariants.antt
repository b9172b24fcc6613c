use Rattle.std.proofs.Common.{◌≡◌, take}
use Rattle.am_chain.specs.Replay.{DerivesClauses}
use Rattle.am_cert.proofs.refutation.replayed.Given as goal

abbrev pub invariant-loop-k : goal.invariant-loop-k
invariant-loop-k l = record {
  given : l.checker.given ≡ l.formula.clauses;
  so_far : DerivesClauses l.formula.clauses (take l.k l.log) l.checker.derived;
}
