use Rattle.std.proofs.Common.{◌≡◌, [], drop, length}
use Rattle.am_chain.specs.Replay.{replay}
use Rattle.am_chain.proofs.refutation.refutes.Given as goal

-- as many clauses are derived as chains were taken, and the chains that are left lead from there to
-- what the whole log derives
abbrev pub invariant-loop-k : goal.invariant-loop-k
invariant-loop-k l =
    (l.checker.given ≡ l.formula.clauses) × (length l.checker.derived ≡ l.k)
    × (replay l.formula.clauses l.checker.derived (drop l.k l.log) ≡ replay l.formula.clauses [] l.log)
