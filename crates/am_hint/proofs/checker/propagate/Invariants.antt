use Rattle.std.proofs.Common.{◌≡◌, ◌++◌, drop}
use Rattle.am_hint.specs.Hints.{propagation_fault}
use Rattle.am_hint.proofs.checker.propagate.Given as goal

abbrev pub invariant-loop-number : goal.invariant-loop-number
invariant-loop-number s =
    let fault = propagation_fault (s.given ++ s.added) in record {
      place : s.place ≡ s.number-index;
      vars : s.row.vars ≡ s.fn.row.vars;
      so_far : fault s.row.literals s.number-index (drop s.number-index s.by) ≡ fault s.fn.row.literals 0 s.by;
    }
