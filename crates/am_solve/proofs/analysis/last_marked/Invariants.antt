use Rattle.std.proofs.Common.{◌≡◌, ◌≤◌, ◌<◌, ℕ, false}
use Rattle.am_chain.specs.inside.Marks.{mark_at}
use Rattle.am_solve.proofs.analysis.last_marked.Given as goal

abbrev pub invariant-loop-i : goal.invariant-loop-i
invariant-loop-i l = record {
  below : l.i < l.initial.before;
  high : l.marks.start ≤ l.i;
  above : (k : ℕ) → l.i < k → mark_at l.marks.places.items k ≡ false;
}

abbrev pub decreases-loop-i : goal.decreases-loop-i
decreases-loop-i l = l.i
