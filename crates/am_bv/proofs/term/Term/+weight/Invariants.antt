use Rattle.std.proofs.Common.{◌≡◌, ◌≤◌, ◌+◌, ◌*◌, sum_by, take}
use Rattle.am_bv.specs.Terms.{nodes, weight}
use Rattle.am_bv.proofs.term.Term.+weight.Given as goal

abbrev pub invariant-loop-t : goal.invariant-loop-t
invariant-loop-t l = record {
  value : l.sum ≡ l.initial.sum + sum_by (weight l.w) (take l.t-index l.t-items);
  most : l.sum ≤ 288 * (1 + sum_by nodes (take l.t-index l.t-items));
}
