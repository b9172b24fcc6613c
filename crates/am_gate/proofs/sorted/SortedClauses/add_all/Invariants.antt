use Rattle.std.proofs.Common.{◌≡◌, ◌++◌, ◌+◌, ◌≤◌, map, take, length}
use Rattle.std.specs.List.{flat_map}
use Rattle.am_gate.specs.Circuit.{added}
use Rattle.am_gate.proofs.sorted.SortedClauses.add_all.Given as goal

abbrev pub invariant-loop-row : goal.invariant-loop-row
invariant-loop-row l = record {
  done : l.self ≡ l.initial.self ++ flat_map added (map (λ row. row.now) (take l.row-index l.rows));
  few : length l.self ≤ length l.initial.self + l.row-index;
  kept : take l.before l.self ≡ l.initial.self;
}
