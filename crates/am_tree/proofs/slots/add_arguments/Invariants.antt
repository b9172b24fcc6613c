use Rattle.std.proofs.Common.{◌≡◌, ◌+◌, ◌≤◌, drop, length}
use Rattle.am_tree.specs.Slots.{distinct, positioned}
use Rattle.am_tree.proofs.slots.add_arguments.Given as goal

abbrev pub invariant-loop-position : goal.invariant-loop-position
invariant-loop-position l = record {
  items : distinct l.seen.items (positioned l.position (drop l.position l.name-items))
      ≡ distinct l.initial.seen.items (positioned 0 l.name-items);
  len : length l.seen.items ≤ length l.initial.seen.items + l.position;
}
