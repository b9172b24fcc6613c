use Rattle.std.proofs.Common.{◌≡◌, ◌*◌, ◌≤◌, drop, [], length}
use Rattle.std.specs.List.{flat_map}
use Rattle.am_tree.specs.Slots.{distinct, arguments}
use Rattle.am_tree.proofs.slots.shared.Given as goal

abbrev pub invariant-loop-production : goal.invariant-loop-production
invariant-loop-production l = record {
  items : distinct l.seen.items (flat_map arguments (drop l.production-index l.productions))
      ≡ distinct [] (flat_map arguments l.productions);
  len : length l.seen.items ≤ 3 * l.production-index;
}
