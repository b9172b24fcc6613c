use Rattle.std.proofs.Common.{◌≡◌, ◌≤◌, take, length, vec_len, vec_capacity}
use Rattle.am_trail.specs.Trails.{literals}
use Rattle.am_trail.specs.inside.Places.{IsPlaced, variables}
use Rattle.am_trail.specs.inside.Values.{AreLiteralValues}
use Rattle.am_trail.proofs.places.keep_first.Given as goal

abbrev pub invariant-loop-entries : goal.invariant-loop-entries
invariant-loop-entries l = record {
  placed : IsPlaced (variables l.entries.items) l.places.items;
  values : AreLiteralValues (literals l.entries.items) l.values.items;
  entries : l.entries.items ≡ take (length l.entries.items) l.initial.entries.items;
  least : l.len ≤ length l.entries.items;
  most : length l.entries.items ≤ length l.initial.entries.items;
  room : vec_capacity l.initial.entries ≤ vec_capacity l.entries;
  len : vec_len l.places ≡ vec_len l.initial.places;
  both : vec_len l.values ≡ vec_len l.initial.values;
}

abbrev pub decreases-loop-entries : goal.decreases-loop-entries
decreases-loop-entries l = length l.entries.items
