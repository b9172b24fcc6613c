use Rattle.std.proofs.Common.{◌≡◌, ◌++◌, [], ◌∷◌, ap, length, length-append, arith}
use Rattle.am_trail.specs.Trails.{literals}
use Rattle.am_trail.proofs.Entries.{last_below, last_free, literals-push, take_back, prefix_less}
use Rattle.am_trail.proofs.places.keep_first.Goals as goal

pub index_mut-requires : goal.index_mut-requires
index_mut-requires c = omega (
  arith,
  c.variable-variable.ensures,
  c.loop-entries.places.ok.0,
  last_below c.loop-entries.entries.items c.loop-entries.places.items c.loop-entries.invariant.placed
      c.pop.new.self.items c.in-Some.entry c.in-Some.ensures.items,
)

pub set_free-requires : goal.set_free-requires
set_free-requires c = omega (
  arith,
  c.loop-entries.invariant.both,
  c.loop-entries.places.ok.0,
  last_below c.loop-entries.entries.items c.loop-entries.places.items c.loop-entries.invariant.placed
      c.pop.new.self.items c.in-Some.entry c.in-Some.ensures.items,
)

pub loop-entries-preserved-in-Some : goal.loop-entries-preserved-in-Some
loop-entries-preserved-in-Some c =
    let before = c.loop-entries.entries.items in
    let rest = c.pop.new.self.items in
    let popped : before ≡ rest ++ c.in-Some.entry ∷ [] = c.in-Some.ensures.items in
    let lengths = ap length popped in
    let one = length-append rest (c.in-Some.entry ∷ []) in
    record {
      values = c.set_free.ensures.values (literals rest)
          (rw (popped, literals-push rest c.in-Some.entry) at c.loop-entries.invariant.values)
          (last_free before c.loop-entries.places.items c.loop-entries.invariant.placed rest c.in-Some.entry popped);
      placed = rw c.variable-variable.ensures
          (take_back before c.loop-entries.places.items c.loop-entries.invariant.placed rest c.in-Some.entry popped);
      entries = prefix_less c.args.entries.now.items before rest c.in-Some.entry popped
          c.loop-entries.invariant.entries;
      least = omega (arith, c.loop-entries.entries.ok.0);
      most = omega (arith, c.loop-entries.invariant.most);
      room = omega arith;
      len = c.loop-entries.invariant.len;
      both = omega (arith, c.loop-entries.invariant.both);
    }
