use Rattle.std.proofs.Common.{◌≡◌, ◌≤◌, ◌-◌, ◌+◌, length}
use Rattle.std.specs.Io.KnownBytes.{Consumes}
use Rattle.am_io.proofs.reading.read_all.Given as goal

abbrev pub invariant-reading : goal.invariant-reading
invariant-reading g l = record {
  short : length l.text.items ≤ l.limit;
  buffer : length l.buffer ≡ 65536;
  bytes : Consumes (g.R.Source.left l.initial.src) (g.R.Source.left l.src) l.text.items;
  faults : g.R.Source.faults l.src ≡ g.R.Source.faults l.initial.src;
  calls : g.R.Source.calls l.src ≤ g.R.Source.calls l.initial.src + length l.text.items;
}

abbrev pub decreases-reading : goal.decreases-reading
decreases-reading g l = l.limit + 1 - length l.text.items
