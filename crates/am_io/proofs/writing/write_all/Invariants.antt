use Rattle.std.proofs.Common.{◌≡◌, ◌≤◌, ◌+◌, ◌-◌, length, take}
use Rattle.std.specs.Io.KnownBytes.{Appends}
use Rattle.am_io.proofs.writing.write_all.Given as goal

abbrev pub invariant-loop-done : goal.invariant-loop-done
invariant-loop-done g l = record {
  within : l.done ≤ length l.bytes;
  taken : Appends (g.W.Sink.taken l.initial.sink) (g.W.Sink.taken l.sink) (take l.done l.bytes);
  faults : g.W.Sink.faults l.sink ≡ g.W.Sink.faults l.initial.sink;
  calls : g.W.Sink.calls l.sink ≤ g.W.Sink.calls l.initial.sink + l.done;
  finishes : g.W.Sink.finishes l.sink ≤ g.W.Sink.finishes l.initial.sink;
}

abbrev pub decreases-loop-done : goal.decreases-loop-done
decreases-loop-done g l = length l.bytes - l.done
