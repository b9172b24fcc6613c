use Rattle.std.proofs.Common.{◌≡◌, ◌+◌, ◌-◌, ◌≤◌}
use Rattle.am_gate.specs.Circuit.{Net, Grows, Begins}
use Rattle.am_gate.specs.Build.{Follows}
use Rattle.am_slot.specs.Template.{inputs}
use Rattle.am_slot.proofs.stating.make_inputs.Given as goal

abbrev pub invariant-loop : goal.invariant-loop
invariant-loop l = record {
  place : l.counter ≤ l.count;
  follows : (end : Net) → Follows (inputs (l.count - l.counter)) l.circuit tt end
      → Follows (inputs l.count) l.initial.circuit tt end;
  vars : l.circuit.vars ≡ l.initial.circuit.vars + l.counter;
  grows : Grows l.counter l.initial.circuit l.circuit;
  begins : Begins l.initial.circuit l.circuit;
}
