use Rattle.std.proofs.Common.{drop}
use Rattle.am_gate.specs.Circuit.{Net, Grows, Begins}
use Rattle.am_gate.specs.Build.{Follows}
use Rattle.am_slot.specs.Template.{told}
use Rattle.am_slot.proofs.stating.state_all.Given as goal

abbrev pub invariant-loop-i : goal.invariant-loop-i
invariant-loop-i l = record {
  follows : (end : Net) → Follows (told (drop l.i l.clauses)) l.circuit tt end
      → Follows (told l.clauses) l.initial.circuit tt end;
  grows : Grows l.i l.initial.circuit l.circuit;
  begins : Begins l.initial.circuit l.circuit;
}
