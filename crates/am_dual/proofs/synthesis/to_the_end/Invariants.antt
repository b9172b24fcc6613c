use Rattle.am_dual.specs.inside.Underway.{GoesOn, IsRightNext, trace_so_far, turns_left}
use Rattle.am_dual.proofs.synthesis.to_the_end.Given as goal

abbrev pub invariant-loop-next : goal.invariant-loop-next
invariant-loop-next l = record {
  right : IsRightNext l.p l.next;
  kept : GoesOn (trace_so_far l.initial.next) (trace_so_far l.next);
}

abbrev pub decreases-loop-next : goal.decreases-loop-next
decreases-loop-next l = turns_left l.p l.next
