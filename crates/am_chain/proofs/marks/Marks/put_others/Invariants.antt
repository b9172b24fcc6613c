use Rattle.std.proofs.Common.{take}
use Rattle.am_lit.specs.Literal.{variable_of}
use Rattle.am_chain.proofs.Marking.{AreJoinedMarks, IsSeen}
use Rattle.am_chain.proofs.marks.Marks.put_others.Given as goal

abbrev pub invariant-loop-l : goal.invariant-loop-l
invariant-loop-l s = record {
  seen : IsSeen s.found s.wanted (take s.l-index s.clause);
  joined : AreJoinedMarks s.fn.self (variable_of s.wanted) (take s.l-index s.clause) s.self;
}
