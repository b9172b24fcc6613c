use Rattle.std.proofs.Common.{◌≡◌, ◌+◌, ◌-◌, [], sum_by}
use Rattle.am_bv.specs.Terms.{nodes}
use Rattle.am_syntax.specs.Pieces.{times_from}
use Rattle.am_syntax.specs.Spelling.{scope_of}
use Rattle.am_syntax.proofs.TermSteps.{argument}
use Rattle.am_syntax.proofs.terms.+read_node.Given as goal

abbrev pub decreases-read_node : goal.decreases-read_node
decreases-read_node l = l.depth

abbrev pub invariant-arguments : goal.invariant-arguments
invariant-arguments l = record {
  room : l.room + sum_by nodes l.arguments ≡ l.initial.room;
  read : times_from (argument (scope_of l.w l.limits) (l.depth - 1) l.initial.room) (l.end - l.counter) l.arguments
      l.text ≡ times_from (argument (scope_of l.w l.limits) (l.depth - 1) l.initial.room) l.end [] l.initial.text;
}
