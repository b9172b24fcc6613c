use Rattle.std.proofs.Common.{◌≡◌, take, ◌&&◌}
use Rattle.std.specs.List.{list_all}
use Rattle.am_bv.specs.Terms.{has_arities}
use Rattle.am_bv.proofs.term.Term.+has_arities.Given as goal

abbrev pub invariant-loop-t : goal.invariant-loop-t
invariant-loop-t l = l.right ≡ (l.initial.right && list_all has_arities (take l.t-index l.t-items))
