use Rattle.std.proofs.Common.{◌≡◌, ◌+◌, ◌^◌, min, sum_by, take}
use Rattle.am_bv.specs.Terms.{nodes}
use Rattle.am_bv.proofs.term.Term.+nodes.Given as goal

abbrev pub invariant-loop-t : goal.invariant-loop-t
invariant-loop-t l = l.count ≡ min (1 + sum_by nodes (take l.t-index l.t-items)) (2 ^ 32)
