use Rattle.std.proofs.Common.{◌≡◌, take}
use Rattle.am_bv.proofs.term.Term.+copy.Given as goal

abbrev pub invariant-loop-t : goal.invariant-loop-t
invariant-loop-t l = l.copies ≡ take l.t-index l.t-items
