use Rattle.std.proofs.Common.{◌≡◌, map, take}
use Rattle.am_bv.specs.Terms.{rename}
use Rattle.am_bv.proofs.term.Term.+rename.Given as goal

abbrev pub invariant-loop-t : goal.invariant-loop-t
invariant-loop-t l = l.renamed ≡ map (rename l.fields) (take l.t-index l.t-items)
