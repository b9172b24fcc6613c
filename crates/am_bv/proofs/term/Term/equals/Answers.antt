use Rattle.am_bv.proofs.Same.{same-decides}
use Rattle.am_bv.proofs.term.Term.equals.Goals as goal

pub returns : goal.returns
returns c = rw c.eq.ensures (same-decides _ _)
