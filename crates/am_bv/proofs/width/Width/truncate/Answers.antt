use Rattle.std.proofs.lemmas.Nat.{and_mask}
use Rattle.am_bv.proofs.width.Width.truncate.Goals as goal

pub returns-clause-value : goal.returns-clause-value
returns-clause-value c = rw c.mask.ensures.value (and_mask c.args.byte c.args.self)
