use Rattle.std.proofs.Common.{rules, arith}
use Rattle.am_all.proofs.Sets.{inserted}
use Rattle.am_all.proofs.word_set.WordSet.insert.Goals as goal

pub returns : goal.returns
returns c = λ d. inserted c.args.self.now.parts c.args.c d (search rules) (omega arith)
