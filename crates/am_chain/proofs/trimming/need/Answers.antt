use Rattle.std.proofs.Common.{arith}
use Rattle.am_chain.proofs.Needing.{need_set}
use Rattle.am_chain.proofs.trimming.need.Goals as goal

pub returns : goal.returns
returns c = need_set c.args.needed.now _ c.args.given c.args.number (omega arith) (omega arith) (omega arith)
