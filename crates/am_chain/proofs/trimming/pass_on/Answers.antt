use Rattle.am_chain.proofs.Needing.{passed_on}
use Rattle.am_chain.proofs.trimming.pass_on.Goals as goal

pub returns : goal.returns
returns c =
    passed_on c.args.given c.args.k c.args.log.now c.requires.names c.args.needed.now c.need_named.new.needed
    c.get.result.now c.get.ensures c.requires.len c.if-not-needed-k.false c.need_named.ensures c.requires.needed
