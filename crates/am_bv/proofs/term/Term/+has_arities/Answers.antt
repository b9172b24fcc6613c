use Rattle.std.proofs.lemmas.List.{take_all}
use Rattle.am_bv.proofs.ByKind.{arities-Node}
use Rattle.am_bv.proofs.term.Term.+has_arities.Goals as goal

pub returns-after-loop-t : goal.returns-after-loop-t
returns-after-loop-t t c =
    let all = take_all _ _ c.loop-t-test.false in
    let law = arities-Node c.in-Node.op c.in-Node.args in
    cc
