use Rattle.std.proofs.lemmas.List.{take_all}
use Rattle.am_bv.proofs.ByKind.{nodes-Node}
use Rattle.am_bv.proofs.term.Term.+nodes.Goals as goal

pub returns-after-loop-t : goal.returns-after-loop-t
returns-after-loop-t t c =
    let all = take_all _ _ c.loop-t-test.false in
    let law = nodes-Node c.in-Node.field-0 c.in-Node.args in
    cc
