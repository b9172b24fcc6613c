use Rattle.std.proofs.lemmas.List.{take_all}
use Rattle.am_bv.proofs.ByKind.{rename-Node}
use Rattle.am_bv.proofs.term.Term.+rename.Goals as goal

pub returns-after-loop-t : goal.returns-after-loop-t
returns-after-loop-t t c =
    let all = take_all _ _ c.loop-t-test.false in
    let law = rename-Node c.args.fields.now c.in-Node.op c.in-Node.args in
    cc
