use Rattle.std.proofs.Common.{◌≡◌, ◌<◌, List, [], ℕ, length, ◌∙◌, arith}
use Rattle.std.specs.Prelude.{slice_index_or}
use Rattle.std.proofs.lemmas.List.{get_or_default}
use Rattle.std.proofs.lemmas.Result.{IfOk-weaker}
use Rattle.am_gate.proofs.Laws.{GivesStep-answer}
use Rattle.am_blast.specs.Words.{opposites}
use Rattle.am_blast.proofs.Words.{IsWord-opposites}
use Rattle.am_blast.proofs.operator.apply.Goals as goal

pub returns-in-Not-clause-ok : goal.returns-in-Not-clause-ok
returns-in-Not-clause-ok c =
    let args : List (List ℕ) = c.args.args.now in
    let some : 0 < length args = let one : length args ≡ 1 = rw c.in-Not.is at c.requires.count in omega (arith, one) in
    let a = slice_index_or args 0 [] in
    let here : c.as_slice-a.result.now ≡ a =
    c.as_slice-a.ensures ∙ (c.index-args-0.is ∙ get_or_default args 0 c.index-args-0.result [] some) in
    rw c.in-Not.is
    (IfOk-weaker c.opposites.result (λ r. r ≡ opposites c.as_slice-a.result.now) _
    (λ r e. rw (e, here)
    (GivesStep-answer (IsWord-opposites c.args.w c.args.circuit.now.vars a (c.requires.words 0 [] some))))
    c.opposites.ensures)
