use Rattle.std.proofs.Common.{replicate}
use Rattle.std.proofs.lemmas.Result.{IfOk-weaker}
use Rattle.am_tree.specs.Listed.{choices}
use Rattle.am_all.specs.inside.Cases.{AreOutcomes, AreOutcomesAt}
use Rattle.am_all.proofs.InputLaws.{all-outcomes, all-tuples}
use Rattle.am_all.proofs.cases.all_outcomes.Goals as goal

pub outcomes-requires : goal.outcomes-requires
outcomes-requires c =
    let p = c.args.p.now in
    let words = c.in_ok-words.words in
    let rows = rw (c.as_slice-2.ensures, c.in_ok-lists.ensures, c.inputs.ensures, c.as_slice.ensures) at
    c.in_ok-rows.ensures in
    rw (c.as_slice-3.ensures, rows) (all-tuples p.width p.inputs words (rw c.width.ensures at c.in_ok-words.ensures))

pub returns : goal.returns
returns c =
    let p = c.args.p.now in
    let words = c.in_ok-words.words in
    let rows = rw (c.as_slice-2.ensures, c.in_ok-lists.ensures, c.inputs.ensures, c.as_slice.ensures) at
    c.in_ok-rows.ensures in
    IfOk-weaker c.outcomes.result (AreOutcomesAt p (choices (replicate p.inputs words))) (AreOutcomes p)
    (λ outcomes found. all-outcomes p words outcomes (rw c.width.ensures at c.in_ok-words.ensures) found)
    (rw (c.as_slice-3.ensures, rows) at c.outcomes.ensures)
