use Rattle.std.specs.List.{AllZip}
use Rattle.std.proofs.Common.{replicate}
use Rattle.std.proofs.lemmas.Result.{IfOk-weaker}
use Rattle.am_tree.specs.Listed.{choices}
use Rattle.am_all.specs.inside.Cases.{AreCases, IsCaseBy}
use Rattle.am_all.proofs.InputLaws.{all-cases}
use Rattle.am_all.proofs.cases.all_cases.Goals as goal

pub returns : goal.returns
returns c =
    let p = c.args.p.now in
    let outcomes = c.in_ok-outcomes.outcomes in
    let rows = rw (c.as_slice.ensures, c.in_ok-lists.ensures, c.inputs.ensures) at c.in_ok-rows.ensures in
    IfOk-weaker c.cases.result (AllZip (IsCaseBy outcomes) (choices (replicate p.inputs c.args.values.now)))
    (AreCases p)
    (λ cases zip. all-cases p c.args.values.now outcomes cases c.requires c.in_ok-outcomes.ensures zip)
    (rw (c.as_slice-2.ensures, c.as_slice-3.ensures, rows) at c.cases.ensures)
