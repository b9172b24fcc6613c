use Rattle.std.proofs.Common.{◌≡◌, ◌≤◌, [], ap, arith, flat_map, get_or, length, subst, sym, ◌∙◌}
use Rattle.std.specs.List.{concat}
use Rattle.am_domain.specs.Question.{results}
use Rattle.am_problem.proofs.Laws.{rows_are_short}
use Rattle.am_problem.specs.Examples.{IsFieldRow, all_fields, inputs_of}
use Rattle.am_problem.specs.Kinds.{abstraction_of}
use Rattle.am_problem.specs.Problem.{question_of}
use Rattle.am_flow.specs.States.{at}
use Rattle.am_flow.specs.Stored.{seen_operation}
use Rattle.am_flow.proofs.RowLaws.{concat-at, inputs_cut}
use Rattle.am_flow.proofs.step.applied.Goals as goal

pub inputs_at-inputs-requires-clause-few : goal.inputs_at-inputs-requires-clause-few
inputs_at-inputs-requires-clause-few c =
    let o = seen_operation c.args.operation.now in
    let row = c.args.row.now in
    let from = c.args.from.now in
    let cut = inputs_cut c.args.flow.now o from row c.requires.row c.requires.operation in
    let few : all_fields o.problem ≤ 12 = rows_are_short o.problem c.requires.operation.problem.formed in
    let same : length (concat (at [] row from)) ≡ length (flat_map (λ b. get_or row b []) from) =
    ap length (concat-at row from) in
    omega (arith, few, same, cut.0.counted)

pub result-raw-requires-clause-row : goal.result-raw-requires-clause-row
result-raw-requires-clause-row c =
    let o = seen_operation c.args.operation.now in
    let row = c.args.row.now in
    let from = c.args.from.now in
    let cut = inputs_cut c.args.flow.now o from row c.requires.row c.requires.operation in
    subst (IsFieldRow o.problem) (concat-at row from ∙ sym c.inputs_at-inputs.ensures) cut.0

pub returns : goal.returns
returns c =
    let f = c.args.flow.now in
    let o = seen_operation c.args.operation.now in
    let q = question_of o.problem in
    let row = c.args.row.now in
    let from = c.args.from.now in
    let cut = inputs_cut f o from row c.requires.row c.requires.operation in
    let inputs : c.inputs_at-inputs.result ≡ concat (at [] row from) =
    c.inputs_at-inputs.ensures ∙ sym (concat-at row from) in
    let raw = c.result-raw.result in
    c.tidy.ensures
    ∙ ap (λ k. (abstraction_of k).tidy c.width.result raw) c.kind.ensures
    ∙ ap (λ w. (abstraction_of f.kind).tidy w raw) c.width.ensures
    ∙ ap ((abstraction_of f.kind).tidy f.width)
    (c.result-raw.ensures.value
    ∙ ap (λ r. results q o.terms (inputs_of o.problem r)) inputs
    ∙ ap (results q o.terms) cut.1)
