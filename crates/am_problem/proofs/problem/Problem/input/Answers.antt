use Rattle.std.proofs.Common.{◌≡◌, ap, sym, ◌∙◌}
use Rattle.am_problem.specs.Kinds.{fields_of}
use Rattle.am_problem.proofs.Inputs.{input-tuple, inputs_are_parts}
use Rattle.am_problem.proofs.problem.Problem.input.Goals as goal

pub returns-clause-value : goal.returns-clause-value
returns-clause-value c =
    let p = c.args.self.now in
    let told = c.fields-fields.ensures.value in
    let fields : c.fields-fields.result ≡ fields_of p.kind = told ∙ ap fields_of c.kind.ensures in
    let part = rw (fields, c.as_slice-row.ensures.value) at c.from_slice.ensures in
    part ∙ sym (inputs_are_parts p c.args.inputs.now c.args.i c.requires.place)

pub returns-clause-tuple : goal.returns-clause-tuple
returns-clause-tuple c =
    let value = returns-clause-value c in
    input-tuple c.args.self.now c.args.inputs.now c.args.i c.from_slice.result c.requires.row c.requires.place value
