use Rattle.std.proofs.Common.{◌≤◌, length, map, ap, sym, ◌∙◌, subst}
use Rattle.std.proofs.lemmas.List.{take_all}
use Rattle.am_bv.specs.Terms.{val}
use Rattle.am_domain.specs.Tuple.{IsTuple}
use Rattle.am_problem.specs.Kinds.{fields_of}
use Rattle.am_problem.proofs.Inputs.{results_are_values}
use Rattle.am_problem.proofs.Fitting.{results_are_tuples}
use Rattle.am_problem.proofs.problem.Problem.result.Goals as goal

pub returns-clause-value : goal.returns-clause-value
returns-clause-value c =
    let p = c.args.self.now in
    let row = c.args.inputs.now in
    let i = c.loop-term.term-index in
    let past : length c.args.t.now ≤ i = rw c.as_slice-term-items.ensures at c.loop-term-test.false in
    c.loop-term.invariant ∙ ap (map (λ t. val p.width t row)) (take_all i c.args.t.now past)
    ∙ sym (results_are_values p c.args.t.now row c.requires.row)

pub returns-clause-tuple : goal.returns-clause-tuple
returns-clause-tuple c =
    let p = c.args.self.now in
    let formed = c.keeps_limits.ensures.formed in
    subst (IsTuple p.width (fields_of p.kind)) (sym (returns-clause-value c))
    (results_are_tuples p formed c.args.t.now c.args.inputs.now c.requires.transformer c.requires.row)
