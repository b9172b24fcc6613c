use Rattle.std.proofs.Common.{◌≡◌, length}
use Rattle.am_problem.specs.Kinds.{fields_of}
use Rattle.am_problem.specs.Limits.{IsFormed}
use Rattle.am_problem.proofs.Laws.{derivable_terms_fit}
use Rattle.am_query.proofs.Sizes.{transformers_have_few_nodes}
use Rattle.am_query.proofs.Stating.{Gives-failing}
use Rattle.am_query.proofs.statements.Statements.failing.Goals as goal

pub blast_all-requires-clause-fits : goal.blast_all-requires-clause-fits
blast_all-requires-clause-fits c =
    let formed : IsFormed c.args.self.now = rw c.self.view_is at c.keeps_limits.ensures.formed in
    rw (c.as_slice.ensures, c.width-2.ensures, c.requires.fields.many)
    (derivable_terms_fit c.args.self.now formed c.args.t.now c.requires.transformer).fit

pub blast_all-requires-clause-nodes : goal.blast_all-requires-clause-nodes
blast_all-requires-clause-nodes c =
    let formed : IsFormed c.args.self.now = rw c.self.view_is at c.keeps_limits.ensures.formed in
    rw c.as_slice.ensures (transformers_have_few_nodes c.args.self.now formed c.args.t.now c.requires.transformer)

pub exclude-requires-clause-tuple : goal.exclude-requires-clause-tuple
exclude-requires-clause-tuple c =
    let formed : IsFormed c.args.self.now = rw c.self.view_is at c.keeps_limits.ensures.formed in
    let counted : length c.args.t.now ≡ fields_of c.args.self.now.kind =
    (derivable_terms_fit c.args.self.now formed c.args.t.now c.requires.transformer).counted in
    rw (c.as_slice.ensures, c.width-2.ensures, counted) at c.in_ok-result.ensures.given

pub returns : goal.returns
returns c =
    let p = c.args.self.now in
    let operation : c.operation.result.now ≡ p.operation = rw c.self.view_is at c.operation.ensures in
    let value = rw (c.width.ensures, operation) at c.in_ok-value.ensures.ok in
    let five = rw (c.width-2.ensures, c.as_slice.ensures) at c.in_ok-result.ensures in
    Gives-failing p c.args.t.now c.args.fields.now c.args.words.now c.in_ok-valid_inputs.ensures c.in_ok-members.ensures
    c.in_ok-assumed.ensures value five c.in_ok-exclude.ensures
