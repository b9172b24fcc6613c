use Rattle.std.proofs.Common.{◌≡◌, length, subst}
use Rattle.am_slot.specs.Template.{AreOutputs}
use Rattle.am_problem.specs.Kinds.{fields_of}
use Rattle.am_problem.specs.Limits.{IsFormed}
use Rattle.am_problem.proofs.Laws.{derivable_terms_fit}
use Rattle.am_query.specs.Formulas.{encoding_of}
use Rattle.am_query.proofs.Sizes.{transformers_have_few_nodes}
use Rattle.am_query.proofs.Stating.{Gives-comparing}
use Rattle.am_query.proofs.statements.Statements.comparing.Goals as goal

pub blast_all-requires-clause-fits : goal.blast_all-requires-clause-fits
blast_all-requires-clause-fits c =
    let formed = subst IsFormed c.self.view_is c.keeps_limits.ensures.formed in
    rw (c.as_slice.ensures, c.width.ensures, c.requires.fields.many)
    (derivable_terms_fit c.args.self.now formed c.args.t.now c.requires.transformer).fit

pub blast_all-requires-clause-nodes : goal.blast_all-requires-clause-nodes
blast_all-requires-clause-nodes c =
    let formed = subst IsFormed c.self.view_is c.keeps_limits.ensures.formed in
    rw c.as_slice.ensures (transformers_have_few_nodes c.args.self.now formed c.args.t.now c.requires.transformer)

pub admit-requires-clause-tuple : goal.admit-requires-clause-tuple
admit-requires-clause-tuple c =
    let formed = subst IsFormed c.self.view_is c.keeps_limits.ensures.formed in
    let counted : length c.args.t.now ≡ fields_of c.args.self.now.kind =
    (derivable_terms_fit c.args.self.now formed c.args.t.now c.requires.transformer).counted in
    rw (c.as_slice.ensures, c.width.ensures, counted) at c.in_ok-result.ensures.given

pub returns : goal.returns
returns c =
    let p = c.args.self.now in
    let block = rw c.requires.template at c.in_ok-closer.ensures.ok in
    let three = rw (c.width.ensures, c.as_slice.ensures) at c.in_ok-result.ensures in
    let four = rw c.in_ok-admitted.ensures at c.in_ok-admit.ensures in
    let five = rw c.in_ok-excluded.ensures at c.in_ok-exclude.ensures in
    Gives-comparing p c.args.t.now c.args.fields.now {P = AreOutputs (encoding_of p)} c.args.word.now
    c.in_ok-valid_inputs.ensures block three four five
