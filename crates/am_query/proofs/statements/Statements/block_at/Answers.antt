use Rattle.std.proofs.Common.{◌≡◌, ◌<◌, map, length, ◌∙◌, subst, arith}
use Rattle.std.proofs.lemmas.List.{length-map}
use Rattle.am_blast.specs.Words.{constant}
use Rattle.am_problem.specs.Examples.{all_fields}
use Rattle.am_problem.specs.Limits.{IsFormed}
use Rattle.am_query.proofs.Blocks.{over_fields}
use Rattle.am_query.proofs.Tuples.{constants-words}
use Rattle.am_query.proofs.statements.Statements.block_at.Goals as goal

pub at-requires-clause-over : goal.at-requires-clause-over
at-requires-clause-over c =
    let p = c.args.self.now in
    let formed = subst IsFormed c.self.view_is c.keeps_limits.ensures.formed in
    let same : c.as_slice-2.result.now ≡ map (constant p.width) c.args.row.now =
    rw (c.width.ensures, c.as_slice.ensures.value) at (c.as_slice-2.ensures ∙ c.in_ok-fields.ensures) in
    let many : length c.as_slice-2.result.now ≡ all_fields p =
    rw same (length-map c.args.row.now (constant p.width) ∙ c.requires.row.counted) in
    rw c.requires.template (over_fields p formed (length c.as_slice-2.result.now) many)

pub at-requires-clause-fields : goal.at-requires-clause-fields
at-requires-clause-fields c =
    let p = c.args.self.now in
    let pos : 0 < c.args.circuit.now.vars = omega (arith, c.requires.selectors) in
    let same : c.as_slice-2.result.now ≡ map (constant p.width) c.args.row.now =
    rw (c.width.ensures, c.as_slice.ensures.value) at (c.as_slice-2.ensures ∙ c.in_ok-fields.ensures) in
    rw (same, c.requires.template) (constants-words p.width c.args.circuit.now.vars pos c.args.row.now).each

pub returns : goal.returns
returns c =
    let p = c.args.self.now in
    let formed = subst IsFormed c.self.view_is c.keeps_limits.ensures.formed in
    let same : c.as_slice-2.result.now ≡ map (constant p.width) c.args.row.now =
    rw (c.width.ensures, c.as_slice.ensures.value) at (c.as_slice-2.ensures ∙ c.in_ok-fields.ensures) in
    let made = rw (c.requires.template, same) at c.in_ok-result.ensures.ok in
    record {
      follows = made.follows;
      given = record { many = made.given.many ∙ formed.start_per_field; each = made.given.each };
      grows = made.grows;
    }
