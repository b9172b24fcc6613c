use Rattle.std.proofs.Common.{◌∙◌, ◌++◌, ◌<◌, [], false, length, sym, get_or, arith}
use Rattle.std.specs.Prelude.{None}
use Rattle.std.specs.List.Sorted.{IsStrictlyIncreasing}
use Rattle.std.proofs.lemmas.List.{get_or_default}
use Rattle.std.proofs.lemmas.List.Elements.{All-get_or, Contains-get_or}
use Rattle.am_trail.specs.declared.entry.Entry.{Entry}
use Rattle.am_solve.proofs.Decisions.{none_of}
use Rattle.am_solve.proofs.Deriving.{resolved_over}
use Rattle.am_solve.proofs.Marked.{value_at, entry_var}
use Rattle.am_solve.proofs.Starting.{reason_facts}
use Rattle.am_solve.proofs.implied.resolve_implied.Goals as goal

pub reason-requires : goal.reason-requires
reason-requires c =
    value_at c.args.trail.now c.args.i c.literal.result c.variable.result c.requires.inside c.literal.ensures
    c.variable.ensures

pub returns-in_default-clause-resolved : goal.returns-in_default-clause-resolved
returns-in_default-clause-resolved c = λ first d.
    let t = c.args.trail.now in
    resolved_over (c.args.given.now ++ c.args.learnt.now) t.entries c.args.marks.now.places.items first c.args.steps.now
    c.args.i d
    (λ e on. sym
    (c.reason.ensures (get_or t.entries c.args.i e) (Contains-get_or t.entries c.args.i e c.requires.inside)
    (entry_var t c.args.i c.literal.result c.variable.result e c.requires.inside c.literal.ensures
    c.variable.ensures))
    ∙ none_of c.reason.result c.in_default.not-Some)

pub resolve_at-requires : goal.resolve_at-requires
resolve_at-requires c =
    let t = c.args.trail.now in
    let clauses = c.args.given.now ++ c.args.learnt.now in
    let d : Entry = record { literal = 0; level = 0; reason = None } in
    let e = get_or t.entries c.args.i d in
    let facts =
    reason_facts clauses t c.args.i c.in-Some.reason d c.requires.explained c.requires.inside
    (sym
    (c.reason.ensures e (Contains-get_or t.entries c.args.i d c.requires.inside)
    (entry_var t c.args.i c.literal.result c.variable.result d c.requires.inside c.literal.ensures
    c.variable.ensures))
    ∙ c.in-Some.is) in
    let places = c.args.marks.now.places.items in
    let in_marks : c.args.i < length places = omega (arith, c.requires.inside, c.requires.fits.len) in
    record {
      can = record {
        number = facts.0;
        forced = facts.1;
        rises = All-get_or IsStrictlyIncreasing clauses c.in-Some.reason [] facts.0 c.requires.rise;
        inside = c.requires.inside;
        marked =
            get_or_default places c.args.i false c.index.result.now in_marks
            ∙ sym c.index.ensures ∙ c.if-not-index.false;
        high = omega (arith, c.requires.start);
      };
      fits = c.requires.fits;
    }
