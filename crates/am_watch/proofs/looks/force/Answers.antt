use Rattle.std.proofs.Common.{◌++◌, ◌∷◌, [], refl, get_or}
use Rattle.std.specs.Prelude.{Some}
use Rattle.std.proofs.lemmas.List.Elements.{Contains-push}
use Rattle.am_trail.specs.declared.entry.Entry.{Entry}
use Rattle.am_trail.specs.Trails.{literals}
use Rattle.am_watch.proofs.Keeping.{with_entry}
use Rattle.am_trail.proofs.Laws.{literal_in}
use Rattle.am_watch.proofs.Extending.{forced_false, Extends-imply}
use Rattle.am_watch.proofs.looks.force.Goals as goal

pub returns-in-Some-clause-no : goal.returns-in-Some-clause-no
returns-in-Some-clause-no c = λ e.
    forced_false (literals c.args.trail.now.entries) (get_or (c.args.given.now ++ c.args.learnt.now) c.args.number [])
    c.args.l c.requires.forced (rw e at c.in-Some.ensures.some)

pub returns-in-None-clause-yes : goal.returns-in-None-clause-yes
returns-in-None-clause-yes c = λ e.
    let t = c.args.trail.now in
    let x : Entry = record { literal = c.args.l; level = t.level; reason = Some c.args.number } in
    rw c.imply.ensures (literal_in (t.entries ++ x ∷ []) x (Contains-push t.entries x))

pub returns-in-None-clause-extends : goal.returns-in-None-clause-extends
returns-in-None-clause-extends c =
    rw c.imply.ensures (Extends-imply (c.args.given.now ++ c.args.learnt.now) c.args.trail.now c.args.l c.args.number
    c.requires.number c.requires.forced)

pub returns-in-None-clause-holds : goal.returns-in-None-clause-holds
returns-in-None-clause-holds c = λ lists pairs fresh h.
    let t = c.args.trail.now in
    let x : Entry = record { literal = c.args.l; level = t.level; reason = Some c.args.number } in
    rw c.imply.ensures (with_entry lists pairs fresh (c.args.given.now ++ c.args.learnt.now) t h x refl
    c.known.ensures.passed)
