use Rattle.std.proofs.Common.{arith, false, ◌++◌, ◌<◌, length}
use Rattle.std.proofs.lemmas.List.{length-map, length-set}
use Rattle.am_trail.specs.Trails.{literals}
use Rattle.am_trail.proofs.Laws.{consistent}
use Rattle.am_solve.proofs.Marked.{apart_of}
use Rattle.am_solve.proofs.Deriving.{derived_step, resolved_step}
use Rattle.am_solve.proofs.analysis.resolve_at.Goals as goal

pub returns-clause-resolved : goal.returns-clause-resolved
returns-clause-resolved c =
    let t = c.args.trail.now in
    let clauses = c.args.given.now ++ c.args.learnt.now in
    let old = c.args.marks.now.places.items in
    let new = c.mark_all.new.marks.places.items in
    let can = c.requires.can in
    let in_row : c.args.i < length (literals t.entries) =
    omega (arith, can.inside, length-map t.entries (λ e. e.literal)) in
    let in_marks : c.args.i < length old = omega (arith, can.inside, c.requires.fits.len) in
    let more =
    rw (c.unmark.ensures.places, c.clause_at.ensures, c.literal-l.ensures) at c.in_ok-mark_all.ensures.more in
    record {
      fits = record {
        len = omega (arith, more.count, length-set old c.args.i false, c.requires.fits.len);
        counted = c.in_ok-mark_all.ensures.counted;
      };
      count = omega (arith, c.unmark.ensures.count, c.in_ok-mark_all.ensures.grows);
      derived = λ first d.
          rw (c.in_ok-push.ensures.ok, c.variable.ensures, c.literal-l.ensures)
          (derived_step clauses (literals t.entries) (consistent t c.known.ensures) (apart_of t c.known.ensures)
          old first c.args.steps.now c.args.i new c.args.reason d in_row in_marks can.marked can.number can.rises
          can.forced more);
      resolved = λ first d.
          rw (c.in_ok-push.ensures.ok, c.variable.ensures, c.literal-l.ensures)
          (resolved_step clauses t.entries (consistent t c.known.ensures) (apart_of t c.known.ensures)
          old first c.args.steps.now c.args.i new c.args.reason d in_row in_marks can.marked can.number can.rises
          can.forced more);
    }
