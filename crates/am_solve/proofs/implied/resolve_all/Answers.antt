use Rattle.std.proofs.Common.{arith, ◌≡◌, ◌∙◌, ◌++◌, ◌+◌, ◌-◌, [], get_or, length}
use Rattle.std.specs.List.Sorted.{IsStrictlyIncreasing}
use Rattle.std.proofs.lemmas.List.Elements.{All-get_or}
use Rattle.am_trail.specs.Trails.{literals}
use Rattle.am_trail.proofs.Laws.{consistent}
use Rattle.am_solve.proofs.Decisions.{resolved_first}
use Rattle.am_solve.proofs.Marked.{apart_of}
use Rattle.am_solve.proofs.Starting.{untrue_besides}
use Rattle.am_solve.proofs.implied.resolve_all.Goals as goal

pub mark_all-requires-clause-untrue : goal.mark_all-requires-clause-untrue
mark_all-requires-clause-untrue c =
    rw c.clause_at.ensures
    (untrue_besides (literals c.args.trail.now.entries)
    (get_or (c.args.given.now ++ c.args.learnt.now) c.args.conflict []) c.absent_literal-absent.result
    c.requires.untrue)

pub mark_all-requires-clause-counted : goal.mark_all-requires-clause-counted
mark_all-requires-clause-counted c = c.in_ok-marks.ensures.counted (literals c.args.trail.now.entries)

pub loop-i-init : goal.loop-i-init
loop-i-init c =
    let t = c.args.trail.now in
    let clauses = c.args.given.now ++ c.args.learnt.now in
    let more = rw c.clause_at.ensures at c.in_ok-mark_all.ensures.more in
    let start : c.mark_all.new.marks.start ≡ 0 = c.mark_all.ensures.start ∙ c.in_ok-marks.ensures.start in
    let long : length c.mark_all.new.marks.places.items ≡ length t.entries =
    more.count ∙ c.in_ok-marks.ensures.len ∙ c.len.ensures in
    record {
      inside = omega arith;
      start = start;
      len = long;
      counted = c.in_ok-mark_all.ensures.counted;
      resolved =
          rw (c.new-steps.ensures, c.len-i.ensures)
          (resolved_first clauses t.entries c.in_ok-marks.marks.places.items c.mark_all.new.marks.places.items
          c.args.conflict c.absent_literal-absent.result
          (consistent t c.known.ensures) (apart_of t c.known.ensures) more c.in_ok-marks.ensures.none
          (c.absent_literal-absent.ensures (get_or clauses c.args.conflict []) c.requires.untrue)
          (All-get_or IsStrictlyIncreasing clauses c.args.conflict [] c.requires.number c.requires.rise)
          c.requires.number long c.requires.untrue);
    }

pub loop-i-preserved : goal.loop-i-preserved
loop-i-preserved c =
    let i = c.loop-i.invariant in
    let back : c.loop-i.i - 1 + 1 ≡ c.loop-i.i = omega arith in
    record {
      inside = omega arith;
      start = c.in_ok-resolve_implied.ensures.start;
      len = c.in_ok-resolve_implied.ensures.fits.len;
      counted = c.in_ok-resolve_implied.ensures.fits.counted;
      resolved = c.in_ok-resolve_implied.ensures.resolved c.args.conflict (rw back i.resolved);
    }
