use Rattle.std.proofs.Common.{arith, ◌≡◌, ◌<◌, ◌∙◌, ◌++◌, [], sym, get_or, length}
use Rattle.std.specs.Prelude.{None}
use Rattle.std.specs.List.Sorted.{IsStrictlyIncreasing}
use Rattle.std.proofs.lemmas.List.{length-map}
use Rattle.std.proofs.lemmas.List.Elements.{All-get_or}
use Rattle.am_trail.specs.declared.entry.Entry.{Entry}
use Rattle.am_trail.specs.Trails.{literals}
use Rattle.am_solve.proofs.Counting.{start_before, marked_in}
use Rattle.am_solve.proofs.Marked.{apart_of}
use Rattle.am_solve.proofs.Starting.{untrue_besides, derived_first, first_counted, derived_down, reason_facts}
use Rattle.am_solve.proofs.Unique.{unique_of}
use Rattle.am_solve.proofs.analysis.first_unique.Goals as goal

pub mark_all-requires-clause-untrue : goal.mark_all-requires-clause-untrue
mark_all-requires-clause-untrue c =
    rw c.clause_at.ensures
    (untrue_besides (literals c.args.trail.now.entries)
    (get_or (c.args.given.now ++ c.args.learnt.now) c.args.conflict []) c.absent_literal-absent.result
    c.requires.conflict.untrue)

pub mark_all-requires-clause-counted : goal.mark_all-requires-clause-counted
mark_all-requires-clause-counted c = c.in_ok-marks.ensures.counted (literals c.args.trail.now.entries)

pub last_marked-place-requires-clause-some : goal.last_marked-place-requires-clause-some
last_marked-place-requires-clause-some c =
    let t = c.args.trail.now in
    let row = literals t.entries in
    let clauses = c.args.given.now ++ c.args.learnt.now in
    let more = rw c.clause_at.ensures at c.in_ok-mark_all.ensures.more in
    let start : c.mark_all.new.marks.start ≡ c.args.start = c.mark_all.ensures.start ∙ c.in_ok-marks.ensures.start in
    first_counted clauses row c.in_ok-marks.marks.places.items c.mark_all.new.marks.places.items c.args.conflict
    c.absent_literal-absent.result more c.in_ok-marks.ensures.none
    (c.absent_literal-absent.ensures (get_or clauses c.args.conflict []) c.requires.conflict.untrue)
    c.mark_all.new.marks.start c.mark_all.new.marks.kept.items c.mark_all.new.marks.count c.requires.leads.reaches.0
    (apart_of t c.known.ensures) c.in_ok-mark_all.ensures.counted
    (omega (arith, start, c.requires.leads.reaches.1))
    (omega (arith, c.requires.leads.reaches.2, length-map t.entries (λ e. e.literal))) c.requires.leads.reaches.3

pub loop-marks-init : goal.loop-marks-init
loop-marks-init c =
    let t = c.args.trail.now in
    let row = literals t.entries in
    let clauses = c.args.given.now ++ c.args.learnt.now in
    let more = rw c.clause_at.ensures at c.in_ok-mark_all.ensures.more in
    let start : c.mark_all.new.marks.start ≡ c.args.start = c.mark_all.ensures.start ∙ c.in_ok-marks.ensures.start in
    let len : length c.mark_all.new.marks.places.items ≡ length t.entries =
    more.count ∙ c.in_ok-marks.ensures.len ∙ c.len.ensures in
    let absent = c.absent_literal-absent.ensures (get_or clauses c.args.conflict []) c.requires.conflict.untrue in
    let first =
    derived_first clauses row c.in_ok-marks.marks.places.items c.mark_all.new.marks.places.items c.args.conflict
    c.absent_literal-absent.result more c.in_ok-marks.ensures.none absent
    (All-get_or IsStrictlyIncreasing clauses c.args.conflict [] c.requires.conflict.number c.requires.conflict.rise)
    (len ∙ sym (length-map t.entries (λ e. e.literal))) in
    record {
      start = start;
      len = len;
      some =
          first_counted clauses row c.in_ok-marks.marks.places.items c.mark_all.new.marks.places.items c.args.conflict
          c.absent_literal-absent.result more c.in_ok-marks.ensures.none absent
          c.mark_all.new.marks.start c.mark_all.new.marks.kept.items c.mark_all.new.marks.count
          c.requires.leads.reaches.0
          (apart_of t c.known.ensures) c.in_ok-mark_all.ensures.counted
          (omega (arith, start, c.requires.leads.reaches.1))
          (omega (arith, c.requires.leads.reaches.2, length-map t.entries (λ e. e.literal))) c.requires.leads.reaches.3;
      high = omega (arith, start, c.last_marked-place.ensures.start);
      here = c.last_marked-place.ensures.marked;
      counted = c.in_ok-mark_all.ensures.counted;
      derived =
          rw c.new-steps.ensures
          (derived_down clauses row c.mark_all.new.marks.places.items c.args.conflict [] (length row)
          c.last_marked-place.result first
          (omega (
            arith,
            c.last_marked-place.ensures.before,
            c.len-2.ensures,
            length-map t.entries (λ e. e.literal),
          ))
          c.last_marked-place.ensures.above);
    }

pub reason_at-reason-requires-clause-implied : goal.reason_at-reason-requires-clause-implied
reason_at-reason-requires-clause-implied c = λ d.
    let t = c.args.trail.now in
    let i = c.loop-marks.invariant in
    let low =
    start_before (literals t.entries) c.loop-marks.marks.start c.loop-marks.marks.places.items
    c.loop-marks.marks.kept.items c.loop-marks.marks.count c.loop-marks.place i.counted (omega arith)
    (omega (arith, i.high, i.start)) i.here (λ k lt. i.derived.above k (omega arith)) in
    c.requires.leads.implied c.loop-marks.place d (omega (arith, low, i.start))
    (omega (arith, marked_in c.loop-marks.marks.places.items c.loop-marks.place i.here, i.len))

pub resolve_at-requires : goal.resolve_at-requires
resolve_at-requires c =
    let i = c.loop-marks.invariant in
    let clauses = c.args.given.now ++ c.args.learnt.now in
    let d : Entry = record { literal = 0; level = 0; reason = None } in
    let inside : c.loop-marks.place < length c.args.trail.now.entries =
    omega (arith, marked_in c.loop-marks.marks.places.items c.loop-marks.place i.here, i.len) in
    let facts =
    reason_facts clauses c.args.trail.now c.loop-marks.place c.reason_at-reason.result d c.requires.conflict.explained
    inside (c.reason_at-reason.ensures d) in
    record {
      can = record {
        number = facts.0;
        forced = facts.1;
        rises = All-get_or IsStrictlyIncreasing clauses c.reason_at-reason.result [] facts.0 c.requires.conflict.rise;
        inside = inside;
        marked = i.here;
        high = omega (arith, i.high, i.start);
      };
      fits = record { len = i.len; counted = i.counted };
    }

pub last_marked-place-requires-in-loop-marks-clause-above :
    goal.last_marked-place-requires-in-loop-marks-clause-above
last_marked-place-requires-in-loop-marks-clause-above c =
    (c.in_ok-resolve_at.ensures.resolved.derived c.args.conflict c.loop-marks.invariant.derived).above

pub loop-marks-preserved : goal.loop-marks-preserved
loop-marks-preserved c =
    let i = c.loop-marks.invariant in
    let next = c.last_marked-place-in-loop-marks.ensures in
    record {
      start = c.resolve_at.ensures.start ∙ i.start;
      len = c.in_ok-resolve_at.ensures.resolved.fits.len;
      some = omega (arith, c.in_ok-resolve_at.ensures.resolved.count);
      high = omega (arith, next.start, c.resolve_at.ensures.start, i.start);
      here = next.marked;
      counted = c.in_ok-resolve_at.ensures.resolved.fits.counted;
      derived =
          derived_down (c.args.given.now ++ c.args.learnt.now) (literals c.args.trail.now.entries)
          c.resolve_at.new.marks.places.items c.args.conflict c.resolve_at.new.steps c.loop-marks.place
          c.last_marked-place-in-loop-marks.result
          (c.in_ok-resolve_at.ensures.resolved.derived c.args.conflict i.derived) next.before next.above;
    }

pub returns : goal.returns
returns c =
    let i = c.loop-marks.invariant in
    let row = literals c.args.trail.now.entries in
    let one : c.loop-marks.marks.count ≡ 1 = omega (arith, i.some, c.loop-marks-test.false) in (
      c.loop-marks.marks.places.items,
      unique_of (c.args.given.now ++ c.args.learnt.now) row c.args.start c.args.conflict c.loop-marks.marks.places.items
          c.loop-marks.marks.kept.items c.loop-marks.steps c.loop-marks.place
          i.high i.here (i.len ∙ sym (length-map c.args.trail.now.entries (λ e. e.literal)))
          (rw (i.start, one) at i.counted) i.derived,
    )
