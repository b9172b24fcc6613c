use Rattle.std.proofs.Common.{arith, ◌≡◌, ◌∙◌, ◌++◌, ◌-◌, ap, take, All}
use Rattle.std.specs.List.Sorted.{IsStrictlyIncreasing}
use Rattle.std.proofs.lemmas.List.{length-map}
use Rattle.std.proofs.lemmas.List.Elements.{All-weaker}
use Rattle.am_lit.specs.Clause.{IsNormal}
use Rattle.am_lit.specs.UnitRow.{IsSettled}
use Rattle.am_trail.specs.Trails.{literals, upto}
use Rattle.am_solve.proofs.Decisions.{decided_at, kept_decided, unique_decided}
use Rattle.am_solve.proofs.Levels.{implied_above, low_literals}
use Rattle.am_solve.proofs.implied.analyse_decided.Goals as goal

pub resolve_all-requires : goal.resolve_all-requires
resolve_all-requires c = record {
  number = c.requires.number;
  untrue = c.requires.untrue;
  rise =
      All-weaker (IsNormal c.args.trail.now.vars) IsStrictlyIncreasing (λ x n. n.rising)
      (c.args.given.now ++ c.args.learnt.now) c.requires.normal;
  explained = c.requires.explained;
}

pub returns-clause-analysed : goal.returns-clause-analysed
returns-clause-analysed c =
    let t = c.args.trail.now in
    let es = t.entries in
    let start = c.count_upto-start.result in
    let clauses = c.args.given.now ++ c.args.learnt.now in
    let marks = c.in_ok-marks.field-0.marks.places.items in
    let one : c.level.result - 1 ≡ t.level - 1 = ap (λ n. n - 1) c.level.ensures in
    let low : literals (upto (t.level - 1) es) ≡ take start (literals es) =
    low_literals es (t.level - 1) start (c.count_upto-start.ensures.prefix ∙ ap (λ n. upto n es) one) in
    let settled : All (IsSettled (literals (upto (t.level - 1) es))) clauses =
    c.requires.below (t.level - 1) (omega arith) in
    record {
      marks = marks;
      start = start;
      low = low;
      unique =
          unique_decided clauses es marks c.args.conflict c.in_ok-marks.field-0.steps start c.in_ok-kept.kept.items
          c.in_ok-marks.ensures.resolved c.in_ok-marks.ensures.len
          (implied_above es t.level start c.known.ensures.leads
          (λ k d le lt. let up = c.count_upto-start.ensures.above k d le lt in omega (arith, up, one)))
          (rw low at settled) c.in_ok-kept.ensures;
    }

pub returns-clause-kept : goal.returns-clause-kept
returns-clause-kept c =
    kept_decided (c.args.given.now ++ c.args.learnt.now) c.args.trail.now.entries
    c.in_ok-marks.field-0.marks.places.items c.args.conflict c.in_ok-marks.field-0.steps c.count_upto-start.result
    c.in_ok-kept.kept.items
    c.in_ok-marks.ensures.resolved c.in_ok-marks.ensures.len c.in_ok-kept.ensures

pub returns-clause-left : goal.returns-clause-left
returns-clause-left c =
    let t = c.args.trail.now in
    let es = t.entries in
    let clauses = c.args.given.now ++ c.args.learnt.now in
    let start = c.count_upto-start.result in
    let marks = c.in_ok-marks.field-0.marks.places.items in
    let r = c.in_ok-marks.ensures.resolved in
    let one : c.level.result - 1 ≡ t.level - 1 = ap (λ n. n - 1) c.level.ensures in
    let low : literals (upto (t.level - 1) es) ≡ take start (literals es) =
    low_literals es (t.level - 1) start (c.count_upto-start.ensures.prefix ∙ ap (λ n. upto n es) one) in
    let settled : All (IsSettled (literals (upto (t.level - 1) es))) clauses =
    c.requires.below (t.level - 1) (omega arith) in
    let u =
    unique_decided clauses es marks c.args.conflict c.in_ok-marks.field-0.steps start c.in_ok-kept.kept.items r
    c.in_ok-marks.ensures.len
    (implied_above es t.level start c.known.ensures.leads
    (λ k d le lt. let up = c.count_upto-start.ensures.above k d le lt in omega (arith, up, one)))
    (rw low at settled) c.in_ok-kept.ensures in
    decided_at es start (omega (arith, u.inside, length-map es (λ e. e.literal)))
    (λ d. r.decided start d (omega arith) u.here)
