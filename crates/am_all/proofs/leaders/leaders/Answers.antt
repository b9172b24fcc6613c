use Rattle.std.proofs.Common.{map, ◌∙◌}
use Rattle.std.proofs.lemmas.List.{length-map, map_push, take_all}
use Rattle.am_all.proofs.Lists.{taken}
use Rattle.am_all.proofs.TupleLaws.{tree-result, view-each, views-are}
use Rattle.am_all.proofs.leaders.leaders.Goals as goal

pub results-requires : goal.results-requires
results-requires c =
    let each = view-each (λ d. d.now) c.args.p.now c.args.cases.now c.args.tuples.now c.loop-tuple.tuple-index
    c.tuple-item.result c.requires.tuples c.loop-tuple-test.true c.tuple-item.is in
    record {
      few = c.requires.facts.few;
      cases = c.requires.facts.all_cases;
      tuple = rw c.as_slice.ensures each.0;
      trees = rw c.as_slice.ensures each.1;
    }

pub next_leaders-requires : goal.next_leaders-requires
next_leaders-requires c =
    let p = c.args.p.now in
    let each = view-each (λ d. d.now) p c.args.cases.now c.args.tuples.now c.loop-tuple.tuple-index
    c.tuple-item.result c.requires.tuples c.loop-tuple-test.true c.tuple-item.is in
    record {
      leaders = c.loop-tuple.invariant.results;
      result = rw (c.in_ok-numbers.ensures, c.as_slice.ensures)
          (tree-result p c.args.sets.now c.args.cases.now
          (map (λ d. d.now.tree) c.tuple-item.result) c.keeps_limits.ensures c.requires.facts each.1);
    }

pub loop-tuple-preserved : goal.loop-tuple-preserved
loop-tuple-preserved c =
    let p = c.args.p.now in
    let next = c.in_ok-leaders.ensures _ c.loop-tuple.invariant in
    rw (
      taken (λ tuple. map (λ d. d.now.tree) tuple) c.args.tuples.now c.loop-tuple.tuple-index c.tuple-item.result
          c.loop-tuple-test.true c.tuple-item.is,
      map_push,
    )
    (rw (c.in_ok-numbers.ensures, c.as_slice.ensures) at next)

pub returns : goal.returns
returns c =
    let all = take_all c.loop-tuple.tuple-index (map (λ tuple. map (λ d. d.now.tree) tuple) c.args.tuples.now)
    (simp length-map c.loop-tuple-test.false) in
    let trees = views-are (λ d. d.now) c.args.tuples.now ∙ c.requires.tuples.trees in
    rw (all, trees) at c.loop-tuple.invariant
