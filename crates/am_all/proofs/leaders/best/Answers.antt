use Rattle.std.proofs.Common.{◌+◌, List, map, take, sym, ap, ◌∙◌, subst}
use Rattle.std.proofs.lemmas.List.{length-map, take_all}
use Rattle.am_tree.specs.declared.tree.Tree.{Tree}
use Rattle.am_all.specs.AllBest.{GivesBest, KeepsWhere, ends}
use Rattle.am_all.specs.inside.Leaders.{tree_numbers}
use Rattle.am_all.proofs.BestLaws.{keeps-kept, keeps-dropped}
use Rattle.am_all.proofs.Leading.{leading-best, led-not_best}
use Rattle.am_all.proofs.Lists.{taken}
use Rattle.am_all.proofs.TupleLaws.{tree-result, view-each, views-are}
use Rattle.am_all.proofs.leaders.best.Goals as goal
use Rattle.am_all.proofs.leaders.best.Goals.{then-is_leading+in_ok-trees+in_ok-push, else-is_leading}

pub loop-tuple-init : goal.loop-tuple-init
loop-tuple-init c = rw c.new-best.ensures ends

pub results-requires : goal.results-requires
results-requires c =
    let each = view-each (λ d. d.now) c.args.p.now c.args.cases.now c.args.tuples.now c.loop-tuple.tuple-index
    c.tuple-item.result c.requires.tuples c.loop-tuple-test.true c.tuple-item.is in
    record {
      few = c.requires.facts.few;
      cases = c.requires.facts.all_cases;
      tuple = rw c.as_slice.ensures each.0;
      trees = rw c.as_slice.ensures each.1;
    }

pub is_leading-requires : goal.is_leading-requires
is_leading-requires c =
    let p = c.args.p.now in
    let each = view-each (λ d. d.now) p c.args.cases.now c.args.tuples.now c.loop-tuple.tuple-index
    c.tuple-item.result c.requires.tuples c.loop-tuple-test.true c.tuple-item.is in
    record {
      leaders = c.requires.leaders.results;
      result = rw (c.as_slice-in-loop-tuple.ensures, c.in_ok-numbers.ensures, c.as_slice.ensures)
          (tree-result p c.args.sets.now c.args.cases.now
          (map (λ d. d.now.tree) c.tuple-item.result) c.keeps_limits.ensures c.requires.facts each.1);
    }

pub loop-tuple-preserved : goal.loop-tuple-preserved
loop-tuple-preserved c =
    let p = c.args.p.now in
    let sets = c.args.sets.now in
    let cases = c.args.cases.now in
    let leaders = c.args.leaders.now in
    let ts = map (λ d. d.now.tree) c.tuple-item.result in
    let each = view-each (λ d. d.now) p cases c.args.tuples.now c.loop-tuple.tuple-index c.tuple-item.result
    c.requires.tuples c.loop-tuple-test.true c.tuple-item.is in
    let numbers = c.as_slice-in-loop-tuple.ensures ∙ c.in_ok-numbers.ensures ∙ ap
    (λ row. tree_numbers p cases (map (λ d. d.now.tree) row)) c.as_slice.ensures in
    let more = taken (λ tuple. map (λ d. d.now.tree) tuple) c.args.tuples.now c.loop-tuple.tuple-index
    c.tuple-item.result c.loop-tuple-test.true c.tuple-item.is in
    let Best : List (List Tree) → Type 0 =
    λ best. KeepsWhere (GivesBest p) (take (c.loop-tuple.tuple-index + 1)
    (map (λ tuple. map (λ d. d.now.tree) tuple) c.args.tuples.now)) best in
    elim c.if-is_leading.branch [
      | then-is_leading+in_ok-trees+in_ok-push w ↦
          let copied = w.in_ok-trees.ensures ∙ ap
          (λ row. map (λ d. d.now.tree) row) w.as_slice-then-is_leading.ensures in
          subst Best (sym w.best-is) (rw (more, w.in_ok-push.ensures.ok, copied)
          (keeps-kept (GivesBest p) _ c.loop-tuple.best ts c.loop-tuple.invariant
          (leading-best p sets cases leaders c.keeps_limits.ensures c.requires.facts c.requires.leaders ts each.1
          (rw numbers at w.if-is_leading.ensures))))
      | else-is_leading w ↦
          subst Best (sym w.best-is) (rw more
          (keeps-dropped (GivesBest p) _ c.loop-tuple.best ts c.loop-tuple.invariant
          (led-not_best p sets cases leaders c.keeps_limits.ensures c.requires.facts c.requires.leaders ts each.1
          (rw numbers at w.if-is_leading.ensures))))
    ]

pub returns : goal.returns
returns c =
    let all = take_all c.loop-tuple.tuple-index (map (λ tuple. map (λ d. d.now.tree) tuple) c.args.tuples.now)
    (simp length-map c.loop-tuple-test.false) in
    let trees = views-are (λ d. d.now) c.args.tuples.now ∙ c.requires.tuples.trees in
    rw (all, trees) at c.loop-tuple.invariant
