use Rattle.std.proofs.Common.{◌≡◌, ◌+◌, ap, arith, drop, length, subst, sym, take, take_at}
use Rattle.am_flow.specs.States.{State}
use Rattle.am_flow.specs.Stored.{seen_operations}
use Rattle.am_flow.specs.inside.Rows.{IsState}
use Rattle.am_flow.specs.inside.Steps.{CanFollowEdge, JoinsStep}
use Rattle.am_flow.proofs.RoundLaws.{IsAfter, after_all, after_more, after_state}
use Rattle.am_flow.proofs.RowLaws.{all_follow}
use Rattle.std.specs.Prelude.{All}
use Rattle.am_flow.proofs.round.round.Goals as goal

pub join_step-requires-clause-after : goal.join_step-requires-clause-after
join_step-requires-clause-after c =
    let f = c.args.flow.now in
    subst (IsState f) (sym c.as_mut_slice.ensures.value)
    (after_state f (seen_operations c.args.operations.now) c.requires.operations c.args.before.now
    c.edges-edges.result.now c.edges.edge-index c.edges.after.items c.requires.before c.edges-edges.ensures
    c.edges.invariant)

pub join_step-requires-clause-edge : goal.join_step-requires-clause-edge
join_step-requires-clause-edge c =
    let f = c.args.flow.now in
    let operations = seen_operations c.args.operations.now in
    let all =
    subst (All (CanFollowEdge f operations)) (sym c.edges-edges.ensures) (all_follow f operations c.requires.operations)
    in
    subst (CanFollowEdge f operations) (sym c.edge-item.is)
    (all c.edges.edge-index c.edge-item.result c.edges-test.true)

pub edges-preserved : goal.edges-preserved
edges-preserved c =
    let f = c.args.flow.now in
    let operations = seen_operations c.args.operations.now in
    let before = c.args.before.now in
    let edges = c.edges-edges.result.now in
    let i = c.edges.edge-index in
    let e = c.edge-item.result in
    let items = c.edges.after.items in
    let new = c.join_step.new.after in
    let all : All (CanFollowEdge f operations) edges =
    subst (All (CanFollowEdge f operations)) (sym c.edges-edges.ensures) (all_follow f operations c.requires.operations)
    in
    let can : CanFollowEdge f operations e =
    subst (CanFollowEdge f operations) (sym c.edge-item.is) (all i e c.edges-test.true) in
    let step : JoinsStep f operations before e items new =
    subst (λ (s : State). JoinsStep f operations before e s new) c.as_mut_slice.ensures.value
    c.in_ok-join_step.ensures in
    let many : length new ≡ c.edges.after.len = omega (arith, step.counted, c.edges.after.ok.0) in
    subst (IsAfter f operations before (take (i + 1) edges))
    (sym (take_at new (drop (length new) items) c.edges.after.len many))
    (after_more f operations before edges i e items new c.edges-test.true c.edge-item.is can.to c.edges.invariant step)

pub returns : goal.returns
returns c =
    let f = c.args.flow.now in
    let operations = seen_operations c.args.operations.now in
    let edges = c.edges-edges.result.now in
    let i = c.edges.edge-index in
    after_all f operations c.args.before.now i c.edges.after.items
    (omega (arith, c.edges-test.false, ap length c.edges-edges.ensures))
    (subst (λ es. IsAfter f operations c.args.before.now (take i es) c.edges.after.items) c.edges-edges.ensures
    c.edges.invariant)
