use Rattle.std.proofs.Common.{◌≡◌, ◌≢◌, ap, sym, subst, ◌∙◌}
use Rattle.std.proofs.lemmas.Bool.{false≢true}
use Rattle.am_flow.specs.States.{round}
use Rattle.am_flow.specs.Stored.{seen_operations}
use Rattle.am_flow.specs.inside.Rows.{IsState}
use Rattle.am_flow.proofs.RankLaws.{first_reached, next_reached, rank_falls, reached_state}
use Rattle.am_flow.proofs.analysis.analyse.Goals as goal

pub rounds-init : goal.rounds-init
rounds-init c =
    first_reached c.args.flow.now (seen_operations c.args.operations.now) c.requires c.in_ok-state.state.items
    c.in_ok-state.ensures

pub round-requires-clause-before : goal.round-requires-clause-before
round-requires-clause-before c =
    let f = c.args.flow.now in
    subst (IsState f) (sym c.as_slice.ensures.value)
    (reached_state f (seen_operations c.args.operations.now) c.requires c.rounds.state.items c.rounds.invariant)

pub rounds-smaller : goal.rounds-smaller
rounds-smaller c =
    let f = c.args.flow.now in
    let operations = seen_operations c.args.operations.now in
    let state = c.rounds.state.items in
    let next = c.in_ok-next.next.items in
    let made : next ≡ round f operations state =
    c.in_ok-next.ensures ∙ ap (round f operations) c.as_slice.ensures.value in
    let other : next ≢ state =
    λ e. false≢true (c.if-are_same.ensures.1
    (c.as_slice-in-rounds.ensures.value ∙ e ∙ sym c.as_slice-in-rounds-2.ensures.value)) in
    rank_falls f operations c.requires state next c.rounds.invariant made other

pub rounds-preserved : goal.rounds-preserved
rounds-preserved c =
    let f = c.args.flow.now in
    let operations = seen_operations c.args.operations.now in
    let state = c.rounds.state.items in
    let next = c.in_ok-next.next.items in
    let made : next ≡ round f operations state =
    c.in_ok-next.ensures ∙ ap (round f operations) c.as_slice.ensures.value in
    let other : next ≢ state =
    λ e. false≢true (c.if-are_same.ensures.1
    (c.as_slice-in-rounds.ensures.value ∙ e ∙ sym c.as_slice-in-rounds-2.ensures.value)) in
    next_reached f operations c.requires state next c.rounds.invariant made other
