use Rattle.std.proofs.Common.{◌≡◌, ◌<◌, None, Some, ap, arith, get_or, length, set-set, subst, sym, ◌∙◌}
use Rattle.std.proofs.lemmas.List.{get_or_default}
use Rattle.am_flow.specs.States.{entry_at, joined_entries}
use Rattle.am_flow.specs.Stored.{seen_operations}
use Rattle.am_flow.specs.inside.Rows.{IsFlowEntry}
use Rattle.am_flow.specs.inside.Steps.{JoinsStep}
use Rattle.am_flow.proofs.RoundLaws.{joins_there}
use Rattle.am_flow.proofs.RowLaws.{edge_entry}
use Rattle.am_flow.proofs.round.join_step.Goals as goal

pub joined-requires-clause-other : goal.joined-requires-clause-other
joined-requires-clause-other c =
    let f = c.args.flow.now in
    let is = c.requires in
    subst (IsFlowEntry f) (sym c.in-Some.ensures)
    (edge_entry f (seen_operations c.args.operations.now) is.operations c.args.before.now is.before
    c.args.edge.now is.edge)

pub returns-in_ok-joined : goal.returns-in_ok-joined
returns-in_ok-joined c =
    let f = c.args.flow.now in
    let operations = seen_operations c.args.operations.now in
    let before = c.args.before.now in
    let after = c.args.after.now in
    let to = c.args.edge.now.to in
    let place : to < length after = omega (arith, c.requires.after.counted, c.requires.edge.to) in
    let entry : c.take-entry.result ≡ get_or after to None =
    c.take-entry.ensures.value ∙ get_or_default after to c.index-after-to.result None place in
    let value = c.in_ok-joined.ensures
    ∙ ap (λ e. joined_entries f e (Some c.in-Some.step)) entry
    ∙ ap (joined_entries f (entry_at after to)) c.in-Some.ensures in
    subst (JoinsStep f operations before c.args.edge.now after)
    (sym (set-set after to c.take-entry.new.self (Some c.in_ok-joined.field-0)))
    (joins_there f operations before c.args.edge.now after (Some c.in_ok-joined.field-0) place value)
