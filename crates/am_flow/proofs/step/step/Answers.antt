use Rattle.std.proofs.Common.{◌≡◌, ◌<◌, [], None, Some, ap, arith, get_or, length, refl, subst, sym, ◌∙◌}
use Rattle.std.specs.Prelude.{slice_get}
use Rattle.std.specs.Option.{option_map}
use Rattle.std.proofs.lemmas.List.{length-map}
use Rattle.std.proofs.lemmas.Option.{slice_get-map, slice_get_read}
use Rattle.am_flow.specs.States.{applied, at}
use Rattle.am_flow.specs.Stored.{seen_operation, seen_operations}
use Rattle.am_flow.specs.inside.Steps.{CanAct, CanApply}
use Rattle.am_flow.proofs.RowLaws.{can_apply, stepped_by}
use Rattle.am_flow.specs.declared.flow.Action.TheVariants.{Apply}
use Rattle.am_flow.specs.declared.operation.Operation.{Operation as StoredOperation}
use Rattle.std.proofs.Common.{ℕ, List}
use Rattle.am_flow.proofs.step.step.Goals as goal

-- the operation that an action applies
found : (operations : List StoredOperation) (i : ℕ) (o : StoredOperation) → i < length operations →
    o ≡ get_or operations i o → slice_get (seen_operations operations) i ≡ Some (seen_operation o)
found operations i o below here =
    slice_get-map seen_operation operations i
    ∙ ap (option_map seen_operation) (slice_get_read operations (length operations) i o refl below here)

pub applied-requires-clause-operation : goal.applied-requires-clause-operation
applied-requires-clause-operation c =
    let f = c.args.flow.now in
    let stored = c.args.operations.now in
    let a = c.in-Apply in
    let o = c.index-operations-operation.result in
    let act : CanAct f (seen_operations stored) (Apply a.operation a.to a.from) =
    subst (CanAct f (seen_operations stored)) a.is c.requires.action in
    let below : a.operation < length stored = omega (arith, act.named.0, length-map stored seen_operation) in
    let here = found stored a.operation o below c.index-operations-operation.is in
    subst (CanApply f (seen_operation o)) (sym c.as_slice.ensures)
    (can_apply f (seen_operations stored) c.requires.operations a.operation a.to a.from (seen_operation o) act here)

pub returns-in_err-value-in-Apply : goal.returns-in_err-value-in-Apply
returns-in_err-value-in-Apply c =
    let f = c.args.flow.now in
    let row = c.args.row.now in
    let stored = c.args.operations.now in
    let a = c.in-Apply in
    let o = c.index-operations-operation.result in
    let act : CanAct f (seen_operations stored) (Apply a.operation a.to a.from) =
    subst (CanAct f (seen_operations stored)) a.is c.requires.action in
    let below : a.operation < length stored = omega (arith, act.named.0, length-map stored seen_operation) in
    let here = found stored a.operation o below c.index-operations-operation.is in
    c.from_residual.ensures
    ∙ stepped_by f (seen_operations stored) c.args.action.now row a.operation a.to a.from (seen_operation o) None
    a.is here
    (c.in_err-value-in-Apply.ensures ∙ ap (λ bs. applied f (Some (seen_operation o)) (at [] row bs)) c.as_slice.ensures)

pub returns-in_ok-value-in-Apply : goal.returns-in_ok-value-in-Apply
returns-in_ok-value-in-Apply c =
    let f = c.args.flow.now in
    let row = c.args.row.now in
    let stored = c.args.operations.now in
    let a = c.in-Apply in
    let o = c.index-operations-operation.result in
    let act : CanAct f (seen_operations stored) (Apply a.operation a.to a.from) =
    subst (CanAct f (seen_operations stored)) a.is c.requires.action in
    let below : a.operation < length stored = omega (arith, act.named.0, length-map stored seen_operation) in
    let here = found stored a.operation o below c.index-operations-operation.is in
    ap Some c.changed-in-Apply.ensures
    ∙ stepped_by f (seen_operations stored) c.args.action.now row a.operation a.to a.from (seen_operation o)
    (Some c.in_ok-value-in-Apply.value) a.is here
    (c.in_ok-value-in-Apply.ensures ∙ ap (λ bs. applied f (Some (seen_operation o)) (at [] row bs)) c.as_slice.ensures)
