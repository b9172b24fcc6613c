use Rattle.std.proofs.Common.{◌≡◌, ◌+◌, ◌-◌, ◌∷◌, ◌++◌, [], None, Some, ap, arith, replicate, ◌∙◌}
use Rattle.std.proofs.lemmas.List.{replicate_more}
use Rattle.am_problem.specs.Kinds.{abstraction_of}
use Rattle.am_flow.specs.States.{Entry, State}
use Rattle.am_flow.proofs.round.first_state.Goals as goal

pub others-preserved : goal.others-preserved
others-preserved c =
    let f = c.args.flow.now in
    let n = c.others.counter in
    let none : Entry = None in
    let top : Entry = Some (replicate f.variables ((abstraction_of f.kind).top f.width)) in
    let one : n - 1 + 1 ≡ n + 1 - 1 = omega (arith, c.others.auto.counter) in
    c.in_ok-push-2.ensures.items
    ∙ ap (λ (s : State). s ++ none ∷ []) c.others.invariant
    ∙ ap (λ (s : State). top ∷ s) (replicate_more (n - 1) none ∙ ap (λ m. replicate m none) one)
