use Rattle.std.proofs.Common.{◌≡◌, ◌∷◌, ◌-◌, replicate}
use Rattle.std.specs.Prelude.{None, Some}
use Rattle.am_problem.specs.Kinds.{abstraction_of}
use Rattle.am_flow.proofs.round.first_state.Given as goal

abbrev pub invariant-others : goal.invariant-others
invariant-others l =
    l.state.items
    ≡ Some (replicate l.flow.variables ((abstraction_of l.flow.kind).top l.flow.width)) ∷ replicate (l.counter - 1) None
