-- Which steps can be taken, and what one does to a state.
use Rattle.std.specs.Prelude.{◌≡◌, ◌≢◌, ℕ, ◌<◌, All, List, Some, length, slice_get}
use Rattle.am_problem.specs.Examples.{IsTransformer}
use Rattle.am_problem.specs.Limits.{IsProblem}
use Rattle.am_flow.specs.Flows.{AppliesTo, Flow, IsAction, Operation}
use Rattle.am_flow.specs.States.{State, edge_step, entry_at, joined_entries}
use Rattle.am_flow.specs.declared.flow.Action.{Action}
use Rattle.am_flow.specs.declared.flow.Edge.{Edge}

-- an operation over the flow's words and domain, with as many inputs as these variables
pub record CanApply (f : Flow) (o : Operation) (from : List ℕ) : Type 0 where
  pub problem : IsProblem o.problem
  pub transformer : IsTransformer o.problem o.terms
  pub width : o.problem.width ≡ f.width
  pub kind : o.problem.kind ≡ f.kind
  pub counted : length from ≡ o.problem.inputs
  pub places : All (λ b. b < f.variables) from

-- an action of the flow, which applies an operation to as many variables as it has inputs
pub record CanAct (f : Flow) (operations : List Operation) (action : Action) : Type 0 where
  pub named : IsAction f (length operations) action
  pub applies : (i : ℕ) (o : Operation) → slice_get operations i ≡ Some o → AppliesTo i o.problem.inputs action

-- an edge between nodes of the flow, with such an action
pub record CanFollowEdge (f : Flow) (operations : List Operation) (e : Edge) : Type 0 where
  pub from : e.from < f.nodes
  pub to : e.to < f.nodes
  pub acts : CanAct f operations e.action

-- the step of an edge, taken from one state, is joined into another: the entry of the edge's end is joined with it,
-- and the others stay
pub record JoinsStep (f : Flow) (operations : List Operation) (before : State) (e : Edge) (old new : State) :
    Type 0 where
  pub counted : length new ≡ length old
  pub there : entry_at new e.to ≡ joined_entries f (entry_at old e.to) (edge_step f operations before e)
  pub others : (n : ℕ) → n ≢ e.to → entry_at new n ≡ entry_at old n
