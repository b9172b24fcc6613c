-- Which rows, entries and states an analysis has.
use Rattle.std.specs.Prelude.{◌≡◌, All, None, Some, length}
use Rattle.am_domain.specs.Meaning.{IsAbstract}
use Rattle.am_problem.specs.Kinds.{meaning_of}
use Rattle.am_flow.specs.Flows.{Flow}
use Rattle.am_flow.specs.States.{Entry, FlowRow, State}

-- an abstract value for each variable
pub record IsFlowRow (f : Flow) (row : FlowRow) : Type 0 where
  pub counted : length row ≡ f.variables
  pub values : All (IsAbstract (meaning_of f.kind) f.width) row

-- an entry is no row, or a row of the flow
abbrev pub IsFlowEntry : Flow → Entry → Type 0
IsFlowEntry f None = Unit {0}
IsFlowEntry f (Some row) = IsFlowRow f row

-- an entry for each node
pub record IsState (f : Flow) (state : State) : Type 0 where
  pub counted : length state ≡ f.nodes
  pub entries : All (IsFlowEntry f) state
