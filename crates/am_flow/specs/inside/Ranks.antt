-- The measure of a state, which falls with each round that changes it.
use Rattle.std.specs.Prelude.{◌≡◌, ℕ, ◌+◌, ◌*◌, ◌^◌, ◌≤◌, List, None, Some, sum_by}
use Rattle.am_problem.specs.Kinds.{abstraction_of, fields_of}
use Rattle.am_flow.specs.Flows.{Flow, Operation}
use Rattle.am_flow.specs.States.{Entry, FlowRow, State, state_after}

-- the ranks of a row's values together
abbrev pub row_rank : Flow → FlowRow → ℕ
row_rank f row = sum_by ((abstraction_of f.kind).rank f.width) row

-- the most that the ranks of a row are together
abbrev pub most_rank : Flow → ℕ
most_rank f = f.variables * fields_of f.kind * 2 ^ f.width

-- nothing counts one more than any row
abbrev pub entry_rank : Flow → Entry → ℕ
entry_rank f None = most_rank f + 1
entry_rank f (Some row) = row_rank f row

-- the ranks of a state's entries together
abbrev pub state_rank : Flow → State → ℕ
state_rank f state = sum_by (entry_rank f) state

-- the most that the ranks of a state are together
abbrev pub most_rounds : Flow → ℕ
most_rounds f = f.nodes * (most_rank f + 1)

-- a state that so many rounds lead to, each of which lowered the rank
pub record IsReachedState (f : Flow) (operations : List Operation) (state : State) : Type 0 where
  pub rounds : ℕ
  pub reached : state ≡ state_after f operations rounds
  pub few : rounds + state_rank f state ≤ most_rounds f
