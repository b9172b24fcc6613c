-- The states of an analysis, round by round, and the table that they end in.
use Rattle.std.specs.Prelude.{ℕ, zero, suc, ◌≡◌, ◌+◌, ◌*◌, ◌^◌, ◌-◌, ◌≤◌, ◌==◌, List, [], ◌∷◌, Option, None, Some}
use Rattle.std.specs.Prelude.{filter, map, replicate, slice_get, slice_index_or, slice_set}
use Rattle.std.specs.Option.{option_map}
use Rattle.am_domain.specs.Question.{results}
use Rattle.am_problem.specs.Kinds.{abstraction_of, fields_of}
use Rattle.am_problem.specs.Problem.{question_of}
use Rattle.am_flow.specs.Flows.{Flow, Operation}
use Rattle.am_flow.specs.declared.flow.Action.{Action}
use Rattle.am_flow.specs.declared.flow.Action.TheVariants.{Any, Apply, Copy, Set, Skip}
use Rattle.am_flow.specs.declared.flow.Edge.{Edge}

-- ---- rows and entries

-- an abstract value for each variable
abbrev pub FlowRow : Type 0
FlowRow = List (List ℕ)

-- what is known at a node: a row, or that nothing gets there
abbrev pub Entry : Type 0
Entry = Option FlowRow

-- an entry for each node
abbrev pub State : Type 0
State = List Entry

-- the items at these places, which are there
abbrev pub at : {A : Type 0} → A → List A → List ℕ → List A
at other items places = map (λ i. slice_index_or items i other) places

-- a row that joins the values of both, variable by variable
abbrev pub joined_rows : Flow → FlowRow → FlowRow → FlowRow
joined_rows f [] others = []
joined_rows f (a ∷ row) [] = a ∷ row
joined_rows f (a ∷ row) (b ∷ others) = (abstraction_of f.kind).join f.width a b ∷ joined_rows f row others

-- a join with nothing is the other
abbrev pub joined_entries : Flow → Entry → Entry → Entry
joined_entries f None e = e
joined_entries f (Some a) None = Some a
joined_entries f (Some a) (Some b) = Some (joined_rows f a b)

-- ---- steps

-- the tidied result of an operation's transformer at inputs, or nothing where it has no member
abbrev pub applied : Flow → Option Operation → List (List ℕ) → Option (List ℕ)
applied f None inputs = None
applied f (Some o) inputs = (abstraction_of f.kind).tidy f.width (results (question_of o.problem) o.terms inputs)

-- what an action makes of a row: one value is another, or nothing gets there
abbrev pub stepped : Flow → List Operation → Action → FlowRow → Entry
stepped f operations Skip row = Some row
stepped f operations (Any a) row = Some (slice_set row a ((abstraction_of f.kind).top f.width))
stepped f operations (Set a c) row = Some (slice_set row a ((abstraction_of f.kind).of_word f.width c))
stepped f operations (Copy a b) row = Some (slice_set row a (slice_index_or row b []))
stepped f operations (Apply i a from) row =
    option_map (slice_set row a) (applied f (slice_get operations i) (at [] row from))

-- what is known at a node
abbrev pub entry_at : State → ℕ → Entry
entry_at state n = slice_index_or state n None

-- what an action makes of an entry: nothing of nothing
abbrev pub from_entry : Flow → List Operation → Action → Entry → Entry
from_entry f operations action None = None
from_entry f operations action (Some row) = stepped f operations action row

-- the step of an edge: from nothing there is nothing
abbrev pub edge_step : Flow → List Operation → State → Edge → Entry
edge_step f operations state e = from_entry f operations e.action (entry_at state e.from)

-- ---- rounds

-- an entry joined with others, one after another
abbrev pub all_joined : Flow → Entry → List Entry → Entry
all_joined f e [] = e
all_joined f e (s ∷ steps) = all_joined f (joined_entries f e s) steps

-- a node's entry after a round: the one before it, joined with the steps of the node's edges in their order
abbrev pub entry_after : Flow → List Operation → State → ℕ → Entry
entry_after f operations state n =
    all_joined f (entry_at state n)
    (map (edge_step f operations state) (filter (λ (e : Edge). e.to == n) f.edges))

-- the entries of so many nodes, from n on, after a round
abbrev pub entries_from : Flow → List Operation → State → ℕ → ℕ → State
entries_from f operations state n zero = []
entries_from f operations state n (suc count) =
    entry_after f operations state n ∷ entries_from f operations state (suc n) count

-- the state after a round, in which all steps are taken from the state before it
abbrev pub round : Flow → List Operation → State → State
round f operations state = entries_from f operations state 0 f.nodes

-- at first all words are possible at node 0, and nothing gets to the others
abbrev pub first_state : Flow → State
first_state f = Some (replicate f.variables ((abstraction_of f.kind).top f.width)) ∷ replicate (f.nodes - 1) None

-- the state after so many rounds
abbrev pub state_after : Flow → List Operation → ℕ → State
state_after f operations zero = first_state f
state_after f operations (suc n) = round f operations (state_after f operations n)

-- the first state that equals the next one; there are few rounds until then, since each but the last lowers a rank
pub record IsTable (f : Flow) (operations : List Operation) (table : State) : Type 0 where
  pub rounds : ℕ
  pub reached : table ≡ state_after f operations rounds
  pub stays : round f operations table ≡ table
  pub few : rounds ≤ f.nodes * (f.variables * fields_of f.kind * 2 ^ f.width + 1)
