-- The runs of a flow, and what it means that a table covers them.
use Rattle.std.specs.Prelude.{ℕ, ◌≡◌, ◌<◌, ◌^◌, List, [], ◌∷◌, Contains, None, Option, Some, slice_get, slice_set}
use Rattle.std.specs.List.{AllZip}
use Rattle.am_domain.specs.Question.{IsSound}
use Rattle.am_domain.specs.Tuple.{IsTuple}
use Rattle.am_problem.specs.Kinds.{meaning_of}
use Rattle.am_problem.specs.Problem.{question_of}
use Rattle.am_flow.specs.Flows.{AreOperations, Flow, Operation}
use Rattle.am_flow.specs.States.{Entry, IsTable, State, at, entry_at}
use Rattle.am_flow.specs.declared.flow.Action.{Action}
use Rattle.am_flow.specs.declared.flow.Action.TheVariants.{Any, Apply, Copy, Set, Skip}
use Rattle.am_flow.specs.declared.flow.Edge.{Edge}

-- where a run is: at a node, with a word for each variable
pub record Point : Type 0 where
  pub node : ℕ
  pub words : List ℕ

-- the operation may be used at the words, and the variable gets its value
abbrev pub Applies : Option Operation → ℕ → List ℕ → List ℕ → List ℕ → Type 0
Applies None a inputs before after = ⊥
Applies (Some o) a inputs before after =
    let q = question_of o.problem in q.Assumed inputs × (after ≡ slice_set before a (q.operation inputs))

-- what an action may make of the words: at most one of them is another
abbrev pub Moves : Flow → List Operation → Action → List ℕ → List ℕ → Type 0
Moves f operations Skip before after = after ≡ before
Moves f operations (Any a) before after = (c : ℕ) × (c < 2 ^ f.width) × (after ≡ slice_set before a c)
Moves f operations (Set a c) before after = after ≡ slice_set before a c
Moves f operations (Copy a b) before after = (c : ℕ) × (slice_get before b ≡ Some c) × (after ≡ slice_set before a c)
Moves f operations (Apply i a from) before after = Applies (slice_get operations i) a (at 0 before from) before after

-- a run goes along an edge
pub record GoesAlong (f : Flow) (operations : List Operation) (e : Edge) (before after : Point) : Type 0 where
  pub from : before.node ≡ e.from
  pub to : after.node ≡ e.to
  pub moves : Moves f operations e.action before.words after.words

-- a run, the last point first: it starts at node 0 with any words, and goes along edges
abbrev pub IsRun : Flow → List Operation → List Point → Type 0
IsRun f operations [] = ⊥
IsRun f operations (p ∷ []) = (p.node ≡ 0) × IsTuple f.width f.variables p.words
IsRun f operations (q ∷ p ∷ run) =
    ((e : Edge) × Contains f.edges e × GoesAlong f operations e p q) × IsRun f operations (p ∷ run)

-- each variable's word is a member of its value
abbrev pub HasVariableWords : Flow → Entry → List ℕ → Type 0
HasVariableWords f None words = ⊥
HasVariableWords f (Some row) words = AllZip (λ a c. (meaning_of f.kind).Member f.width a c) row words

-- the words of each run are members of the entry at its last node
abbrev pub CoversRuns : Flow → List Operation → State → Type 0
CoversRuns f operations table = (p : Point) (run : List Point) → IsRun f operations (p ∷ run) →
    HasVariableWords f (entry_at table p.node) p.words

-- all transformers are sound
abbrev pub AllSound : List Operation → Type 0
AllSound operations =
    (i : ℕ) (o : Operation) → slice_get operations i ≡ Some o → IsSound (question_of o.problem) o.terms

-- the table of a flow with sound transformers covers its runs
abbrev pub TablesCoverRuns : Type 0
TablesCoverRuns = (f : Flow) (operations : List Operation) (table : State) →
    AreOperations f operations → AllSound operations → IsTable f operations table → CoversRuns f operations table
