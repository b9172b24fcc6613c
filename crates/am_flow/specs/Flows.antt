-- Flows: small programs over words, and which operations they can be run with.
use Rattle.std.specs.Prelude.{ℕ, ◌≡◌, ◌≢◌, ◌≤◌, ◌<◌, ◌^◌, true, List, [], All, Some, length, slice_get, take}
use Rattle.am_bv.specs.Words.{IsWidth}
use Rattle.am_bv.specs.declared.term.Term.{Term}
use Rattle.am_problem.specs.Examples.{IsTransformer}
use Rattle.am_problem.specs.Limits.{IsProblem}
use Rattle.am_problem.specs.Problem.{Problem}
use Rattle.am_problem.specs.declared.kind.Kind.{Kind}
use Rattle.am_flow.specs.declared.flow.Action.{Action}
use Rattle.am_flow.specs.declared.flow.Action.TheVariants.{Any, Apply, Copy, Set, Skip}
use Rattle.am_flow.specs.declared.flow.Edge.{Edge}
use Rattle.am_flow.specs.declared.signature.Signature.{Signature}

-- a width and a domain, so many variables, so many nodes, and edges between them
pub record Flow : Type 0 where
  pub width : ℕ
  pub kind : Kind
  pub variables : ℕ
  pub nodes : ℕ
  pub edges : List Edge

-- the variables that an action names are there, its word is one of the width, and its operation is one of so many
abbrev pub IsAction : Flow → ℕ → Action → Type 0
IsAction f operations Skip = Unit {0}
IsAction f operations (Any a) = a < f.variables
IsAction f operations (Set a c) = (a < f.variables) × (c < 2 ^ f.width)
IsAction f operations (Copy a b) = (a < f.variables) × (b < f.variables)
IsAction f operations (Apply i a from) =
    (i < operations) × (a < f.variables) × (from ≢ []) × All (λ b. b < f.variables) from

-- an edge between nodes of the flow
pub record IsEdge (f : Flow) (operations : ℕ) (e : Edge) : Type 0 where
  pub from : e.from < f.nodes
  pub to : e.to < f.nodes
  pub action : IsAction f operations e.action

-- a flow within the limits, over so many operations
pub record IsFlow (operations : ℕ) (f : Flow) : Type 0 where
  pub width : IsWidth f.width
  pub variables : (1 ≤ f.variables) × (f.variables ≤ 8)
  pub nodes : (1 ≤ f.nodes) × (f.nodes ≤ 64)
  pub few : length f.edges ≤ 256
  pub edges : All (IsEdge f operations) f.edges

-- ---- operations

-- an action applies no operation with this number, or applies it to so many variables
abbrev pub AppliesTo : ℕ → ℕ → Action → Type 0
AppliesTo i inputs Skip = Unit {0}
AppliesTo i inputs (Any a) = Unit {0}
AppliesTo i inputs (Set a c) = Unit {0}
AppliesTo i inputs (Copy a b) = Unit {0}
AppliesTo i inputs (Apply j a from) = j ≡ i → length from ≡ inputs

-- an operation with this number fits into a flow: a best transformer is known, over the flow's words and domain, and
-- each edge applies it to as many variables as it has inputs
pub record Fits (f : Flow) (i : ℕ) (s : Signature) : Type 0 where
  pub best : s.best ≡ true
  pub width : s.width ≡ f.width
  pub kind : s.kind ≡ f.kind
  pub inputs : All (λ (e : Edge). AppliesTo i s.inputs e.action) f.edges

-- each operation fits
abbrev pub AllFit : Flow → List Signature → Type 0
AllFit f signatures = (i : ℕ) (s : Signature) → slice_get signatures i ≡ Some s → Fits f i s

-- the operation with this number doesn't fit, and all before it do
pub record IsFirstMisfit (f : Flow) (signatures : List Signature) (i : ℕ) : Type 0 where
  pub signature : Signature
  pub here : slice_get signatures i ≡ Some signature
  pub misfit : ¬ Fits f i signature
  pub before : AllFit f (take i signatures)

-- a problem and a transformer of it
pub record Operation : Type 0 where
  pub problem : Problem
  pub terms : List Term

-- what a flow asks of an operation, of which a best transformer is known
abbrev pub signature_of : Operation → Signature
signature_of o =
    record { width = o.problem.width; inputs = o.problem.inputs; kind = o.problem.kind; best = true }

-- an operation that a flow can be run with
pub record IsFlowOperation (f : Flow) (i : ℕ) (o : Operation) : Type 0 where
  pub fits : Fits f i (signature_of o)
  pub problem : IsProblem o.problem
  pub transformer : IsTransformer o.problem o.terms

-- a flow, and operations that it can be run with
pub record AreOperations (f : Flow) (operations : List Operation) : Type 0 where
  pub flow : IsFlow (length operations) f
  pub each : (i : ℕ) (o : Operation) → slice_get operations i ≡ Some o → IsFlowOperation f i o
