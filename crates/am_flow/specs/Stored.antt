-- A flow and operations as contracts see them.
use Rattle.std.specs.Prelude.{ℕ, List, map}
use Rattle.am_flow.specs.declared.flow.Flow.TheInside.{Inside}
use Rattle.am_flow.specs.declared.operation.Operation.{Operation as StoredOperation}
use Rattle.am_flow.specs.Flows.{Flow, IsFlow, Operation}

-- the flow that is stored
abbrev pub seen : Inside → Flow
seen f = record { width = f.width; kind = f.kind; variables = f.variables; nodes = f.nodes; edges = f.edges }

-- it is within the limits, over some number of operations
abbrev pub IsStoredFlow : Inside → Type 0
IsStoredFlow f = ∥ ((n : ℕ) × IsFlow n (seen f)) ∥₁

-- a problem and a transformer of it
abbrev pub seen_operation : StoredOperation → Operation
seen_operation o = record { problem = o.problem.now; terms = o.transformer.now }

-- the operations that are stored
abbrev pub seen_operations : List StoredOperation → List Operation
seen_operations operations = map seen_operation operations
