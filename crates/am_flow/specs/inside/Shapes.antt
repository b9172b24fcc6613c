-- How the lines of edges are read, over what the lines before them say.
use Rattle.std.specs.Prelude.{◌^◌, ◌≤◌, codes}
use Rattle.std.proofs.Common.{inr}
use Rattle.am_syntax.specs.Pieces.{keyed}
use Rattle.am_syntax.specs.Readers.{◌>>=◌, Reader, done}
use Rattle.am_flow.specs.declared.flow.Action.{Action}
use Rattle.am_flow.specs.declared.shape.Shape.{Shape as StoredShape}
use Rattle.am_flow.specs.Grammar.{FlowShape, action_of, application}

-- a shape as the grammar has it
abbrev pub seen_shape : StoredShape → FlowShape
seen_shape s = record { width = s.width; operations = s.operations; variables = s.variables; nodes = s.nodes }

-- numbers that a text may name, and a width
pub record IsFlowShape (s : FlowShape) : Type 0 where
  pub width : s.width ≤ 8
  pub operations : s.operations ≤ 2 ^ 64
  pub variables : s.variables ≤ 2 ^ 64
  pub nodes : s.nodes ≤ 2 ^ 64

-- apply, read as an action
abbrev pub apply : FlowShape → Reader Action
apply s = (keyed (codes "apply") (application s)).read >>= λ x. done (action_of (inr (inr (inr (inr x)))))
