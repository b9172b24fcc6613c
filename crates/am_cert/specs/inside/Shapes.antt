-- What a problem says of the rows after it, as it is stored.
use Rattle.std.specs.Prelude.{◌≤◌}
use Rattle.am_cert.specs.Grammar.{ProblemShape}
use Rattle.am_cert.specs.declared.shape.Shape.{Shape as StoredShape}

-- a stored shape as the shape that it holds
abbrev pub seen_shape : StoredShape → ProblemShape
seen_shape s = record { width = s.width; inputs = s.inputs; fields = s.fields; turns = s.turns }

-- as problems have it: words of a byte, of which few stand in a row, and few turns
pub record IsProblemShape (s : ProblemShape) : Type 0 where
  pub width : s.width ≤ 8
  pub inputs : s.inputs ≤ 3
  pub fields : s.fields ≤ 4
  pub turns : s.turns ≤ 4096
