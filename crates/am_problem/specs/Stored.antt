-- A problem as contracts see it.
use Rattle.std.specs.Prelude.{◌≡◌}
use Rattle.am_problem.specs.declared.parts.Parts.{Parts}
use Rattle.am_problem.specs.declared.problem.Problem.TheInside.{Inside}
use Rattle.am_problem.specs.Limits.{IsProblem}
use Rattle.am_problem.specs.Loads.{load_of}
use Rattle.am_problem.specs.Problem.{Problem}

-- the parts of a problem as plain data
abbrev pub seen_parts : Parts → Problem
seen_parts p = record {
  width = p.width;
  inputs = p.inputs;
  operation = p.operation;
  assume = p.assume;
  kind = p.kind;
  names = p.names;
  rules = p.grammar.rules;
  starts = p.grammar.starts;
  depth = p.grammar.depth;
  turns = p.turns;
  conflicts = p.conflicts;
}

-- a problem as plain data
abbrev pub seen : Inside → Problem
seen p = seen_parts p.parts

-- it is within all limits, and its load is noted
pub record IsStoredProblem (p : Inside) : Type 0 where
  pub within : IsProblem (seen p)
  pub noted : p.load ≡ load_of (seen p)
