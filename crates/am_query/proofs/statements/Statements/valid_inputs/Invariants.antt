use Rattle.std.proofs.Common.{◌+◌, ◌-◌, ◌*◌, ◌≤◌}
use Rattle.am_gate.specs.Circuit.{Net, Grows}
use Rattle.am_gate.specs.Build.{Follows}
use Rattle.am_problem.specs.Examples.{split}
use Rattle.am_problem.specs.Kinds.{fields_of, valid_term_of}
use Rattle.am_query.specs.Formulas.{each, forced, test, valid}
use Rattle.am_query.specs.inside.Weights.{valid_weight}
use Rattle.am_query.specs.inside.Words.{AreWordsIn}
use Rattle.am_query.proofs.statements.Statements.valid_inputs.Given as goal

abbrev pub invariant-loop : goal.invariant-loop
invariant-loop l = record {
  place : l.counter ≤ l.fn.self.inputs;
  follows : (end : Net) →
      Follows
      (each (λ tuple. forced (test l.fn.self.width (valid_term_of l.fn.self.kind l.fn.self.width) tuple))
      (split (fields_of l.fn.self.kind) (l.fn.self.inputs - l.counter) l.rest))
      l.circuit tt end →
      Follows (valid l.fn.self l.fn.fields) l.initial.circuit tt end;
  rest : AreWordsIn l.fn.self.width ((l.fn.self.inputs - l.counter) * fields_of l.fn.self.kind) l.circuit.vars l.rest;
  grows : Grows (l.counter * (valid_weight l.fn.self + 1)) l.initial.circuit l.circuit;
}
