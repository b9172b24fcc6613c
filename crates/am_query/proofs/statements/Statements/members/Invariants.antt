use Rattle.std.proofs.Common.{◌+◌, ◌-◌, ◌*◌, drop, zip}
use Rattle.am_gate.specs.Circuit.{Net, Grows}
use Rattle.am_gate.specs.Build.{Follows}
use Rattle.am_problem.specs.Examples.{split}
use Rattle.am_problem.specs.Kinds.{fields_of}
use Rattle.am_query.specs.Formulas.{each, forced, member_test, members}
use Rattle.am_query.specs.inside.Weights.{member_weight}
use Rattle.am_query.specs.inside.Words.{AreWordsIn}
use Rattle.am_query.proofs.statements.Statements.members.Given as goal

abbrev pub invariant-loop-word : goal.invariant-loop-word
invariant-loop-word l = record {
  follows : (end : Net) →
      Follows (each (λ (tuple, word). forced (member_test l.fn.self tuple word))
      (zip (split (fields_of l.fn.self.kind) (l.fn.self.inputs - l.word-index) l.rest) (drop l.word-index l.fn.words)))
      l.circuit tt end →
      Follows (members l.fn.self l.fn.fields l.fn.words) l.initial.circuit tt end;
  rest : AreWordsIn l.fn.self.width ((l.fn.self.inputs - l.word-index) * fields_of l.fn.self.kind)
      l.circuit.vars l.rest;
  grows : Grows (l.word-index * (member_weight l.fn.self + 1)) l.initial.circuit l.circuit;
}
