use Rattle.am_gate.specs.Circuit.{Event.And, Event.Xor, Event.Mux}
use Rattle.am_gate.proofs.Building.{Means-and, Means-xor, Means-mux}
use Rattle.am_gate.proofs.Valued.{answers_have}
use Rattle.am_gate.proofs.circuit_laws.gate_calls_answer_values.Goals as goal

pub returns-clause-and : goal.returns-clause-and
returns-clause-and c = λ a b. answers_have (And a b) _ (λ v. Means-and v a b)

pub returns-clause-xor : goal.returns-clause-xor
returns-clause-xor c = λ a b. answers_have (Xor a b) _ (λ v. Means-xor v a b)

pub returns-clause-mux : goal.returns-clause-mux
returns-clause-mux c = λ m a b. answers_have (Mux m a b) _ (λ v. Means-mux v m a b)
