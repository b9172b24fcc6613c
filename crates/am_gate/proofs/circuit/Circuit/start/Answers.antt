use Rattle.std.proofs.Common.{refl}
use Rattle.am_gate.specs.Circuit.{added, is_tautology}
use Rattle.am_gate.proofs.Normals.{IsCircuit-start}
use Rattle.am_gate.proofs.circuit.Circuit.start.Goals as goal

pub invariant_of-result : goal.invariant_of-result
unfolding added is_tautology
invariant_of-result c =
    rw (c.in_ok-add.ensures.ok, c.new-clauses.ensures, c.new.ensures) (IsCircuit-start c.args.folding)

pub returns : goal.returns
unfolding added is_tautology
returns c =
    rw (c.in_ok-add.ensures.ok, c.new-clauses.ensures, c.new.ensures) refl
