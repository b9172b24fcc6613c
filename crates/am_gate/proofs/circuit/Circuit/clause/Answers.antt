use Rattle.std.proofs.Common.{append-nil, add-zero}
use Rattle.am_gate.specs.Circuit.{Event.Clause, after}
use Rattle.am_gate.proofs.Building.{Follows-tell}
use Rattle.am_gate.proofs.Normals.{IsCircuit-after}
use Rattle.am_gate.proofs.circuit.Circuit.clause.Goals as goal

pub invariant_of-self-2 : goal.invariant_of-self-2
invariant_of-self-2 c =
    rw c.in_ok-add.ensures.ok
    (rw (append-nil, add-zero) at
    (IsCircuit-after
    (record { vars = c.self.inside.vars; clauses = c.self.inside.clauses; folding = c.self.inside.folding })
    (Clause c.args.literals.now) c.self.invariant (rw (← c.self.view_is) at c.requires.literals)))

pub returns-clause-ok : goal.returns-clause-ok
unfolding after
returns-clause-ok c =
    rw (c.in_ok-add.ensures.ok, ← c.self.view_is)
    (rw (append-nil, add-zero) at
    (Follows-tell
    (record { vars = c.self.inside.vars; clauses = c.self.inside.clauses; folding = c.self.inside.folding })
    c.args.literals.now))
