use Rattle.std.proofs.Common.{append-nil, arith}
use Rattle.std.proofs.lemmas.List.Elements.{All-nil}
use Rattle.am_gate.specs.Circuit.{Event.Input, IsLiteral, after}
use Rattle.am_gate.proofs.Building.{Follows-ask}
use Rattle.am_gate.proofs.Folds.{never-input}
use Rattle.am_gate.proofs.Growth.{Follows-Begins}
use Rattle.am_gate.proofs.Normals.{IsCircuit-after}
use Rattle.am_gate.proofs.circuit.Circuit.input.Goals as goal

pub invariant_of-self : goal.invariant_of-self
invariant_of-self c =
    rw append-nil at
    (IsCircuit-after
    (record { vars = c.self.inside.vars; clauses = c.self.inside.clauses; folding = c.self.inside.folding })
    Input c.self.invariant (All-nil (IsLiteral c.self.inside.vars)))

pub returns : goal.returns
unfolding after
returns c =
    let made = rw append-nil at
    (Follows-ask
    (record { vars = c.self.inside.vars; clauses = c.self.inside.clauses; folding = c.self.inside.folding })
    Input (never-input c.self.inside.folding)) in
    rw (c.next-g.ensures, ← c.self.view_is) (record {
      ok = record {
        follows = made;
        given = omega arith;
        grows = record { not_less = omega arith; vars = omega arith; clauses = omega arith };
      };
      err = tt;
      begins = Follows-Begins made;
    })
