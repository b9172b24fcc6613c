use Rattle.std.proofs.Common.{sym, ◌∙◌}
use Rattle.am_gate.specs.Circuit.{Event.Mux, after}
use Rattle.am_gate.specs.Build.{place_of}
use Rattle.am_gate.proofs.Building.{Follows-ask, Follows-folded}
use Rattle.am_gate.proofs.Giving.{GivesOrKeeps-Follows}
use Rattle.am_gate.proofs.Making.{Makes-mux}
use Rattle.am_gate.proofs.Normals.{IsCircuit-after, three}
use Rattle.am_gate.proofs.circuit.Circuit.mux.Goals as goal

pub invariant_of-self-2 : goal.invariant_of-self-2
invariant_of-self-2 c =
    rw (
      c.in_ok-add_all.ensures.ok,
      c.in_order.ensures,
      c.in_order-2.ensures,
      c.in_order-3.ensures,
      c.in_order-4.ensures,
      c.opposite.ensures,
      c.opposite-2.ensures,
      c.opposite-3.ensures,
      c.opposite-4.ensures,
      c.opposite-5.ensures,
      c.opposite-6.ensures,
      c.next-g.ensures,
      ← c.self.view_is,
    )
    (IsCircuit-after
    (record { vars = c.self.inside.vars; clauses = c.self.inside.clauses; folding = c.self.inside.folding })
    (Mux c.args.c c.args.a c.args.b) c.self.invariant
    (three c.self.inside.vars c.args.c c.args.a c.args.b (rw (← c.self.view_is) at c.requires.choice)
    (rw (← c.self.view_is) at c.requires.first) (rw (← c.self.view_is) at c.requires.second)))

pub returns : goal.returns
unfolding after
returns c =
    GivesOrKeeps-Follows
    (Makes-mux c.args.c c.args.a c.args.b (place_of c.args.self.now) c.requires.choice c.requires.first
    c.requires.second)
    (rw (
      c.in_ok-add_all.ensures.ok,
      c.in_order.ensures,
      c.in_order-2.ensures,
      c.in_order-3.ensures,
      c.in_order-4.ensures,
      c.opposite.ensures,
      c.opposite-2.ensures,
      c.opposite-3.ensures,
      c.opposite-4.ensures,
      c.opposite-5.ensures,
      c.opposite-6.ensures,
      c.next-g.ensures,
      ← c.self.view_is,
    )
    (Follows-ask
    (record { vars = c.self.inside.vars; clauses = c.self.inside.clauses; folding = c.self.inside.folding })
    (Mux c.args.c c.args.a c.args.b)
    (rw (← c.self.view_is, c.folded_mux.ensures) at (sym c.if_folding.ensures ∙ c.in_default.is))))

pub returns-in-Some : goal.returns-in-Some
returns-in-Some c =
    GivesOrKeeps-Follows
    (Makes-mux c.args.c c.args.a c.args.b (place_of c.args.self.now) c.requires.choice c.requires.first
    c.requires.second)
    (Follows-folded c.args.self.now (Mux c.args.c c.args.a c.args.b) c.in-Some.l
    (rw c.folded_mux.ensures at (sym c.if_folding.ensures ∙ c.in-Some.is)))
