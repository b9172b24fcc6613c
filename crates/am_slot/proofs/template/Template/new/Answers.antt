use Rattle.std.proofs.Common.{◌≡◌, length, ap, arith}
use Rattle.am_gate.specs.Circuit.{Net}
use Rattle.am_slot.specs.Encoding.{Encoding}
use Rattle.am_slot.proofs.Bounds.{selectors_most, clauses_most}
use Rattle.am_slot.proofs.Stated.{Follows-template, clauses_in, new-vars, new-clauses, new-inputs, new-derived}
use Rattle.am_slot.proofs.Stated.{new-reached}
use Rattle.am_slot.proofs.template.Template.new.Goals as goal

pub make_inputs-requires : goal.make_inputs-requires
make_inputs-requires c =
    let t = c.template.inside in
    let one : c.args.circuit.now.vars ≡ 1 = ap (λ (n : Net). n.vars) c.requires.fresh in
    let first : length c.args.circuit.now.clauses ≡ 1 = ap (λ (n : Net). length n.clauses) c.requires.fresh in
    let most = selectors_most t.rules t.starts t.depth c.template.invariant.0.grammar c.template.invariant.1 in
    record {
      vars = omega (arith, one, most, c.template.invariant.2);
      clauses = omega (arith, first, most, c.template.invariant.2);
    }

pub state_all-requires-clause-room : goal.state_all-requires-clause-room
state_all-requires-clause-room c =
    let t = c.template.inside in
    let one : c.args.circuit.now.vars ≡ 1 = ap (λ (n : Net). n.vars) c.requires.fresh in
    let first : length c.args.circuit.now.clauses ≡ 1 = ap (λ (n : Net). length n.clauses) c.requires.fresh in
    let most = selectors_most t.rules t.starts t.depth c.template.invariant.0.grammar c.template.invariant.1 in
    let few = clauses_most t.rules t.starts t.depth c.template.invariant.0.grammar c.template.invariant.1 in
    let grows = c.in_ok-make_inputs.ensures.grows in
    rw (c.in_ok-clauses.ensures, ← c.template.view_is)
    (record {
      vars = omega (arith, one, most, few, grows.vars, c.template.invariant.2);
      clauses = omega (arith, first, most, few, grows.clauses, c.template.invariant.2);
    })

pub state_all-requires-clause-literals : goal.state_all-requires-clause-literals
state_all-requires-clause-literals c =
    let t = c.template.inside in
    let e : Encoding = record { rules = t.rules; starts = t.starts; depth = t.depth; width = t.width } in
    let one : c.args.circuit.now.vars ≡ 1 = ap (λ (n : Net). n.vars) c.requires.fresh in
    rw (c.in_ok-clauses.ensures, ← c.template.view_is)
    (clauses_in e c.make_inputs.new.circuit.vars
    (omega (arith, one, c.in_ok-make_inputs.ensures.vars, c.template.invariant.2)))

pub returns-clause-circuit : goal.returns-clause-circuit
returns-clause-circuit c =
    let t = c.template.inside in
    let e : Encoding = record { rules = t.rules; starts = t.starts; depth = t.depth; width = t.width } in
    let one = rw c.template.invariant.2 at c.in_ok-make_inputs.ensures.ok in
    let two = rw (c.in_ok-clauses.ensures, ← c.template.view_is) at c.in_ok-state_all.ensures.ok in
    rw (← c.template.view_is) (Follows-template e _ _ _ one two)

pub returns-clause-selectors : goal.returns-clause-selectors
returns-clause-selectors c =
    new-vars c.in_ok-template.template c.args.circuit.now.folding _ (rw c.requires.fresh at (returns-clause-circuit c))

pub returns-clause-clauses : goal.returns-clause-clauses
returns-clause-clauses c =
    rw c.requires.fresh
    (new-clauses c.in_ok-template.template c.args.circuit.now.folding _
    (rw c.requires.fresh at (returns-clause-circuit c)))

pub returns-clause-inputs : goal.returns-clause-inputs
returns-clause-inputs c =
    new-inputs c.in_ok-template.template c.args.circuit.now.folding _
    (rw c.requires.fresh at (returns-clause-circuit c))

pub returns-clause-room : goal.returns-clause-room
returns-clause-room c =
    let t = c.template.inside in
    let one : c.args.circuit.now.vars ≡ 1 = ap (λ (n : Net). n.vars) c.requires.fresh in
    let first : length c.args.circuit.now.clauses ≡ 1 = ap (λ (n : Net). length n.clauses) c.requires.fresh in
    let most = selectors_most t.rules t.starts t.depth c.template.invariant.0.grammar c.template.invariant.1 in
    let few = clauses_most t.rules t.starts t.depth c.template.invariant.0.grammar c.template.invariant.1 in
    let made = c.in_ok-make_inputs.ensures.grows in
    let stated = rw (c.in_ok-clauses.ensures, ← c.template.view_is) at c.in_ok-state_all.ensures.grows in
    record {
      vars = omega (arith, one, most, few, made.vars, stated.vars, c.template.invariant.2);
      clauses = omega (arith, first, most, few, made.clauses, stated.clauses, c.template.invariant.2);
    }

pub returns-clause-derived : goal.returns-clause-derived
returns-clause-derived c =
    new-derived c.in_ok-template.template c.args.circuit.now.folding _
    (rw c.requires.fresh at (returns-clause-circuit c)) (rw c.template.view_is at c.template.invariant.0)

pub returns-clause-reached : goal.returns-clause-reached
returns-clause-reached c =
    new-reached c.in_ok-template.template c.args.circuit.now.folding _
    (rw c.requires.fresh at (returns-clause-circuit c)) (rw c.template.view_is at c.template.invariant.0)
