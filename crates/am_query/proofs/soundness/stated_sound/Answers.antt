use Rattle.std.proofs.Common.{◌≡◌, ap, ◌∙◌, arith}
use Rattle.am_gate.specs.Circuit.{Net}
use Rattle.am_gate.proofs.Laws.{HasInputs-start}
use Rattle.am_query.specs.Formulas.{query_circuit}
use Rattle.am_query.specs.declared.query.Query.TheVariants.{Sound}
use Rattle.am_query.proofs.soundness.stated_sound.Goals as goal

pub unsound-requires-clause-first : goal.unsound-requires-clause-first
unsound-requires-clause-first c = rw (c.new-base.ensures, c.in_ok-circuit.ensures) (HasInputs-start c.args.folding)

pub returns-clause-stated : goal.returns-clause-stated
returns-clause-stated c =
    let unsound = c.in_ok-inputs.ensures in
    let follows = rw (c.in_ok-statements.ensures, c.in_ok-circuit.ensures) at unsound.stated in
    let made : c.unsound.new.circuit ≡ query_circuit c.args.folding c.args.p.now (Sound c.args.t.now) = follows.circuit
    in
    let of = c.of.ensures in
    record {
      clauses = of.clauses ∙ ap (λ (n : Net). n.clauses) made;
      vars = of.vars ∙ ap (λ (n : Net). n.vars) made;
      determined = rw of.base of.determined;
      rising = rw of.base of.rising;
      below = rw of.base of.below;
      count = rw (of.base, ← c.in_ok-statements.ensures) (unsound.count ∙ rw c.new-base.ensures (omega arith));
      few_vars = omega (arith, of.vars, unsound.room.vars);
      few_clauses = rw of.clauses (omega (arith, unsound.room.clauses));
    }
