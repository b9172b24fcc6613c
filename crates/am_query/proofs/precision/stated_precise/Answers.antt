use Rattle.std.proofs.Common.{◌≡◌, length, ap, ◌∙◌, arith}
use Rattle.std.proofs.lemmas.List.FromFn.{length-range_with_len}
use Rattle.am_gate.specs.Circuit.{Net}
use Rattle.am_slot.specs.Template.{selectors_of}
use Rattle.am_query.specs.Formulas.{encoding_of, query_circuit}
use Rattle.am_query.specs.declared.query.Query.TheVariants.{Fit, Precise}
use Rattle.am_query.proofs.PreciseAnswers.{precise_stated}
use Rattle.am_query.proofs.precision.stated_precise.Goals as goal

pub returns-clause-stated : goal.returns-clause-stated
returns-clause-stated c =
    let p = c.args.p.now in
    let fit = rw c.in_ok-statements.ensures at c.in_ok-template.ensures in
    let closer = rw c.in_ok-statements.ensures at c.in_ok-inputs.ensures in
    let follows = rw c.in_ok-circuit.ensures at fit.ok in
    let made : c.closer.new.circuit ≡ query_circuit c.args.folding p
    (Precise c.args.t.now c.args.pos.now c.args.neg.now) =
    (precise_stated p c.args.t.now c.args.pos.now c.args.neg.now follows closer.stated).circuit in
    let of = c.of.ensures in
    let selectors : length c.in_ok-base.base ≡ selectors_of (encoding_of p) =
    ap length c.in_ok-base.ensures ∙ length-range_with_len 1 c.selectors.result ∙ c.selectors.ensures.value
    ∙ ap selectors_of fit.template in
    record {
      clauses = of.clauses ∙ ap (λ (n : Net). n.clauses) made;
      vars = of.vars ∙ ap (λ (n : Net). n.vars) made;
      determined = rw of.base of.determined;
      rising = rw of.base of.rising;
      below = rw of.base of.below;
      count = rw of.base (omega (arith, closer.count, selectors));
      few_vars = omega (arith, of.vars, closer.room.vars);
      few_clauses = rw of.clauses (omega (arith, closer.room.clauses));
    }

pub returns-clause-inputs : goal.returns-clause-inputs
returns-clause-inputs c =
    let p = c.args.p.now in
    let fit = rw c.in_ok-statements.ensures at c.in_ok-template.ensures in
    let closer = rw c.in_ok-statements.ensures at c.in_ok-inputs.ensures in
    let follows = rw c.in_ok-circuit.ensures at fit.ok in
    let made : c.fit.new.circuit.vars ≡ (query_circuit c.args.folding p (Fit c.args.pos.now c.args.neg.now)).vars =
    ap (λ (n : Net). n.vars) follows.circuit in
    rw (← made, c.of.ensures.vars) closer.words
