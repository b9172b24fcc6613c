use Rattle.std.proofs.Common.{◌≡◌, ap, ◌∙◌, arith}
use Rattle.std.proofs.lemmas.List.FromFn.{length-range_with_len}
use Rattle.am_gate.specs.Circuit.{Net}
use Rattle.am_slot.specs.Template.{selectors_of}
use Rattle.am_query.specs.Formulas.{encoding_of, query_circuit}
use Rattle.am_query.specs.declared.query.Query.TheVariants.{Fit}
use Rattle.am_query.proofs.fit_query.stated_fit.Goals as goal

pub returns-clause-stated : goal.returns-clause-stated
returns-clause-stated c =
    let p = c.args.p.now in
    let fit = c.in_ok-template.ensures in
    let follows = rw (c.in_ok-statements.ensures, c.in_ok-circuit.ensures) at fit.ok in
    let made : c.fit.new.circuit ≡ query_circuit c.args.folding p (Fit c.args.pos.now c.args.neg.now) = follows.circuit
    in
    let encodes : c.in_ok-template.template ≡ encoding_of p = rw c.in_ok-statements.ensures at fit.template in
    let of = c.of.ensures in
    record {
      clauses = of.clauses ∙ ap (λ (n : Net). n.clauses) made;
      vars = of.vars ∙ ap (λ (n : Net). n.vars) made;
      determined = rw of.base of.determined;
      rising = rw of.base of.rising;
      below = rw of.base of.below;
      count = rw (of.base, c.in_ok-base.ensures)
          (length-range_with_len 1 c.selectors.result ∙ c.selectors.ensures.value ∙ ap selectors_of encodes);
      few_vars = omega (arith, of.vars, fit.room.vars);
      few_clauses = rw of.clauses (omega (arith, fit.room.clauses));
    }
