use Rattle.std.proofs.Common.{◌-◌, refl, arith}
use Rattle.am_gate.proofs.Rows.{no_rise_at, rise_from}
use Rattle.am_gate.proofs.sorted.variables_rise.Goals as goal

pub returns-then-variable : goal.returns-then-variable
returns-then-variable c = (
  (λ e. absurd (cc e)),
  (λ rise.
      absurd
      (no_rise_at c.args.literals.now (c.loop-i.i - 1) c.loop-i.i c.index-literals-i-in-loop-i.result
      c.index-literals-i.result
      (omega (arith, c.loop-i.auto)) (omega arith) c.index-literals-i-in-loop-i.is c.index-literals-i.is
      (rw (c.variable.ensures, c.variable-in-loop-i.ensures) at c.if-variable.true) rise)),
)

pub returns : goal.returns
returns c = (
  (λ _. rise_from c.args.literals.now (λ k lt. c.loop-i.invariant k (omega arith))),
  (λ _. refl),
)
