use Rattle.std.proofs.Common.{◌<◌, below_more, refl, arith}
use Rattle.am_problem.proofs.Inputs.{valid-inputs}
use Rattle.am_problem.proofs.problem.Problem.is_valid.Goals as goal

pub loop-i-preserved : goal.loop-i-preserved
loop-i-preserved c =
    let told = rw (c.kind.ensures, c.width.ensures, c.input-input.ensures.value) at c.valid.ensures in
    below_more _ _ c.loop-i.invariant (told.0 c.if-not-valid.false)

pub returns : goal.returns
returns c = (
  λ _. valid-inputs c.args.self.now c.args.inputs.now c.requires (λ k below.
      let place : k < c.loop-i.i = omega (arith, c.inputs-i-end.ensures) in
      c.loop-i.invariant k place),
  λ _. refl,
)
