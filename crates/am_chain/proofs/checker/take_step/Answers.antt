use Rattle.std.proofs.Common.{◌≡◌, true, refl, sym, ◌∙◌}
use Rattle.am_chain.specs.Resolvent.{has_pivot, resolvent}
use Rattle.am_chain.proofs.checker.take_step.Goals as goal

pub returns-clause-next : goal.returns-clause-next
returns-clause-next c = λ clause are.
    let v = c.args.step.variable in
    let other = c.in-Some.other.now in
    let pivot : has_pivot v clause other ≡ true =
    sym (c.in_ok-resolve.ensures.pivot clause are) ∙ c.if-not-branch.false in (
      resolvent v clause other,
      rw (c.in-Some.ensures, pivot) refl,
      c.in_ok-resolve.ensures.resolvent c.if-not-branch.false clause are,
    )
