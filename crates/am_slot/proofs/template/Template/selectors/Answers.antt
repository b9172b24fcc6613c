use Rattle.std.proofs.Common.{arith}
use Rattle.am_slot.proofs.Bounds.{selectors_most}
use Rattle.am_slot.proofs.template.Template.selectors.Goals as goal

pub returns-clause-most : goal.returns-clause-most
returns-clause-most c =
    let t = c.self.inside in
    omega (
      arith,
      selectors_most t.rules t.starts t.depth c.self.invariant.0.grammar c.self.invariant.1,
      c.self.invariant.2,
    )
