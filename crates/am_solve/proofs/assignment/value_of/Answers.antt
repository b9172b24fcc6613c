use Rattle.std.proofs.Common.{arith, ◌≡◌}
use Rattle.am_lit.specs.Literal.{variable_of}
use Rattle.am_trail.specs.Trails.{literals}
use Rattle.am_solve.proofs.Branching.{no_value}
use Rattle.am_solve.proofs.assignment.value_of.Goals as goal

pub unreachable-requires : goal.unreachable-requires
unreachable-requires c =
    let e : variable_of c.new.result ≡ c.args.variable = omega (arith, c.new.ensures) in
    no_value (literals c.args.trail.now.entries) c.new.result c.in-None.ensures.none (rw e c.requires.valued)
