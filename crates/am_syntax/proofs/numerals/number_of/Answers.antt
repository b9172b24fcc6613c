use Rattle.std.proofs.Common.{arith}
use Rattle.am_syntax.proofs.NumeralLaws.{first_digits, if_none}
use Rattle.am_syntax.proofs.numerals.number_of.Goals as goal

pub returns-in_err-n-clause-none : goal.returns-in_err-n-clause-none
returns-in_err-n-clause-none c =
    if_none c.from_residual.result (omega (
      arith,
      first_digits c.args.word.now c.loop-b.b-index c.loop-b-test.true,
      c.loop-b.invariant,
      c.in_err-n.ensures.none,
    ))
