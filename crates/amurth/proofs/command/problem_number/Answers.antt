use Rattle.std.proofs.Common.{◌+◌, ◌≤◌, ap, ◌∙◌, arith}
use Rattle.am_problem.specs.declared.generator.TheConstants.{LAST_PROBLEM}
use Rattle.am_syntax.specs.Pieces.{number_judge}
use Rattle.amurth.proofs.Commands.{judged_numeral, numeral_judged}
use Rattle.amurth.proofs.command.problem_number.Goals as goal

pub returns-in-Ok : goal.returns-in-Ok
returns-in-Ok c =
    let few : c.in-Ok.number ≤ LAST_PROBLEM = omega (arith, c.in-Ok.ensures.known.1, c.from.ensures) in (
      judged_numeral c.args.digits.now c.in-Ok.number (rw c.from.ensures at c.in-Ok.ensures.verdict),
      few,
    )

pub returns-in-Err : goal.returns-in-Err
returns-in-Err c = λ n few same.
    let passes = ap (number_judge 0 (LAST_PROBLEM + 1)) same ∙ numeral_judged n few in
    let fails = rw c.from.ensures at c.in-Err.ensures.verdict in
    cc (passes, fails)
