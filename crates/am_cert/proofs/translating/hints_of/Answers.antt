use Rattle.std.proofs.Common.{◌<◌, ◌^◌, arith, length}
use Rattle.am_cert.proofs.Translations.{hints_fit}
use Rattle.am_cert.proofs.translating.hints_of.Goals as goal

pub returns-clause-bounded : goal.returns-clause-bounded
returns-clause-bounded c =
    let formula = c.args.formula.now in
    let hints = c.in_ok-hints.hints in
    let made = c.in_ok-hints.ensures in
    let few : length hints < 2 ^ 30 = omega (arith, made.fewer, c.requires.bounded.chains) in
    hints_fit formula.vars formula.clauses hints c.requires.few_vars made.refutes few made.short
    c.have_small_numbers.ensures
