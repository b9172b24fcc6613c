use Rattle.std.proofs.Common.{List, All, subst, sym}
use Rattle.am_problem.specs.StoredLines.{seen_productions, seen_rule}
use Rattle.am_problem.specs.declared.draft.Production.{Production as StoredProduction}
use Rattle.am_problem.specs.inside.Names.{IsProductionOver, IsRuleOver, names_in}
use Rattle.am_problem.proofs.Lists.{made_holds}
use Rattle.am_problem.proofs.numbering.number_rules.Goals as goal

pub number_productions-requires-clause-known : goal.number_productions-requires-clause-known
number_productions-requires-clause-known c =
    let names = names_in c.args.names.now in
    let known =
    made_holds (IsRuleOver names) seen_rule c.args.rules.now c.loop-rule.rule-index _ c.rule-item.result
    c.requires.known
    c.loop-rule-test.true c.rule-item.is in
    subst (λ (ps : List StoredProduction). All (IsProductionOver names) (seen_productions ps))
    (sym c.as_slice.ensures) known
