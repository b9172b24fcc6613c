use Rattle.std.proofs.Common.{[], ◌∙◌}
use Rattle.am_slot.specs.declared.rules.Rule.{Rule}
use Rattle.am_slot.proofs.Tables.{at-map, few_productions, whole_productions}
use Rattle.am_slot.proofs.rules.RuleTable.productions.Goals as goal

pub returns-clause-few : goal.returns-clause-few
returns-clause-few c =
    let at = at-map (λ (r : Rule). r.productions) c.self.inside.rules c.args.symbol _ [] c.get.ensures in
    few_productions c.args.self.now (rw c.self.view_is at c.self.invariant.1) c.args.symbol c.requires
    c.as_slice.result.now (c.as_slice.ensures ∙ rw c.self.view_is at at)

pub returns-clause-whole : goal.returns-clause-whole
returns-clause-whole c =
    let at = at-map (λ (r : Rule). r.productions) c.self.inside.rules c.args.symbol _ [] c.get.ensures in
    whole_productions c.args.self.now (rw c.self.view_is at c.self.invariant.1) c.args.symbol c.requires
    c.as_slice.result.now (c.as_slice.ensures ∙ rw c.self.view_is at at)
