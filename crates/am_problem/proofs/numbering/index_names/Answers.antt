use Rattle.std.proofs.Common.{List, [], ◌∷◌, ◌++◌, ap, sym, take, ◌∙◌}
use Rattle.am_syntax.specs.Readers.{Word}
use Rattle.am_problem.specs.Grammar.{has_name, names_of}
use Rattle.am_problem.specs.StoredLines.{seen_rules}
use Rattle.am_problem.specs.declared.draft.Rule.{Rule}
use Rattle.am_problem.proofs.Indexing.{name_is_new, names_grow}
use Rattle.am_problem.proofs.numbering.index_names.Goals as goal

pub add_name-requires : goal.add_name-requires
add_name-requires c =
    let i = c.loop-rule.rule-index in
    ap (λ vs. has_name vs c.rule-item.result.name.now) c.loop-rule.invariant
    ∙ ap (λ (r : Rule). has_name (names_of (seen_rules (take i c.args.rules.now))) r.name.now) c.rule-item.is
    ∙ name_is_new c.args.rules.now i c.rule-item.result c.requires c.loop-rule-test.true

pub loop-rule-preserved : goal.loop-rule-preserved
loop-rule-preserved c =
    let i = c.loop-rule.rule-index in
    c.in_ok-add_name.ensures
    ∙ ap (λ (vs : List Word). vs ++ c.rule-item.result.name.now ∷ []) c.loop-rule.invariant
    ∙ ap (λ (r : Rule). names_of (seen_rules (take i c.args.rules.now)) ++ r.name.now ∷ []) c.rule-item.is
    ∙ sym (names_grow c.args.rules.now i c.rule-item.result c.loop-rule-test.true)
