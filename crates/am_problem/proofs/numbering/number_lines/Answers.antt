use Rattle.std.proofs.Common.{◌≡◌, ℕ, List, All, Bor, ap, subst, sym, ◌∙◌}
use Rattle.am_syntax.specs.Readers.{Word}
use Rattle.am_problem.specs.Grammar.{names_of}
use Rattle.am_problem.specs.StoredLines.{seen_lines, seen_names, seen_rules}
use Rattle.am_problem.specs.declared.draft.Rule.{Rule}
use Rattle.am_problem.specs.inside.Names.{IsNameOf, IsRuleOver, names_in}
use Rattle.am_problem.proofs.KnownNames.{rules_known, starts_known}
use Rattle.am_problem.proofs.numbering.number_lines.Goals as goal

pub number_names-requires-clause-known : goal.number_names-requires-clause-known
number_names-requires-clause-known c =
    let own = names_in c.in_ok-names.names in
    let names : own ≡ names_of (seen_rules c.args.lines.rules) =
    c.in_ok-names.ensures ∙ ap (λ (rs : List Rule). names_of (seen_rules rs)) c.as_slice.ensures in
    subst (λ (row : List (Bor (List ℕ))). All (IsNameOf own) (seen_names row)) (sym c.as_slice-2.ensures)
    (subst (λ (vs : List Word). All (IsNameOf vs) (seen_names c.args.lines.starts)) (sym names)
    (starts_known (seen_lines c.args.lines) c.requires))

pub number_rules-requires-clause-known : goal.number_rules-requires-clause-known
number_rules-requires-clause-known c =
    let own = names_in c.in_ok-names.names in
    let names : own ≡ names_of (seen_rules c.args.lines.rules) =
    c.in_ok-names.ensures ∙ ap (λ (rs : List Rule). names_of (seen_rules rs)) c.as_slice.ensures in
    subst (λ (rs : List Rule). All (IsRuleOver own) (seen_rules rs)) (sym c.as_slice-3.ensures)
    (subst (λ (vs : List Word). All (IsRuleOver vs) (seen_rules c.args.lines.rules)) (sym names)
    (rules_known (seen_lines c.args.lines) c.requires))
