-- Rules in memory, and as plain data.
use Rattle.std.proofs.Common.{◌≡◌, ◌+◌, ◌||◌, List, [], ◌∷◌, length, map, bytes_eq, sum_by, refl, ap, ◌∙◌, sym}
use Rattle.std.specs.List.{list_any}
use Rattle.std.proofs.lemmas.List.{length-map}
use Rattle.std.proofs.lemmas.List.Sums.{sum_by-cons}
use Rattle.am_problem.specs.declared.draft.Production.{Production as StoredProduction}
use Rattle.am_problem.specs.declared.draft.Rule.{Rule as StoredRule}
use Rattle.am_problem.specs.Lines.{Rule}
use Rattle.am_problem.specs.Grammar.{has_name, names_of, productions_of_rules}
use Rattle.am_syntax.specs.Readers.{Word}
use Rattle.am_problem.specs.StoredLines.{seen_production, seen_rule, seen_rules}

pub any_seen : (rules : List StoredRule) (v : Word)
    → has_name (names_of (seen_rules rules)) v ≡ list_any (λ (rule : StoredRule). bytes_eq v rule.name.now) rules
any_seen [] v = refl
any_seen (r ∷ rules) v = ap (λ b. bytes_eq v r.name.now || b) (any_seen rules v)

pub made_seen : (rules : List StoredRule)
    → productions_of_rules (seen_rules rules) ≡ sum_by (λ (rule : StoredRule). length rule.productions) rules
made_seen [] = refl
made_seen (r ∷ rules) =
    sum_by-cons (λ (r : Rule). length r.productions) (seen_rule r) (seen_rules rules)
    ∙ ap (λ n. n + productions_of_rules (seen_rules rules)) (length-map r.productions seen_production)
    ∙ ap (λ n. length r.productions + n) (made_seen rules)
    ∙ sym (sum_by-cons (λ (rule : StoredRule). length rule.productions) r rules)

pub length_seen : (rules : List StoredRule) → length (seen_rules rules) ≡ length rules
length_seen rules = length-map rules seen_rule

pub length_productions : (ps : List StoredProduction) → length (map seen_production ps) ≡ length ps
length_productions ps = length-map ps seen_production

-- what is looked up and counted in rules in memory is that of the rules as plain data
pub ruleset seen = (any_seen, made_seen, length_seen, length_productions)
