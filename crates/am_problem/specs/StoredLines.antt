-- What was read, as contracts see it.
use Rattle.std.specs.Prelude.{ℕ, List, map}
use Rattle.std.specs.Borrow.{Bor}
use Rattle.am_syntax.specs.Readers.{Word}
use Rattle.am_syntax.specs.Spelling.{Scope}
use Rattle.am_problem.specs.declared.draft.Scope.{Scope as StoredScope}
use Rattle.am_problem.specs.declared.draft.Budgets.{Budgets as StoredBudgets}
use Rattle.am_problem.specs.declared.draft.Lines.{Lines as StoredLines}
use Rattle.am_problem.specs.declared.draft.Header.{Header as StoredHeader}
use Rattle.am_problem.specs.declared.draft.Production.{Production as StoredProduction}
use Rattle.am_problem.specs.declared.draft.Production.TheVariants.{Leaf, Node}
use Rattle.am_problem.specs.declared.draft.Rule.{Rule as StoredRule}
use Rattle.am_problem.specs.Lines.{Budgets, Lines, Header, Production, Rule, leaf, node}
use Rattle.am_problem.specs.Grammar.{scope_at}

-- where a term stands
abbrev pub seen_scope : StoredScope → Scope
seen_scope s = scope_at s.width s.letter s.variables

-- borrowed names, as words
abbrev pub seen_names : List (Bor (List ℕ)) → List Word
seen_names names = map (λ (n : Bor (List ℕ)). n.now) names

-- a production with borrowed names, as plain data
abbrev pub seen_production : StoredProduction → Production
seen_production (Leaf t) = leaf t
seen_production (Node op names) = node op (seen_names names)

-- such productions
abbrev pub seen_productions : List StoredProduction → List Production
seen_productions ps = map seen_production ps

-- a rule with borrowed names, as plain data
abbrev pub seen_rule : StoredRule → Rule
seen_rule r = record { name = r.name.now; productions = seen_productions r.productions }

-- such rules
abbrev pub seen_rules : List StoredRule → List Rule
seen_rules rules = map seen_rule rules

-- the first lines, as plain data
abbrev pub seen_header : StoredHeader → Header
seen_header h = record { width = h.width; inputs = h.inputs; operation = h.operation; assume = h.assume }

-- what may be spent, as plain data
abbrev pub seen_budgets : StoredBudgets → Budgets
seen_budgets b = record { depth = b.depth; turns = b.turns; conflicts = b.conflicts }

-- the lines of a problem, as plain data
abbrev pub seen_lines : StoredLines → Lines
seen_lines d = record {
  header = seen_header d.header;
  kind = d.kind;
  starts = seen_names d.starts;
  budgets = seen_budgets d.budgets;
  rules = seen_rules d.rules;
}
