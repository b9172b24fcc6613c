-- Finished formulas of queries.
use Rattle.std.specs.Prelude.{◌≡◌, ◌^◌, ◌<◌, Bool, All, length}
use Rattle.std.specs.List.Sorted.{IsStrictlyIncreasing}
use Rattle.am_lit.specs.UnitRow.{Determines}
use Rattle.am_problem.specs.Problem.{Problem}
use Rattle.am_query.specs.Formulas.{query_circuit}
use Rattle.am_query.specs.Queries.{input_count}
use Rattle.am_query.specs.declared.query.Query.{Query}
use Rattle.am_query.specs.declared.stated.Stated.{Stated}

-- the formula of a query in this form, with the variables of its inputs, which determine it
pub record IsStated (folding : Bool) (p : Problem) (q : Query) (s : Stated) : Type 0 where
  pub clauses : s.formula.clauses ≡ (query_circuit folding p q).clauses
  pub vars : s.formula.vars ≡ (query_circuit folding p q).vars
  pub determined : Determines s.formula.clauses s.formula.vars s.base
  pub rising : IsStrictlyIncreasing s.base
  pub below : All (λ x. x < s.formula.vars) s.base
  pub count : length s.base ≡ input_count p q
  pub few_vars : s.formula.vars < 2 ^ 30
  pub few_clauses : length s.formula.clauses < 2 ^ 31
