-- What the logs of the solver say of a query.
use Rattle.std.proofs.Common.{◌≡◌, ℕ, ◌^◌, ◌<◌, ◌≤◌, true, List, length, map, ap, arith, subst}
use Rattle.std.specs.List.{Contains}
use Rattle.std.proofs.lemmas.List.{length-map}
use Rattle.std.proofs.lemmas.List.Elements.{All-contains, All-weaker}
use Rattle.am_lit.specs.Clause.{IsFormula}
use Rattle.am_chain.specs.declared.chain.Chain.{Chain}
use Rattle.am_chain.specs.declared.chain.Step.{Step}
use Rattle.am_chain.specs.Replay.{Refutes}
use Rattle.am_chain.specs.Trimmed.{IsTrimmed, TrimmedChainsAreTheLogs}
use Rattle.am_solve.specs.Answers.{ChainsAreShort, IsProgress}
use Rattle.am_problem.specs.Problem.{Problem}
use Rattle.am_query.specs.Answers.{IsNumberedQuery, IsRefuted, IsSpentOn}
use Rattle.am_query.specs.Formulas.{query_circuit}
use Rattle.am_query.specs.inside.Stated.{IsStated}
use Rattle.am_query.specs.declared.query.Query.{Query}
use Rattle.am_query.specs.declared.stated.Stated.{Stated}

module _ (p : Problem) (q : Query) (s : Stated) (is : IsStated true p q s) where
  numbered : IsNumberedQuery p q
  numbered = record {
    normal =
        let vars : IsFormula s.formula.clauses (query_circuit true p q).vars =
        subst (IsFormula s.formula.clauses) is.vars s.formula.normal in
        subst (λ clauses. IsFormula clauses (query_circuit true p q).vars) is.clauses vars;
    few_clauses = subst (λ (clauses : List (List ℕ)). length clauses < 2 ^ 31) is.clauses is.few_clauses;
    few_vars = subst (λ vars. vars < 2 ^ 30) is.vars is.few_vars;
  }

  module _ (limit : ℕ) (log : List Chain) where
    -- a log that refutes the stated formula
    pub refuted_by : Refutes s.formula.clauses log × (length log ≤ limit) × ChainsAreShort s.formula.vars log →
        IsRefuted p q limit log
    refuted_by h = record {
      refutes = subst (λ clauses. Refutes clauses log) is.clauses h.0;
      few = h.1;
      short = subst (λ vars. ChainsAreShort vars log) is.vars h.2;
      numbered = numbered;
    }

    -- a log that was spent on it
    pub spent_by : (length log ≡ limit) × IsProgress s.formula.clauses s.formula.vars log
        × ChainsAreShort s.formula.vars log → IsSpentOn p q limit log
    spent_by h = record {
      many = h.0;
      progress =
          let vars : IsProgress s.formula.clauses (query_circuit true p q).vars log =
          subst (λ vars. IsProgress s.formula.clauses vars log) is.vars h.1 in
          subst (λ clauses. IsProgress clauses (query_circuit true p q).vars log) is.clauses vars;
      short = subst (λ vars. ChainsAreShort vars log) is.vars h.2;
      numbered = numbered;
    }

-- the variables on which a chain resolves
abbrev pivots : Chain → List ℕ
pivots chain = map (λ (step : Step). step.variable) chain.steps

-- no chain of a trimmed log is longer than the longest of the log
pub short_trimmed : TrimmedChainsAreTheLogs → (vars given : ℕ) (log kept : List Chain) → IsTrimmed given log kept →
    ChainsAreShort vars log → ChainsAreShort vars kept
short_trimmed law vars given log kept trimmed short =
    let IsShort : Chain → Type 0 = λ chain. length chain.steps ≤ vars in
    let IsOne : Chain → Type 0 = λ t. (chain : Chain) × Contains log chain × (pivots t ≡ pivots chain) in
    All-weaker IsOne IsShort
    (λ t one.
    let most : length one.0.steps ≤ vars = All-contains IsShort log one.0 short one.1 in
    let variable : Step → ℕ = λ step. step.variable in
    omega (arith, most, length-map t.steps variable, length-map one.0.steps variable, ap length one.2))
    kept (law given log kept trimmed)
