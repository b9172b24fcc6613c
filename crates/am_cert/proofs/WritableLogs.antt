-- Logs over the formulas of queries can be written.
use Rattle.std.proofs.Common.{ℕ, ◌+◌, ◌^◌, ◌<◌, ◌≤◌, List, [], All, length, arith, true}
use Rattle.std.proofs.lemmas.List.Elements.{All-weaker}
use Rattle.am_chain.specs.Replay.{DerivesClauses}
use Rattle.am_chain.specs.declared.chain.Chain.{Chain}
use Rattle.am_chain.specs.declared.chain.Step.{Step}
use Rattle.am_problem.specs.Limits.{IsProblem}
use Rattle.am_problem.specs.Problem.{Problem}
use Rattle.am_query.specs.Answers.{IsNumberedQuery, IsRefuted, IsSpentOn}
use Rattle.am_query.specs.Formulas.{query_circuit}
use Rattle.am_query.specs.declared.query.Query.{Query}
use Rattle.am_solve.specs.Answers.{ChainsAreShort}
use Rattle.am_syntax.specs.Readers.{Word}
use Rattle.am_cert.specs.Certificate.{IsBounded}
use Rattle.am_cert.specs.Grammar.{chain, log, step}
use Rattle.am_cert.proofs.Following.{good_code}
use Rattle.am_cert.proofs.Items.{good_from_all}
use Rattle.am_cert.proofs.Numbered.{IsChainBelow, IsStepBelow, log_numbers}

module _ (vars count : ℕ) (few_vars : vars ≤ 2 ^ 32) (few : count ≤ 2 ^ 32) where
  good_step : (t : Step) → IsStepBelow vars count t → step.Good t
  good_step t is = (
    good_code t.variable (omega (arith, is.variable, few_vars)),
    good_code t.clause (omega (arith, is.clause, few)),
  )

  good_chain : (c : Chain) → IsChainBelow vars count c → chain.Good c
  unfolding chain
  good_chain c is = (
    good_code c.first (omega (arith, is.first, few)),
    good_from_all (λ _. step) (IsStepBelow vars count) (λ _ t h. good_step t h) [] c.steps is.steps,
  )

  good_log : (name : Word) (chains : List Chain) → All (IsChainBelow vars count) chains → (log name).Good chains
  unfolding log
  good_log name chains are =
      good_from_all (λ _. chain) (IsChainBelow vars count) (λ _ c h. good_chain c h) [] chains are

-- a log can be written, under each name, and isn't too long
pub record IsWritten (chains : List Chain) : Type 0 where
  pub good : (name : Word) → (log name).Good chains
  pub bounded : IsBounded chains

-- a valid log of few chains, over the formula of a query
written : (p : Problem) (q : Query) (chains : List Chain) (derived : List (List ℕ)) → IsNumberedQuery p q →
    DerivesClauses (query_circuit true p q).clauses chains derived → ChainsAreShort (query_circuit true p q).vars chains
    →
    length chains < 2 ^ 30 → IsWritten chains
written p q chains derived numbered derives short few =
    let vars = (query_circuit true p q).vars in
    let all : length (query_circuit true p q).clauses + length chains ≤ 2 ^ 32 =
    omega (arith, numbered.few_clauses, few) in
    let are = log_numbers vars (2 ^ 32) (query_circuit true p q).clauses derived chains numbered.normal derives all in
    record {
      good = λ name. good_log vars (2 ^ 32) (omega (arith, numbered.few_vars)) (omega arith) name chains are;
      bounded = record {
        chains = few;
        steps = All-weaker (λ (c : Chain). length c.steps ≤ vars) (λ (c : Chain). length c.steps < 2 ^ 30)
            (λ c h. omega (arith, h, numbered.few_vars)) chains short;
      };
    }

module _ (p : Problem) (is : IsProblem p) (q : Query) (chains : List Chain) where
  -- a refutation of a query's formula
  pub refutations_are_written : IsRefuted p q p.conflicts chains → IsWritten chains
  refutations_are_written refuted =
      written p q chains refuted.refutes.0 refuted.numbered refuted.refutes.1 refuted.short
      (omega (arith, refuted.few, is.formed.few_conflicts))

  -- the chains that were spent on it
  pub spent_logs_are_written : IsSpentOn p q p.conflicts chains → IsWritten chains
  spent_logs_are_written spent =
      written p q chains spent.progress.learnt spent.numbered spent.progress.derives spent.short
      (omega (arith, spent.many, is.formed.few_conflicts))
