-- What calls that make a test answer, and what they ask of an outcome.
use Rattle.std.specs.Prelude.{◌≡◌, ◌<◌, ◌^◌, ℕ, List, length, Result, Ok, Err}
use Rattle.am_bv.specs.declared.term.Term.{Term}
use Rattle.am_chain.specs.declared.chain.Chain.{Chain}
use Rattle.am_problem.specs.Problem.{Problem}
use Rattle.am_query.specs.Acceptance.{Test, acceptance_by, hints_refute, refuted}
use Rattle.am_lit.specs.declared.formula.Formula.{Formula}
use Rattle.am_query.specs.Formulas.{query_circuit}
use Rattle.am_query.specs.Queries.{AreStored}
use Rattle.am_query.specs.Turns.{after_trace}
use Rattle.am_query.specs.declared.outcome.Outcome.{Outcome}
use Rattle.am_query.specs.declared.query.Query.{Query}
use Rattle.am_query.specs.declared.turn.Turn.{Turn}
use Rattle.am_cert.specs.Certificate.{Certificate}
use Rattle.am_cert.specs.Versions.{folds}
use Rattle.am_cert.specs.declared.answer.Proofs.{Proofs}
use Rattle.am_cert.specs.declared.answer.Proofs.TheVariants.{Chains, Hinted}
use Rattle.am_cert.specs.declared.checking.CheckFail.{CheckFail}
use Rattle.am_cert.specs.declared.checking.CheckFail.TheVariants.{NoMemory, Rejected}

-- Ok where the test passes, a fault with which it fails, or want of memory
abbrev pub IsVerdictOf : Test → Result (Unit {0}) CheckFail → Type 0
IsVerdictOf test (Ok u) = test.Passes
IsVerdictOf test (Err (Rejected f)) = test.Fails f
IsVerdictOf test (Err NoMemory) = Unit {0}

-- refutation number 0 refutes clauses over so many variables, by a log or by the first hints
abbrev pub first_refuted : Proofs → List Chain → ℕ → List (List ℕ) → Test
first_refuted Chains log vars clauses = refuted 0 clauses log
first_refuted (Hinted first second) log vars clauses = hints_refute 0 vars clauses first

-- refutation number 1 refutes them, by a log or by the second hints
abbrev pub second_refuted : Proofs → List Chain → ℕ → List (List ℕ) → Test
second_refuted Chains log vars clauses = refuted 1 clauses log
second_refuted (Hinted first second) log vars clauses = hints_refute 1 vars clauses second

-- the test of an outcome with these proofs, whose logs may be others
abbrev pub acceptance_but : Certificate → Outcome → List Chain → List Chain → Test
acceptance_but c o first second =
    acceptance_by (folds c.version) c.problem o
    (λ net. first_refuted c.proofs first net.vars net.clauses)
    (λ net. second_refuted c.proofs second net.vars net.clauses)

-- the formula of a query in the form that the certificate's version says, which has few clauses and variables
pub record IsFormulaOf (c : Certificate) (q : Query) (f : Formula) : Type 0 where
  pub clauses : f.clauses ≡ (query_circuit (folds c.version) c.problem q).clauses
  pub vars : f.vars ≡ (query_circuit (folds c.version) c.problem q).vars
  pub few : length f.clauses < 2 ^ 31
  pub few_vars : f.vars < 2 ^ 30

-- ---- what is asked

-- one term for each start
abbrev pub AreCounted : Problem → List Term → Type 0
AreCounted p terms = length terms ≡ length p.starts

-- the examples after a trace are rows of the problem, and no more than its turns
abbrev pub AreStoredAfter : Problem → List Turn → Type 0
AreStoredAfter p trace = let s = after_trace trace in AreStored p p.turns s.positives s.negatives
