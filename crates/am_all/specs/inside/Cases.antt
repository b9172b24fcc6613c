-- The operation's outcomes, and what they are at the members of inputs.
use Rattle.std.specs.Prelude.{◌≡◌, ℕ, ◌↔◌, List, All, Contains, map}
use Rattle.std.specs.List.{AllZip, Any, concat}
use Rattle.am_bv.specs.Terms.{val}
use Rattle.am_domain.specs.Question.{AreInputs, AreMembers}
use Rattle.am_domain.specs.Tuple.{IsTuple}
use Rattle.am_problem.specs.Problem.{IsAssumed, Problem, question_of}
use Rattle.am_all.specs.declared.cases.Case.{Case}
use Rattle.am_all.specs.declared.cases.Outcome.{Outcome}
use Rattle.am_all.specs.declared.values.Value.{Value}
use Rattle.am_all.specs.inside.Sets.{Has}

-- words at which the operation is used, and its value there
pub record IsOutcome (p : Problem) (o : Outcome) : Type 0 where
  pub words : IsTuple p.width p.inputs o.words
  pub assumed : IsAssumed p.width p.assume o.words
  pub image : o.image ≡ val p.width p.operation o.words

-- the outcomes at rows of words
pub record AreOutcomesAt (p : Problem) (rows : List (List ℕ)) (outcomes : List Outcome) : Type 0 where
  pub each : All (IsOutcome p) outcomes
  pub all : (words : List ℕ) → Contains rows words → IsAssumed p.width p.assume words →
      Any (λ o. o.words ≡ words) outcomes

-- all outcomes
pub record AreOutcomes (p : Problem) (outcomes : List Outcome) : Type 0 where
  pub each : All (IsOutcome p) outcomes
  pub all : (words : List ℕ) → IsTuple p.width p.inputs words → IsAssumed p.width p.assume words →
      Any (λ o. o.words ≡ words) outcomes

-- each word is a member of the value at its place
abbrev pub AreIn : List Value → List ℕ → Type 0
AreIn values words = AllZip (λ v c. Has v.members c) values words

-- the case of a row of values has their fields, and the images of the outcomes at their members
pub record IsCaseBy (outcomes : List Outcome) (values : List Value) (case : Case) : Type 0 where
  pub fields : case.fields ≡ concat (map (λ v. v.fields) values)
  pub images : (c : ℕ) → Has case.images c ↔ Any (λ o. AreIn values o.words × (c ≡ o.image)) outcomes

-- the operation's value at members of the inputs at which it is used
pub record IsImage (p : Problem) (inputs : List (List ℕ)) (c : ℕ) : Type 0 where
  pub words : List ℕ
  pub members : AreMembers (question_of p) inputs words
  pub assumed : IsAssumed p.width p.assume words
  pub value : c ≡ val p.width p.operation words

-- the case of inputs has their fields and images
pub record IsCaseOf (p : Problem) (inputs : List (List ℕ)) (case : Case) : Type 0 where
  pub valid : AreInputs (question_of p) inputs
  pub fields : case.fields ≡ concat inputs
  pub images : (c : ℕ) → Has case.images c ↔ IsImage p inputs c

-- the cases of all inputs
pub record AreCases (p : Problem) (cases : List Case) : Type 0 where
  pub each : All (λ case. (inputs : List (List ℕ)) × IsCaseOf p inputs case) cases
  pub all : (inputs : List (List ℕ)) → AreInputs (question_of p) inputs → Any (IsCaseOf p inputs) cases
