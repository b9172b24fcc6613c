-- The trees of a start with the values of their terms.
use Rattle.std.specs.Prelude.{◌≡◌, ℕ, List, All, map}
use Rattle.am_bv.specs.Terms.{val}
use Rattle.am_bv.specs.declared.term.Term.{Term}
use Rattle.am_problem.specs.Problem.{Problem}
use Rattle.am_tree.specs.Trees.{term_of}
use Rattle.am_tree.specs.Listed.{trees_of}
use Rattle.am_all.specs.declared.candidates.Candidate.{Candidate}
use Rattle.am_all.specs.declared.cases.Case.{Case}

-- the values of a term at cases
abbrev pub values_at : ℕ → List Case → Term → List ℕ
values_at w cases t = map (λ case. val w t case.fields) cases

-- the values of the tree's term are those at the cases
abbrev pub HasCaseValues : Problem → List Case → ℕ → Candidate → Type 0
HasCaseValues p cases start c = c.values ≡ values_at p.width cases (term_of p.rules start c.tree)

-- the trees of a start, in order, with their values
pub record AreCandidates (p : Problem) (cases : List Case) (start : ℕ) (candidates : List Candidate) : Type 0 where
  pub trees : map (λ c. c.tree) candidates ≡ trees_of p.rules p.depth start
  pub values : All (HasCaseValues p cases start) candidates
