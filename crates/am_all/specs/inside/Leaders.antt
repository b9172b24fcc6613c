-- Tuples of trees by the numbers of their results, and those that lead.
use Rattle.std.specs.Prelude.{◌≡◌, ℕ, ◌*◌, ◌<◌, ◌≤◌, ◌⊎◌, List, All, Contains, length, map}
use Rattle.std.specs.List.{AllZip, Any}
use Rattle.am_bv.specs.Terms.{val}
use Rattle.am_bv.specs.declared.term.Term.{Term}
use Rattle.am_problem.specs.Kinds.{fields_of}
use Rattle.am_problem.specs.Problem.{Problem}
use Rattle.am_tree.specs.declared.tree.Tree.{Tree}
use Rattle.am_tree.specs.Trees.{terms_of}
use Rattle.am_tree.specs.Listed.{tuples_of}
use Rattle.am_all.specs.declared.candidates.Candidate.{Candidate}
use Rattle.am_all.specs.declared.cases.Case.{Case}
use Rattle.am_all.specs.declared.word_set.WordSet.{WordSet}
use Rattle.am_all.specs.inside.Candidates.{HasCaseValues}
use Rattle.am_all.specs.inside.Cases.{AreCases}
use Rattle.am_all.specs.inside.Numbers.{tuple_number}
use Rattle.am_all.specs.inside.Results.{IsBeyond, IsCovering, IsMissing, IsResultInside}
use Rattle.am_all.specs.inside.Values.{AreAllMembers}

-- the sets of all members and the cases of a problem whose tuples of words have few bits
pub record AreFacts (p : Problem) (sets : List WordSet) (cases : List Case) : Type 0 where
  pub few : p.width * fields_of p.kind ≤ 16
  pub all_members : AreAllMembers p sets
  pub all_cases : AreCases p cases

-- the numbers of the terms' results at the cases
abbrev pub numbers_of : Problem → List Case → List Term → List ℕ
numbers_of p cases terms = map (λ case. tuple_number p.width (map (λ t. val p.width t case.fields) terms)) cases

-- the numbers of the results of a tuple's terms
abbrev pub tree_numbers : Problem → List Case → List Tree → List ℕ
tree_numbers p cases ts = numbers_of p cases (terms_of p.rules p.starts ts)

-- the numbers of all tuples of trees
abbrev pub all_numbers : Problem → List Case → List (List ℕ)
all_numbers p cases = map (tree_numbers p cases) (tuples_of p.rules p.starts p.depth)

-- the tuple's trees have their values, start by start
abbrev pub IsTupleOf : Problem → List Case → List Candidate → Type 0
IsTupleOf p cases tuple = AllZip (HasCaseValues p cases) p.starts tuple

-- all tuples of trees, in order, with their values
pub record AreTuples (p : Problem) (cases : List Case) (tuples : List (List Candidate)) : Type 0 where
  pub trees : map (λ tuple. map (λ c. c.tree) tuple) tuples ≡ tuples_of p.rules p.starts p.depth
  pub values : All (IsTupleOf p cases) tuples

-- so many numbers below a number
pub record IsResult (count size : ℕ) (numbers : List ℕ) : Type 0 where
  pub counted : length numbers ≡ count
  pub inside : All (λ n. n < size) numbers

-- Some of the results that are listed, which cover all images. One of them is inside each listed one that covers all
-- images.
pub record AreLeaders (cases : List Case) (sets : List WordSet) (listed leaders : List (List ℕ)) : Type 0 where
  pub results : All (IsResult (length cases) (length sets)) leaders
  pub cover : All (IsCovering cases sets) leaders
  pub stand : All (Contains listed) leaders
  pub lead :
      All (λ numbers. IsCovering cases sets numbers → Any (λ leader. IsResultInside sets leader numbers) leaders) listed

-- The leaders that a result isn't inside, and the result.
pub record AreJoinedLeaders (sets : List WordSet) (leaders : List (List ℕ)) (numbers : List ℕ) (joined : List (List ℕ))
    :
    Type 0 where
  pub from : All (λ leader. Contains leaders leader ⊎ (leader ≡ numbers)) joined
  pub stay : All (λ leader. Contains joined leader ⊎ IsResultInside sets numbers leader) leaders
  pub new : Contains joined numbers

-- the result covers all images, and no leader is strictly inside it
pub record IsLeading (cases : List Case) (sets : List WordSet) (leaders : List (List ℕ)) (numbers : List ℕ) :
    Type 0 where
  pub cover : IsCovering cases sets numbers
  pub unled : All (λ leader. IsResultInside sets leader numbers → IsResultInside sets numbers leader) leaders

-- the result lacks an image, or a leader is strictly inside it
abbrev pub IsLed : List Case → List WordSet → List (List ℕ) → List ℕ → Type 0
IsLed cases sets leaders numbers =
    IsMissing cases sets numbers ⊎ Any (λ leader. IsResultInside sets leader numbers × IsBeyond sets numbers leader)
    leaders
