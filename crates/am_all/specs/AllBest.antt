-- All best transformers of a problem, in order.
use Rattle.std.specs.Prelude.{List, [], ◌∷◌}
use Rattle.am_domain.specs.Question.{IsBest}
use Rattle.am_problem.specs.Problem.{Problem, question_of}
use Rattle.am_tree.specs.declared.tree.Tree.{Tree}
use Rattle.am_tree.specs.Trees.{terms_of}
use Rattle.am_tree.specs.Listed.{tuples_of}

-- the second list has, in the same order, those items of the first for which P holds
pub data KeepsWhere {A : Type 0} (P : A → Type 0) : List A → List A → Type 0 where
  ends : KeepsWhere P [] []
  keeps : {x : A} {xs ys : List A} → P x → KeepsWhere P xs ys → KeepsWhere P (x ∷ xs) (x ∷ ys)
  drops : {x : A} {xs ys : List A} → ¬ P x → KeepsWhere P xs ys → KeepsWhere P (x ∷ xs) ys

-- the terms of a tuple of trees are best for the problem
abbrev pub GivesBest : Problem → List Tree → Type 0
GivesBest p trees = IsBest (question_of p) (terms_of p.rules p.starts trees)

-- all tuples of trees whose terms are best, in order
abbrev pub AreAllBest : Problem → List (List Tree) → Type 0
AreAllBest p listed = KeepsWhere (GivesBest p) (tuples_of p.rules p.starts p.depth) listed
