-- Laws of the lists of trees, and of the list of all best tuples. The function of `theorems` proves them.
use Rattle.std.specs.Prelude.{◌≡◌, ◌↔◌, ℕ, List, [], All, Contains}
use Rattle.std.specs.List.{Any}
use Rattle.am_bv.specs.declared.term.Term.{Term}
use Rattle.am_domain.specs.Question.{IsAbsent, IsBest}
use Rattle.am_problem.specs.Problem.{Problem, question_of}
use Rattle.am_tree.specs.declared.tree.Tree.{Tree}
use Rattle.am_tree.specs.Trees.{AreTrees, Derives, Rules, terms_of}
use Rattle.am_all.specs.AllBest.{AreAllBest, GivesBest}
use Rattle.am_tree.specs.Listed.{trees_of, tuples_of}

-- the listed trees are those that derive
abbrev pub ListsDerivedTrees : Type 0
ListsDerivedTrees =
    (rules : Rules) (depth n : ℕ) (t : Tree) → Contains (trees_of rules depth n) t ↔ Derives rules depth n t

-- the listed tuples are the tuples of trees from the starts
abbrev pub ListsDerivedTuples : Type 0
ListsDerivedTuples =
    (rules : Rules) (starts : List ℕ) (depth : ℕ) (ts : List Tree) →
    Contains (tuples_of rules starts depth) ts ↔ AreTrees rules starts depth ts

-- each tuple in the list of all best is one of trees from the starts, and best
abbrev pub HasOnlyBest : Type 0
HasOnlyBest =
    (p : Problem) (listed : List (List Tree)) → AreAllBest p listed →
    All (λ ts. AreTrees p.rules p.starts p.depth ts × GivesBest p ts) listed

-- best terms are those of some tuple in the list
abbrev pub HasEachBest : Type 0
HasEachBest =
    (p : Problem) (listed : List (List Tree)) → AreAllBest p listed →
    (terms : List Term) → IsBest (question_of p) terms → Any (λ ts. terms_of p.rules p.starts ts ≡ terms) listed

-- the list is empty exactly where no transformer is sound
abbrev pub IsEmptyWhereAbsent : Type 0
IsEmptyWhereAbsent =
    (p : Problem) (listed : List (List Tree)) → AreAllBest p listed → (listed ≡ []) ↔ IsAbsent (question_of p)
