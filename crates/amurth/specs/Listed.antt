-- What `list` writes: all best tuples of a small problem.
use Rattle.std.specs.Prelude.{◌≡◌, ℕ, ◌⊎◌, List, [], ◌∷◌, codes, decimal, length, map}
use Rattle.am_all.specs.AllBest.{AreAllBest}
use Rattle.am_all.specs.Sizes.{IsSmallProblem, IsTooGreat}
use Rattle.am_cert.specs.Printing.{terms_words}
use Rattle.am_bv.specs.declared.term.Term.{Term}
use Rattle.am_problem.specs.Problem.{Problem}
use Rattle.am_problem.specs.Texts.{ReadsAsProblem, problem_of}
use Rattle.am_syntax.specs.Canonical.{lines}
use Rattle.am_syntax.specs.Readers.{Words}
use Rattle.am_syntax.specs.declared.refusal.Refusal.{Refusal}
use Rattle.am_tree.specs.Trees.{terms_of}
use Rattle.am_tree.specs.declared.tree.Tree.{Tree}
use Rattle.amurth.specs.Answers.{IsAnswer}
use Rattle.amurth.specs.Lines.{refusal_line}
use Rattle.amurth.specs.declared.status.Status.{Status}
use Rattle.amurth.specs.declared.status.Status.TheVariants.{Done, Refused}

-- terms on one line
abbrev pub terms_row : List Term → Words
terms_row terms = codes "terms" ∷ terms_words terms

-- how many tuples of trees there are, and a line of terms for each
abbrev pub list_text : Problem → List (List Tree) → List ℕ
list_text p tuples =
    lines ((codes "best" ∷ decimal (length tuples) ∷ []) ∷ map (λ ts. terms_row (terms_of p.rules p.starts ts)) tuples)

-- the problem is small, and all its best tuples are written
pub record AreListed (p : Problem) (status : Status) (written : List ℕ) : Type 0 where
  pub ended : status ≡ Done
  pub small : IsSmallProblem p
  pub tuples : List (List Tree)
  pub all : AreAllBest p tuples
  pub wrote : written ≡ list_text p tuples

-- the problem isn't small, and the line that says why is written
pub record IsDeclined (p : Problem) (status : Status) (written : List ℕ) : Type 0 where
  pub ended : status ≡ Refused
  pub refusal : Refusal
  pub great : IsTooGreat p refusal
  pub wrote : written ≡ refusal_line refusal

-- what is due to a problem: the list, where the problem is small
abbrev pub IsListing : Problem → Status → List ℕ → Type 0
IsListing p status written = AreListed p status written ⊎ IsDeclined p status written

-- what `list` writes for an input, by the status after it
abbrev pub IsListDue : Status → List ℕ → List ℕ → Type 0
IsListDue = IsAnswer ReadsAsProblem problem_of IsListing
