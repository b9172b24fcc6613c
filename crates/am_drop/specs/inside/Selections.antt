-- What is selected of negative examples, one after another.
use Rattle.std.specs.Prelude.{ℕ, ◌+◌, ◌^◌, ◌≤◌, List, Option, None, Some, length}
use Rattle.am_chain.specs.declared.chain.Chain.{Chain}
use Rattle.am_query.specs.Answers.{IsSpentOn}
use Rattle.am_query.specs.Queries.{AreFitted, AreStored, input_count}
use Rattle.am_query.specs.Transformers.{IsTransformerOf, SuitsExamples}
use Rattle.am_query.specs.Turns.{AreAskedPlaces, AreKeptBefore, at_places}
use Rattle.am_query.specs.declared.query.Query.TheVariants.{Fit}
use Rattle.am_drop.specs.declared.keeper.Keeper.{Keeper}
use Rattle.am_drop.specs.declared.keeper.Selection.{Selection}

-- the examples may be asked about, with this limit
pub record IsKeeper (k : Keeper) : Type 0 where
  pub examples : AreFitted k.problem.now k.pos.now k.neg.now
  pub least : 1 ≤ k.limit
  pub most : k.limit ≤ 2 ^ 30

-- 3 to the number of selectors is at most the limit, and so no query reaches it
abbrev pub HasEnough : Keeper → Type 0
HasEnough k = 3 ^ input_count k.problem.now (Fit k.pos.now k.neg.now) ≤ k.limit

-- Of the negative examples before place n those at the places are kept, and the transformer satisfies the positive
-- examples and them; they are rows of the problem, and at most n.
pub record IsSelection (k : Keeper) (n : ℕ) (s : Selection) : Type 0 where
  pub kept : AreKeptBefore k.problem.now k.pos.now k.neg.now n s.places
  pub derivable : IsTransformerOf k.problem.now s.term
  pub suits : SuitsExamples k.problem.now s.term k.pos.now (at_places k.neg.now s.places)
  pub stored : AreStored k.problem.now (length k.pos.now + n) k.pos.now (at_places k.neg.now s.places)

-- what was decided on the example at place n: it is in the selection now, or isn't; or the query reached the limit
abbrev pub IsDecision : Keeper → ℕ → Selection → Option (List Chain) → Type 0
IsDecision k n s None = IsSelection k (n + 1) s
IsDecision k n s (Some log) =
    AreAskedPlaces k.problem.now k.pos.now k.neg.now s.places
    × IsSpentOn k.problem.now (Fit k.pos.now (at_places k.neg.now s.places)) k.limit log
