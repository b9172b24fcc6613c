-- Tuples of words.
use Rattle.std.specs.Prelude.{ℕ, ◌≡◌, List, All, length}
use Rattle.am_blast.specs.Words.{IsWord}

-- so many words of w literals, of variables below a number
pub record AreWordsIn (w count vars : ℕ) (words : List (List ℕ)) : Type 0 where
  pub many : length words ≡ count
  pub each : All (IsWord w vars) words
