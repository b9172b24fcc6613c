-- Tuples of words.
use Rattle.std.specs.Prelude.{◌≡◌, ℕ, List, length}
use Rattle.am_bv.specs.Words.{AreWords}

-- so many words of this width
pub record IsTuple (width count : ℕ) (tuple : List ℕ) : Type 0 where
  pub counted : length tuple ≡ count
  pub words : AreWords width tuple
