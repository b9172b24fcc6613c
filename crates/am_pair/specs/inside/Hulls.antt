-- The hull of words that come one by one.
use Rattle.std.specs.Prelude.{ℕ, ◌≤◌, List, ◌∷◌, length, slice_index}
use Rattle.std.specs.declared.option.Option.{Option}
use Rattle.std.specs.declared.option.Option.TheVariants.{Some, None}
use Rattle.am_domain.specs.Abstraction.{Abstraction}
use Rattle.am_domain.specs.Meaning.{Meaning, IsAbstract}
use Rattle.am_pair.specs.Pairs.{second}

-- the hull of some words and one more, from the hull of the former
abbrev pub hull_with : Abstraction → ℕ → Option (List ℕ) → ℕ → List ℕ
hull_with b w None c = c ∷ c ∷ b.of_word w c
hull_with b w (Some p) c = slice_index p 0 ∷ c ∷ b.join w (second p) (b.of_word w c)

-- two words, and then a value of the second domain
pub record IsHull (m : Meaning) (w : ℕ) (p : List ℕ) : Type 0 where
  pub ends : 2 ≤ length p
  pub value : IsAbstract m w (second p)
