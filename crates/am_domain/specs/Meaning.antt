-- What an abstract domain means: its tuples of words, its abstract values, and their members.
use Rattle.std.specs.Prelude.{ℕ, List}
use Rattle.am_domain.specs.Tuple.{IsTuple}

-- at each width, which tuples of words are abstract values
abbrev pub Validity : Type 1
Validity = ℕ → List ℕ → Type 0

-- at each width, which words are members of a tuple
abbrev pub Membership : Type 1
Membership = ℕ → List ℕ → ℕ → Type 0

-- A domain: how many words its tuples have, which of them are abstract values, and which words are members.
pub record Meaning : Type 1 where
  pub fields : ℕ
  pub Valid : Validity
  pub Member : Membership

-- a tuple of words that is an abstract value
pub record IsAbstract (m : Meaning) (w : ℕ) (a : List ℕ) : Type 0 where
  pub tuple : IsTuple w m.fields a
  pub valid : m.Valid w a
