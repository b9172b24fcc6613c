-- An abstract domain as one record.
use Rattle.std.specs.Prelude.{ℕ, List}
use Rattle.std.specs.declared.option.Option.{Option}
use Rattle.am_bv.specs.declared.term.Term.{Term}
use Rattle.am_domain.specs.Meaning.{Meaning}

-- What a domain means, and what its operations answer at each width. The terms are over the fields of a tuple; the one
-- for membership has a word after them.
pub record Abstraction : Type 1 where
  pub meaning : Meaning
  pub top : ℕ → List ℕ
  pub of_word : ℕ → ℕ → List ℕ
  pub some_member : ℕ → List ℕ → ℕ
  pub join : ℕ → List ℕ → List ℕ → List ℕ
  pub tidy : ℕ → List ℕ → Option (List ℕ)
  pub rank : ℕ → List ℕ → ℕ
  pub valid_term : ℕ → Term
  pub member_term : ℕ → Term
