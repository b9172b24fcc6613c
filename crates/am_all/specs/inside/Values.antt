-- The members of tuples of words, and the abstract values.
use Rattle.std.specs.Prelude.{◌≡◌, ℕ, ◌*◌, ◌^◌, ◌<◌, ◌↔◌, List, All, Contains, length, map, slice_index_or}
use Rattle.am_domain.specs.Meaning.{IsAbstract}
use Rattle.am_problem.specs.Kinds.{fields_of, meaning_of}
use Rattle.am_problem.specs.Problem.{Problem}
use Rattle.am_all.specs.declared.values.Value.{Value}
use Rattle.am_all.specs.declared.word_set.WordSet.{WordSet}
use Rattle.am_all.specs.inside.Numbers.{words_at}
use Rattle.am_all.specs.inside.Sets.{Has}

-- the set has those words that are members of the tuple
abbrev pub IsMemberSet : Problem → List ℕ → WordSet → Type 0
IsMemberSet p a set = (c : ℕ) → Has set c ↔ ((c < 2 ^ p.width) × (meaning_of p.kind).Member p.width a c)

-- the sets of the members of all tuples, by their numbers
pub record AreAllMembers (p : Problem) (sets : List WordSet) : Type 0 where
  pub counted : length sets ≡ 2 ^ (p.width * fields_of p.kind)
  pub each : (n : ℕ) (d : WordSet) → n < length sets →
      IsMemberSet p (words_at p.width (fields_of p.kind) n) (slice_index_or sets n d)

-- an abstract value with its members
pub record IsAbstractValue (p : Problem) (v : Value) : Type 0 where
  pub value : IsAbstract (meaning_of p.kind) p.width v.fields
  pub members : IsMemberSet p v.fields v.members

-- all abstract values
pub record AreAllValues (p : Problem) (values : List Value) : Type 0 where
  pub each : All (IsAbstractValue p) values
  pub all : (a : List ℕ) → IsAbstract (meaning_of p.kind) p.width a → Contains (map (λ v. v.fields) values) a
