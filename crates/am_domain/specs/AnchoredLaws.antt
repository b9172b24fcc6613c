-- The laws of a domain whose values have a first and a last word, which the words between lead to one after another.
use Rattle.std.specs.Prelude.{◌≡◌, ℕ, ◌^◌, ◌<◌, ◌≤◌, ◌⊎◌, ◌↔◌, List, [], ◌∷◌, slice_index, Contains}
use Rattle.am_bv.specs.Words.{IsWidth}
use Rattle.am_domain.specs.Abstraction.{Abstraction}
use Rattle.am_domain.specs.Meaning.{Meaning, IsAbstract}
use Rattle.am_domain.specs.Walk.{point, steps, walk}

-- field 0 is a member
abbrev pub HasStart : Abstraction → Type 0
HasStart d =
    (w : ℕ) → IsWidth w → (a : List ℕ) → IsAbstract d.meaning w a → d.meaning.Member w a (slice_index a 0)

-- the value of a word has it as both fields
abbrev pub HasPoints : Abstraction → Type 0
HasPoints d = (w c : ℕ) → c < 2 ^ w → d.of_word w c ≡ point c

-- a join starts where one of its arguments does
abbrev pub KeepsStart : Abstraction → Type 0
KeepsStart d =
    (w : ℕ) → IsWidth w → (a b : List ℕ) → IsAbstract d.meaning w a → IsAbstract d.meaning w b →
    (slice_index (d.join w a b) 0 ≡ slice_index a 0) ⊎ (slice_index (d.join w a b) 0 ≡ slice_index b 0)

-- the members of a value are the words of its walk
abbrev pub WalksMembers : Abstraction → Type 0
WalksMembers d =
    (w : ℕ) → IsWidth w → (a : List ℕ) → IsAbstract d.meaning w a →
    (c : ℕ) → c < 2 ^ w → d.meaning.Member w a c ↔ Contains (walk w a) c

-- two words are the fields of a value, and its members are those words of a walk, from this start on, that stand
-- between the two
pub record IsPart (m : Meaning) (w start c e : ℕ) : Type 0 where
  pub valid : m.Valid w (c ∷ e ∷ [])
  pub members : (x : ℕ) → x < 2 ^ w →
      m.Member w (c ∷ e ∷ []) x ↔ ((steps w start c ≤ steps w start x) × (steps w start x ≤ steps w start e))

-- two members of a value in the order of its walk are the fields of a value that has the part between them
abbrev pub HasParts : Abstraction → Type 0
HasParts d =
    (w : ℕ) → IsWidth w → (a : List ℕ) → IsAbstract d.meaning w a →
    (c e : ℕ) → c < 2 ^ w → e < 2 ^ w → d.meaning.Member w a c → d.meaning.Member w a e →
    steps w (slice_index a 0) c ≤ steps w (slice_index a 0) e → IsPart d.meaning w (slice_index a 0) c e

-- all laws of a domain whose values are walks from field 0 to field 1
pub record IsAnchored (d : Abstraction) : Type 0 where
  pub has_two_fields : d.meaning.fields ≡ 2
  pub has_start : HasStart d
  pub has_points : HasPoints d
  pub keeps_start : KeepsStart d
  pub walks_members : WalksMembers d
  pub has_parts : HasParts d
