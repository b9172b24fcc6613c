-- The laws of an abstract domain, over words of every width.
use Rattle.std.specs.Prelude.{◌≢◌, ℕ, ◌+◌, ◌*◌, ◌^◌, ◌<◌, ◌≤◌, ◌↔◌, Bool, not, ◌==◌, List, [], ◌∷◌, ◌++◌, IsTrue}
use Rattle.std.specs.Prelude.{MatchOption, take, slice_index}
use Rattle.am_bv.specs.Words.{IsWidth}
use Rattle.am_bv.specs.Terms.{val, fits, nodes}
use Rattle.am_bv.specs.declared.term.Term.{Term}
use Rattle.am_domain.specs.Abstraction.{Abstraction}
use Rattle.am_domain.specs.Meaning.{Meaning, IsAbstract}
use Rattle.am_domain.specs.Tuple.{IsTuple}

-- each abstract value has a member
abbrev pub HasMembers : Abstraction → Type 0
HasMembers d =
    (w : ℕ) → IsWidth w → (a : List ℕ) → IsAbstract d.meaning w a →
    (d.some_member w a < 2 ^ w) × d.meaning.Member w a (d.some_member w a)

-- the greatest value has all words
abbrev pub HasTop : Abstraction → Type 0
HasTop d =
    (w : ℕ) → IsWidth w → IsAbstract d.meaning w (d.top w) × ((c : ℕ) → c < 2 ^ w → d.meaning.Member w (d.top w) c)

-- a word's value has the word
abbrev pub HoldsWords : Abstraction → Type 0
HoldsWords d =
    (w : ℕ) → IsWidth w → (c : ℕ) → c < 2 ^ w →
    IsAbstract d.meaning w (d.of_word w c) × d.meaning.Member w (d.of_word w c) c

-- a value that has the members of both
pub record IsJoin (m : Meaning) (w : ℕ) (a b joined : List ℕ) : Type 0 where
  pub value : IsAbstract m w joined
  pub first : (c : ℕ) → c < 2 ^ w → m.Member w a c → m.Member w joined c
  pub second : (c : ℕ) → c < 2 ^ w → m.Member w b c → m.Member w joined c

-- the join of two values has the members of both
abbrev pub JoinsAbove : Abstraction → Type 0
JoinsAbove d =
    (w : ℕ) → IsWidth w → (a b : List ℕ) → IsAbstract d.meaning w a → IsAbstract d.meaning w b →
    IsJoin d.meaning w a b (d.join w a b)

-- the rank is bounded, and a join that changes a value has a smaller one
pub record Descends (d : Abstraction) : Type 0 where
  pub most : (w : ℕ) → IsWidth w → (a : List ℕ) → IsAbstract d.meaning w a → d.rank w a ≤ d.meaning.fields * 2 ^ w
  pub falls : (w : ℕ) → IsWidth w → (a b : List ℕ) → IsAbstract d.meaning w a → IsAbstract d.meaning w b →
      d.join w a b ≢ a → d.rank w (d.join w a b) < d.rank w a

-- what a raw tuple is tidied to: a value with all its members, or nothing where it has none
abbrev pub Tidies : Abstraction → Type 0
Tidies d =
    (w : ℕ) → IsWidth w → (raw : List ℕ) → IsTuple w d.meaning.fields raw →
    MatchOption (d.tidy w raw) ((c : ℕ) → c < 2 ^ w → ¬ d.meaning.Member w raw c)
    (λ a. IsAbstract d.meaning w a × ((c : ℕ) → c < 2 ^ w → d.meaning.Member w raw c → d.meaning.Member w a c))

-- The indicator of a fact about rows of so many words: a term that fits such rows and isn't 0 exactly where the fact
-- holds. A domain with so many fields bounds its nodes.
pub record IsIndicator (w fields row : ℕ) (t : Term) (Holds : List ℕ → Type 0) : Type 0 where
  pub fit : IsTrue (fits w row t)
  pub small : nodes t ≤ 16 ^ fields
  pub tells : (env : List ℕ) → IsTuple w row env → (val w t env ≢ 0) ↔ Holds env

-- the term for validity, over the fields
abbrev pub TellsValidity : Abstraction → Type 0
TellsValidity d =
    (w : ℕ) → IsWidth w →
    IsIndicator w d.meaning.fields d.meaning.fields (d.valid_term w) (d.meaning.Valid w)

-- the term for membership, over the fields and then the word
abbrev pub TellsMembership : Abstraction → Type 0
TellsMembership d =
    (w : ℕ) → IsWidth w →
    IsIndicator w d.meaning.fields (d.meaning.fields + 1) (d.member_term w)
    (λ env. d.meaning.Member w (take d.meaning.fields env) (slice_index env d.meaning.fields))

-- all laws of an abstract domain
pub record KeepsLaws (d : Abstraction) : Type 0 where
  pub has_fields : 1 ≤ d.meaning.fields
  pub few_fields : d.meaning.fields ≤ 4
  pub has_members : HasMembers d
  pub has_top : HasTop d
  pub holds_words : HoldsWords d
  pub joins_above : JoinsAbove d
  pub descends : Descends d
  pub tidies : Tidies d
  pub tells_validity : TellsValidity d
  pub tells_membership : TellsMembership d

-- whether a word is a member of a tuple, as the term for membership tells it
abbrev pub is_member : ℕ → Term → List ℕ → ℕ → Bool
is_member w member_term a c = not (val w member_term (a ++ c ∷ []) == 0)
