-- The common words of two parts, and the join of their values.
use Rattle.std.proofs.Common.{◌≡◌, ℕ, zero, suc, ◌^◌, ◌<◌, ◌≤◌, Bool, true, false, cond, List, [], ◌∷◌, length, get_or}
use Rattle.std.proofs.Common.{refl, sym, ap, ◌∙◌, arith, IsTrue, ◌↔◌}
use Rattle.std.specs.Prelude.{All, AllPairs, Contains, filter, fold}
use Rattle.std.proofs.lemmas.List.Elements.{All-cons, All-contains, All-filter, All-contains_itself, filter_passes}
use Rattle.am_bv.specs.Words.{IsWidth}
use Rattle.am_domain.specs.Abstraction.{Abstraction}
use Rattle.am_domain.specs.Meaning.{Meaning, IsAbstract}
use Rattle.am_domain.specs.Walk.{walk}
use Rattle.am_domain.specs.Laws.{KeepsLaws, is_member}
use Rattle.am_domain.specs.AnchoredLaws.{IsAnchored}
use Rattle.am_domain.proofs.Laws.{is_member-tells}
use Rattle.am_pair.specs.Pairs.{common, last_of, join_of_words}
use Rattle.am_pair.specs.Theorems.{CommonAreMembersOfBoth}

-- what passes a filter
Contains-filter : (p : ℕ → Bool) (xs : List ℕ) (c : ℕ) → Contains xs c → p c ≡ true → Contains (filter p xs) c
Contains-filter p [] c found passes = absurd (omega (arith, found.1))
Contains-filter p (x ∷ xs) c found passes =
    at (λ k below e. Contains-filter p xs c (k, below, e) passes) (p x) refl found.0 found.1 found.2
  where
    at : (later : (k : ℕ) → k < length xs → get_or xs k c ≡ c → Contains (filter p xs) c) (t : Bool) → p x ≡ t →
        (k : ℕ) → k < length (x ∷ xs) → get_or (x ∷ xs) k c ≡ c →
        Contains (cond t (x ∷ filter p xs) (filter p xs)) c
    at later true e zero below is = (zero, omega arith, is)
    at later true e (suc k) below is =
        let rest = later k (omega arith) is in (suc rest.0, omega (arith, rest.1), rest.2)
    at later false e zero below is = let no : true ≡ false = sym passes ∙ ap p (sym is) ∙ e in cc
    at later false e (suc k) below is = later k (omega arith) is

-- The last of words that a measure grows along.
module _ (f : ℕ → ℕ) where
  abbrev Grows : List ℕ → Type 0
  Grows = AllPairs (λ c d. f c < f d)

  -- the measure of the last is the greatest
  pub last-most : (c : ℕ) (words : List ℕ) → Grows (c ∷ words) → All (λ d. f d ≤ f (last_of c words)) (c ∷ words)
  last-most c [] grows = All-cons (λ d. f d ≤ f c) c [] (omega arith) (λ i d below. absurd (omega arith))
  last-most c (d ∷ words) grows =
      let rest = last-most d words (λ i j e order below. grows (suc i) (suc j) e (omega arith) (omega arith)) in
      let next : f c < f d = grows 0 1 0 (omega arith) (omega arith) in
      let at : f d ≤ f (last_of d words) = rest 0 0 (omega arith) in
      All-cons (λ e. f e ≤ f (last_of d words)) c (d ∷ words) (omega (arith, next, at)) rest

  -- and that of the first is the least
  pub first-least : (c : ℕ) (words : List ℕ) → Grows (c ∷ words) → All (λ d. f c ≤ f d) (c ∷ words)
  first-least c words grows zero d below = omega arith
  first-least c words grows (suc i) d below =
      let more : f c < f (get_or words i d) = grows 0 (suc i) d (omega arith) below in omega (arith, more)

-- the last of some words is one of them
pub last-contains : (c : ℕ) (words : List ℕ) → Contains (c ∷ words) (last_of c words)
last-contains c [] = (zero, omega arith, refl)
last-contains c (d ∷ words) = let rest = last-contains d words in (suc rest.0, omega (arith, rest.1), rest.2)

-- a value of which all these words are members
pub record HasMemberWords (m : Meaning) (w : ℕ) (v : List ℕ) (words : List ℕ) : Type 0 where
  pub value : IsAbstract m w v
  pub all : All (λ d. m.Member w v d) words

-- The join of the values of words.
module _ {b : Abstraction} (laws : KeepsLaws b) (w : ℕ) (width : IsWidth w) where
  -- joining further words to a value keeps its members and adds the words
  joined : (v : List ℕ) (words : List ℕ) → IsAbstract b.meaning w v → All (λ d. d < 2 ^ w) words →
      let all = fold (λ v d. b.join w v (b.of_word w d)) v words in
      HasMemberWords b.meaning w all words × ((e : ℕ) → e < 2 ^ w → b.meaning.Member w v e → b.meaning.Member w all e)
  joined v [] hv below = (record { value = hv; all = λ i d h. absurd (omega arith) }, λ e h m. m)
  joined v (d ∷ words) hv below =
      let word = laws.holds_words w width d (below 0 d (omega arith)) in
      let step = laws.joins_above w width v (b.of_word w d) hv word.0 in
      let rest = joined (b.join w v (b.of_word w d)) words step.value (λ i e h. below (suc i) e (omega arith)) in
      let all = fold (λ v d. b.join w v (b.of_word w d)) (b.join w v (b.of_word w d)) words in (
        record {
          value = rest.0.value;
          all = All-cons (λ e. b.meaning.Member w all e) d words
              (rest.1 d (below 0 d (omega arith)) (step.second d (below 0 d (omega arith)) word.1)) rest.0.all;
        },
        λ e h m. rest.1 e h (step.first e h m),
      )

  -- the join of the values of words has the words
  pub join-has : (c : ℕ) (words : List ℕ) → All (λ d. d < 2 ^ w) (c ∷ words) →
      HasMemberWords b.meaning w (join_of_words b w c words) (c ∷ words)
  join-has c words below =
      let word = laws.holds_words w width c (below 0 c (omega arith)) in
      let rest = joined (b.of_word w c) words word.0 (λ i e h. below (suc i) e (omega arith)) in
      record {
        value = rest.0.value;
        all =
            All-cons (λ e. b.meaning.Member w (join_of_words b w c words) e) c words
            (rest.1 c (below 0 c (omega arith)) word.1) rest.0.all;
      }

-- the common words of two values are the members of both
pub common-members : {a b : Abstraction} → IsAnchored a → KeepsLaws b → CommonAreMembersOfBoth a b
common-members {a} {b} walks laws w width x y hx hy c below = (
  λ found. (
    (walks.walks_members w width x hx c below).1 (All-contains (Contains (walk w x)) (common b w x y) c
        (All-filter test (Contains (walk w x)) (walk w x) (All-contains_itself (walk w x))) found),
    tells.0 (All-contains (λ d. test d ≡ true) (common b w x y) c (filter_passes test (walk w x)) found),
  ),
  λ both. Contains-filter test (walk w x) c ((walks.walks_members w width x hx c below).0 both.0) (tells.1 both.1),
)
  where
    test : ℕ → Bool
    test = is_member w (b.member_term w) y

    tells : IsTrue (is_member w (b.member_term w) y c) ↔ b.meaning.Member w y c
    tells = is_member-tells b laws.tells_membership w width y hy.tuple c below
