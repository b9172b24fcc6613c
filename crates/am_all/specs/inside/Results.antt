-- The results of tuples of trees at cases, as numbers of tuples of words, and how they compare.
use Rattle.std.specs.Prelude.{◌≡◌, ℕ, ◌<◌, List, [], length, map, slice_index, slice_index_or}
use Rattle.am_all.specs.declared.candidates.Candidate.{Candidate}
use Rattle.am_all.specs.declared.cases.Case.{Case}
use Rattle.am_all.specs.declared.word_set.WordSet.{WordSet}
use Rattle.am_all.specs.inside.Numbers.{tuple_number}
use Rattle.am_all.specs.inside.Sets.{Has}

-- the numbers of the values at each of so many places
pub record AreResultNumbers (w : ℕ) (tuple : List Candidate) (count : ℕ) (numbers : List ℕ) : Type 0 where
  pub counted : length numbers ≡ count
  pub each : (i : ℕ) → i < count → slice_index numbers i ≡ tuple_number w (map (λ c. slice_index c.values i) tuple)

-- the set of a number
abbrev pub set_at : List WordSet → ℕ → WordSet
set_at sets n = slice_index_or sets n (record { parts = [] })

-- each word of the one set is in the other
abbrev pub IsSubset : WordSet → WordSet → Type 0
IsSubset a b = (c : ℕ) → Has a c → Has b c

-- some word of the one set isn't in the other
pub record IsMore (a b : WordSet) : Type 0 where
  pub word : ℕ
  pub here : Has a word
  pub missing : ¬ Has b word

-- the set of the result has all images, at each case
abbrev pub IsCovering : List Case → List WordSet → List ℕ → Type 0
IsCovering cases sets numbers =
    (i : ℕ) (d : Case) → i < length cases →
    IsSubset (slice_index_or cases i d).images (set_at sets (slice_index numbers i))

-- the set of the result lacks an image, at some case
abbrev pub IsMissing : List Case → List WordSet → List ℕ → Type 0
IsMissing cases sets numbers =
    (i : ℕ) × (i < length cases) ×
    ((d : Case) → IsMore (slice_index_or cases i d).images (set_at sets (slice_index numbers i)))

-- the sets of the one's results are subsets of the other's, at each case
abbrev pub IsResultInside : List WordSet → List ℕ → List ℕ → Type 0
IsResultInside sets inner outer =
    (i : ℕ) → i < length inner → IsSubset (set_at sets (slice_index inner i)) (set_at sets (slice_index outer i))

-- at some case one isn't
abbrev pub IsBeyond : List WordSet → List ℕ → List ℕ → Type 0
IsBeyond sets one other =
    (i : ℕ) × (i < length one) × IsMore (set_at sets (slice_index one i)) (set_at sets (slice_index other i))
