-- Rows of terms, words and places are spelled as they are read, and read as they are spelled.
use Rattle.std.proofs.Common.{◌≡◌, ℕ, ◌-◌, ◌*◌, ◌^◌, ◌<◌, ◌≤◌, true, false, min, List, ◌++◌, length, arith, refl}
use Rattle.std.proofs.Math.Nat.{min-le_right, mul-le-mul_left}
use Rattle.std.proofs.lemmas.Nat.{pow_pos}
use Rattle.am_syntax.specs.Exact.{IsExact, always}
use Rattle.am_syntax.specs.Pieces.{Piece, below, is_number_next}
use Rattle.am_syntax.specs.Readers.{Words}
use Rattle.am_syntax.specs.Spelling.{IsScope, scope_of}
use Rattle.am_syntax.proofs.Laws.{below_law, decimal-is_digits, narrow, number_law, repeat_law, term_law, times_law}
use Rattle.am_cert.specs.Grammar.{ProblemShape, place_after, places, result_term, term_limits}
use Rattle.am_cert.specs.Grammar.{terms, word, words}
use Rattle.am_cert.specs.inside.Shapes.{IsProblemShape}

-- ---- pieces that may be followed by less

-- a piece that is exact where more may follow
pub narrow_law : {X : Type 0} {p : Piece X} {May Only : Words → Type 0} → IsExact p May →
    ((rest : Words) → Only rest → May rest) → IsExact p Only
narrow_law law only = record {
  takes = law.takes;
  again = λ s x t good taken may. law.again s x t good taken (only _ may);
  advances = law.advances;
  no_further = law.no_further;
}

-- no row of digits comes
abbrev pub EndsNumbers : Words → Type 0
EndsNumbers rest = is_number_next rest ≡ false

-- ---- terms and words

pub term_scope : (s : ProblemShape) → IsProblemShape s → IsScope (scope_of s.width (term_limits s))
term_scope s is =
    let most : s.inputs * s.fields ≤ s.inputs * 4 = mul-le-mul_left s.inputs is.fields in
    record { width = is.width; variables = omega (arith, most, is.inputs) }

-- a term over the fields is read as it is spelled, and spelled as it is read
pub result_term_law : (s : ProblemShape) → IsProblemShape s → IsExact (result_term s) always
result_term_law s is = term_law s.width (term_limits s) (term_scope s is)

-- so is a term for each field
pub terms_law : (s : ProblemShape) → IsProblemShape s → IsExact (terms s) always
terms_law s is = times_law (λ seen. result_term_law s is) (λ _ _ _ _. tt) s.fields

-- a word is a small number
pub small_word : (w : ℕ) → w ≤ 8 → 2 ^ w - 1 < 2 ^ 64
small_word w h = narrow w (2 ^ w - 1) h (omega (arith, pow_pos w))

-- so is a word
pub word_law : (s : ProblemShape) → IsProblemShape s → IsExact (word s) always
word_law s is = number_law 0 (2 ^ s.width - 1) (small_word s.width is.width)

-- so are words
pub words_law : (s : ProblemShape) → IsProblemShape s → (count : ℕ) → IsExact (words s count) always
words_law s is count = times_law (λ seen. word_law s is) (λ _ _ _ _. tt) count

-- ---- places

module _ (most : ℕ) (few : most ≤ 2 ^ 32) where
  -- a place after others is read as it is spelled, and spelled as it is read
  pub each_place_law : (seen : List ℕ) → IsExact (below (place_after seen) most) always
  each_place_law seen = below_law (place_after seen) most (omega (arith, few))

  -- a place takes a word at least
  pub place_moves : (seen : List ℕ) (n : ℕ) → (below (place_after seen) most).Good n →
      0 < length ((below (place_after seen) most).spell n)
  unfolding below
  place_moves seen n good = omega arith

  place_begins : (seen : List ℕ) (n : ℕ) (rest : Words) → (below (place_after seen) most).Good n →
      is_number_next ((below (place_after seen) most).spell n ++ rest) ≡ true
  unfolding below
  place_begins seen n rest good = decimal-is_digits n (omega (arith, few, good.1))

-- rising places are read as they are spelled, and spelled as they are read
pub places_law : (count : ℕ) → IsExact (places count) EndsNumbers
places_law count =
    let most = min count (2 ^ 32) in
    let few = min-le_right count (2 ^ 32) in
    repeat_law (each_place_law most few) is_number_next (place_moves most few) (λ _ _ _. refl)
    (λ rest h. (h, tt))
    (place_begins most few)
    (λ _ _ _ _. tt)
