-- The words of a tuple's results.
use Rattle.std.proofs.Common.{◌≡◌, ℕ, ◌^◌, ◌<◌, List, length, map, get_or, sym, ap, ◌∙◌}
use Rattle.std.specs.Prelude.{All, Some, slice_get, slice_index}
use Rattle.std.proofs.lemmas.List.{get_or-map}
use Rattle.std.proofs.lemmas.List.Elements.{All-map, All-weaker}
use Rattle.std.proofs.lemmas.Option.{get_or_from_slice_get}
use Rattle.am_bv.specs.Words.{AreWords}
use Rattle.am_all.proofs.InputLaws.{each-word}

-- the words at a place of rows of words
pub words-at : {X : Type 0} (values : X → List ℕ) (w i : ℕ) (tuple : List X) →
    All (λ c. AreWords w (values c)) tuple → AreWords w (map (λ c. slice_index (values c) i) tuple)
words-at values w i tuple h =
    each-word w (map (λ c. slice_index (values c) i) tuple)
    (All-map (λ c. c < 2 ^ w) (λ c. slice_index (values c) i) tuple
    (All-weaker (λ c. AreWords w (values c)) (λ c. slice_index (values c) i < 2 ^ w) (λ c are. are i) tuple h))

-- the word of one of the rows
pub word-at : {X : Type 0} (values : X → List ℕ) (i j : ℕ) (tuple : List X) (c : X) (v : ℕ) → j < length tuple →
    c ≡ get_or tuple j c → slice_get (values c) i ≡ Some v →
    get_or (map (λ c. slice_index (values c) i) tuple) j 0 ≡ v
word-at values i j tuple c v l is here =
    get_or-map (λ c. slice_index (values c) i) tuple j c 0 l ∙ ap (λ c. slice_index (values c) i) (sym is)
    ∙ get_or_from_slice_get (values c) i v 0 here
