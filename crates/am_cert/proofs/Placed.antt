-- Places that rise: how many they are, and what stands there.
use Rattle.std.proofs.Common.{◌≡◌, ℕ, suc, ◌+◌, ◌^◌, ◌<◌, ◌≤◌, List, [], ◌∷◌, ◌++◌, get_or, length, min, refl, arith}
use Rattle.std.specs.Prelude.{Option, None, Some, slice_get}
use Rattle.std.specs.List.{cons_option}
use Rattle.std.proofs.lemmas.Option.{slice_get-get_or}
use Rattle.am_syntax.specs.Pieces.{below, good_from}
use Rattle.am_query.specs.Turns.{at_places}
use Rattle.am_cert.specs.Grammar.{place_after}

-- the least place after some places and a further one
place_after-push : (places : List ℕ) (i : ℕ) → place_after (places ++ i ∷ []) ≡ i + 1
place_after-push [] i = refl
place_after-push (j ∷ []) i = refl
place_after-push (j ∷ k ∷ places) i = place_after-push (k ∷ places) i

-- rising places of so many, after those that were seen
abbrev pub AreRisingFrom : ℕ → List ℕ → List ℕ → Type 0
AreRisingFrom count seen places = good_from (λ seen. below (place_after seen) (min count (2 ^ 32))) seen places

-- they are no more than there are places
pub few_places : (count : ℕ) (seen places : List ℕ) → place_after seen ≤ count → AreRisingFrom count seen places →
    place_after seen + length places ≤ count
unfolding below
few_places count seen [] most rise = omega (arith, most)
few_places count seen (i ∷ places) most rise =
    let next : place_after (seen ++ i ∷ []) ≡ i + 1 = place_after-push seen i in
    let least : place_after seen ≤ i = rise.0.0 in
    let inside : i < min count (2 ^ 32) = rise.0.1 in
    let still : place_after (seen ++ i ∷ []) ≤ count = omega (arith, next, inside) in
    let rest : place_after (seen ++ i ∷ []) + length places ≤ count =
    few_places count (seen ++ i ∷ []) places still rise.1 in
    omega (arith, next, least, rest)

module _ {A : Type 0} (items : List A) where
  one_found : (o : Option A) (rest : List A) (x : A) → o ≡ Some x → length (cons_option o rest) ≡ suc (length rest)
  one_found None rest x is = cc
  one_found (Some y) rest x is = refl

  at_place : (i : ℕ) → i < min (length items) (2 ^ 32) → (x : A) × (slice_get items i ≡ Some x)
  at_place i inside = go items i (omega (arith, inside))
    where
      go : (xs : List A) (i : ℕ) → i < length xs → (x : A) × (slice_get xs i ≡ Some x)
      go [] i inside = absurd (omega (arith, inside))
      go (x ∷ xs) i inside = (get_or (x ∷ xs) i x, slice_get-get_or (x ∷ xs) i x inside)

  -- each of them has an item
  pub length-placed : (seen places : List ℕ) → AreRisingFrom (length items) seen places →
      length (at_places items places) ≡ length places
  unfolding below
  length-placed seen [] rise = refl
  length-placed seen (i ∷ places) rise =
      let here = at_place i rise.0.1 in
      let found = one_found (slice_get items i) (at_places items places) here.0 here.1 in
      omega (arith, found, length-placed (seen ++ i ∷ []) places rise.1)
