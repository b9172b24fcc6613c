-- Rising places below a number.
use Rattle.std.proofs.Common.{◌≡◌, ℕ, zero, suc, ◌+◌, ◌<◌, ◌≤◌, ◌^◌, List, [], ◌∷◌, ◌++◌, All, length, min, refl, ap}
use Rattle.std.proofs.Common.{◌∙◌, arith}
use Rattle.std.specs.Prelude.{Option, Some, slice_get}
use Rattle.std.specs.List.{AllPairs, cons_option}
use Rattle.std.proofs.lemmas.List.Elements.{All-head, All-tail}
use Rattle.am_syntax.specs.Pieces.{below, good_from}
use Rattle.am_query.specs.Turns.{at_places}
use Rattle.am_cert.specs.Grammar.{place_after, places}

-- each place is below those after it
abbrev pub Rises : List ℕ → Type 0
Rises ns = AllPairs (λ i j. i < j) ns

rises_on : (n : ℕ) (ns : List ℕ) → Rises (n ∷ ns) → Rises ns
rises_on n ns rises i j d less within = rises (suc i) (suc j) d (omega (arith, less)) (omega (arith, within))

next_higher : (n m : ℕ) (ns : List ℕ) → Rises (n ∷ m ∷ ns) → n < m
next_higher n m ns rises = rises 0 1 0 (omega arith) (omega arith)

-- each number is below a count
abbrev pub AreBelow : ℕ → List ℕ → Type 0
AreBelow count ns = All (λ n. n < count) ns

-- ---- how many there are

few_from : (count n : ℕ) (ns : List ℕ) → Rises (n ∷ ns) → AreBelow count (n ∷ ns) → n + 1 + length ns ≤ count
few_from count n [] rises inside = omega (arith, All-head (λ i. i < count) n [] inside)
few_from count n (m ∷ ns) rises inside =
    let rest = few_from count m ns (rises_on n (m ∷ ns) rises) (All-tail (λ i. i < count) n (m ∷ ns) inside) in
    omega (arith, rest, next_higher n m ns rises)

-- no more rising places than there are below the number
pub rising_are_few : (count : ℕ) (ns : List ℕ) → Rises ns → AreBelow count ns → length ns ≤ count
rising_are_few count [] rises inside = omega arith
rising_are_few count (n ∷ ns) rises inside =
    omega (arith, few_from count n ns rises inside)

-- ---- they are good

-- the least place after some places and one more
pub place_after-push : (seen : List ℕ) (i : ℕ) → place_after (seen ++ i ∷ []) ≡ i + 1
place_after-push [] i = refl
place_after-push (j ∷ []) i = refl
place_after-push (j ∷ k ∷ seen) i = place_after-push (k ∷ seen) i

module _ (count : ℕ) (few : count ≤ 2 ^ 32) where
  good_after : (seen : List ℕ) (n : ℕ) (ns : List ℕ) → place_after seen ≤ n → Rises (n ∷ ns) →
      AreBelow count (n ∷ ns) →
      good_from (λ before. below (place_after before) (min count (2 ^ 32))) seen (n ∷ ns)
  unfolding below
  good_after seen n [] least rises inside =
      ((least, omega (arith, All-head (λ i. i < count) n [] inside, few)), tt)
  good_after seen n (m ∷ ns) least rises inside =
      let next : place_after (seen ++ n ∷ []) ≤ m =
      omega (arith, place_after-push seen n, next_higher n m ns rises) in
      let rest = All-tail (λ i. i < count) n (m ∷ ns) inside in (
        (least, omega (arith, All-head (λ i. i < count) n (m ∷ ns) inside, few)),
        good_after (seen ++ n ∷ []) m ns next (rises_on n (m ∷ ns) rises) rest,
      )

  -- rising places below the number are good
  pub rising_are_good : (ns : List ℕ) → Rises ns → AreBelow count ns → (places count).Good ns
  rising_are_good [] rises inside = tt
  rising_are_good (n ∷ ns) rises inside =
      good_after [] n ns (omega arith) rises inside

-- ---- the items at them

found_at : {A : Type 0} (items : List A) (i : ℕ) → i < length items → (x : A) × (slice_get items i ≡ Some x)
found_at [] i within = absurd (omega (arith, within))
found_at (x ∷ items) zero within = (x, refl)
found_at (x ∷ items) (suc i) within = found_at items i (omega (arith, within))

-- where all places are there, as many items as places
pub as_many_at : {A : Type 0} (items : List A) (ns : List ℕ) → AreBelow (length items) ns →
    length (at_places items ns) ≡ length ns
as_many_at items [] inside = refl
as_many_at {A = A} items (n ∷ ns) inside =
    let found = found_at items n (All-head (λ i. i < length items) n ns inside) in
    let rest = as_many_at items ns (All-tail (λ i. i < length items) n ns inside) in
    ap (λ (o : Option A). length (cons_option o (at_places items ns))) found.1 ∙ ap suc rest
