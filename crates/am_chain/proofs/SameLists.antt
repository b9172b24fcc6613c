-- Strictly increasing lists with the same members are the same.
use Rattle.std.proofs.Common.{ℕ, ◌≡◌, ◌<◌, List, [], ◌∷◌, refl, sym, inl, inr, arith}
use Rattle.std.specs.Prelude.{Contains, ◌↔◌}
use Rattle.std.specs.List.{AllPairs}
use Rattle.std.specs.List.Sorted.{IsStrictlyIncreasing}
use Rattle.std.proofs.lemmas.List.Kept.{AllPairs-from_increasing}
use Rattle.std.proofs.lemmas.List.Elements.{All-contains}
use Rattle.am_lit.proofs.Laws.{AllPairs-head, AllPairs-tail, Contains-nil, Contains-head, Contains-tail}
use Rattle.am_lit.proofs.Laws.{Contains-cons_cases}

abbrev Rises : List ℕ → Type 0
Rises xs = AllPairs (λ x y. x < y) xs

first_same : (x y : ℕ) (xs ys : List ℕ) → Rises (x ∷ xs) → Rises (y ∷ ys) → Contains (y ∷ ys) x → Contains (x ∷ xs) y
    → x ≡ y
first_same x y xs ys rx ry h k = elim (Contains-cons_cases y ys x h) [
  | inl e ↦ sym e
  | inr later ↦ elim (Contains-cons_cases x xs y k) [
    | inl e ↦ e
    | inr also ↦
        let below : y < x = All-contains (λ z. y < z) ys x (AllPairs-head (λ a b. a < b) y ys ry) later in
        let above : x < y = All-contains (λ z. x < z) xs y (AllPairs-head (λ a b. a < b) x xs rx) also in
        absurd (omega arith)
  ]
]

rest_within : (x y : ℕ) (xs ys : List ℕ) → x ≡ y → Rises (x ∷ xs)
    → ((l : ℕ) → Contains (x ∷ xs) l → Contains (y ∷ ys) l) → (l : ℕ) → Contains xs l
    → Contains ys l
rest_within x y xs ys e rx h l k = elim (Contains-cons_cases y ys l (h l (Contains-tail x xs l k))) [
  | inl first ↦
      let above : x < l = All-contains (λ z. x < z) xs l (AllPairs-head (λ a b. a < b) x xs rx) k in
      absurd (omega (arith, e, first))
  | inr rest ↦ rest
]

same : (xs ys : List ℕ) → Rises xs → Rises ys → ((l : ℕ) → Contains xs l → Contains ys l)
    → ((l : ℕ) → Contains ys l → Contains xs l)
    → xs ≡ ys
same [] [] rx ry h k = refl
same [] (y ∷ ys) rx ry h k = absurd (Contains-nil y (k y (Contains-head y ys)))
same (x ∷ xs) [] rx ry h k = absurd (Contains-nil x (h x (Contains-head x xs)))
same (x ∷ xs) (y ∷ ys) rx ry h k =
    let first = first_same x y xs ys rx ry (h x (Contains-head x xs)) (k y (Contains-head y ys)) in
    let rest = same xs ys (AllPairs-tail (λ a b. a < b) x xs rx) (AllPairs-tail (λ a b. a < b) y ys ry)
    (rest_within x y xs ys first rx h) (rest_within y x ys xs (sym first) ry k) in
    cc

-- lists in order with the same members are the same
pub same_lists : (xs ys : List ℕ) → IsStrictlyIncreasing xs → IsStrictlyIncreasing ys
    → ((l : ℕ) → Contains xs l ↔ Contains ys l)
    → xs ≡ ys
same_lists xs ys rx ry h =
    same xs ys (AllPairs-from_increasing xs rx) (AllPairs-from_increasing ys ry) (λ l. (h l).0) (λ l. (h l).1)
