-- Rows of true literals by a truth for each code.
use Rattle.std.proofs.Common.{ℕ, ◌≡◌, ◌+◌, ◌<◌, Bool, true, false, eqb, List, ◌∷◌, All, length, get_or, set, drop}
use Rattle.std.proofs.Common.{refl, sym, ◌∙◌, inl, inr, get_or-set_same, get_or-set_other}
use Rattle.std.specs.Prelude.{Contains}
use Rattle.std.proofs.lemmas.Bool.{both_ways, cases_lt, eq-eqb, eqb-true}
use Rattle.std.proofs.lemmas.List.{drop_more, get_or_past}
use Rattle.std.proofs.lemmas.List.Folds.{Any-from_list_any, list_any_at}
use Rattle.am_lit.proofs.Laws.{Contains-cons_cases, same_or}
use Rattle.am_hint.specs.Hints.{is_hinted_in}
use Rattle.am_hint.specs.inside.Rows.{truth_at}

-- a literal that the test finds is a member
pub Contains-is_in : (xs : List ℕ) (l : ℕ) → is_hinted_in xs l ≡ true → Contains xs l
Contains-is_in xs l h =
    let some = Any-from_list_any (λ m. eqb m l) xs h in
    let same : some.1 ≡ l = eqb-true some.1 l some.4 in
    let there : Contains xs some.1 = (some.0, some.2, some.3) in
    rw same at there

-- the test finds each member
pub is_in-Contains : (xs : List ℕ) (l : ℕ) → Contains xs l → is_hinted_in xs l ≡ true
is_in-Contains xs l h = list_any_at (λ m. eqb m l) xs h.0 l h.1 (rw h.2 (eq-eqb l l refl))

-- where each truth says whether the literal is in the row, the row's literals stand within the truths
pub row_within : (truths : List Bool) (row : List ℕ) → ((l : ℕ) → truth_at truths l ≡ is_hinted_in row l)
    → All (λ l. l < length truths) row
row_within truths row all = λ k d lt.
    let l = get_or row k d in
    let there : truth_at truths l ≡ true = all l ∙ list_any_at (λ m. eqb m l) row k d lt (eq-eqb l l refl) in
    elim (cases_lt l (length truths)) [
      | inl within ↦ within
      | inr past ↦ absurd (both_ways (truth_at truths l) (get_or_past truths l false past) there)
    ]

-- with one literal more taken back, what is true is one of the literals after it
pub unset_more : (truths : List Bool) (row : List ℕ) (i l : ℕ) → i < length row → get_or row i 0 ≡ l → l < length truths
    → ((m : ℕ) → truth_at truths m ≡ true → is_hinted_in (drop i row) m ≡ true)
    → (m : ℕ) → truth_at (set truths l false) m ≡ true → is_hinted_in (drop (i + 1) row) m ≡ true
unset_more truths row i l lt here within left m t = elim (same_or m l) [
  | inl e ↦
      let taken : truth_at (set truths l false) m ≡ false = rw (e, get_or-set_same truths l false false within) refl in
      absurd (both_ways (truth_at (set truths l false) m) taken t)
  | inr other ↦
      let before : truth_at truths m ≡ true = rw get_or-set_other at t in
      let there : is_hinted_in (get_or row i 0 ∷ drop (i + 1) row) m ≡ true = rw (drop_more row i 0 lt) at
      (left m before) in
      let member = Contains-is_in (get_or row i 0 ∷ drop (i + 1) row) m there in
      elim (Contains-cons_cases (get_or row i 0) (drop (i + 1) row) m member) [
        | inl e ↦ absurd (other (sym e ∙ here))
        | inr later ↦ is_in-Contains (drop (i + 1) row) m later
      ]
]
