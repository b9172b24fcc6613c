-- The terms for pairs tell validity and membership.
use Rattle.std.proofs.Common.{◌≡◌, ◌≢◌, ℕ, zero, suc, ◌+◌, ◌^◌, ◌<◌, ◌≤◌, ◌↔◌, true, not, if◌then◌else◌, ◌==◌, IsTrue}
use Rattle.std.proofs.Common.{nat_lt, List, [], ◌∷◌, ◌++◌, length, map, take, drop, slice_index, inl, inr, refl, sym}
use Rattle.std.proofs.Common.{ap, ◌∙◌, subst, arith}
use Rattle.std.specs.Prelude.{All}
use Rattle.std.specs.List.{range_with_len}
use Rattle.std.proofs.Math.Nat.{pow-le-pow_right}
use Rattle.std.proofs.Math.Seq.{drop-cons}
use Rattle.std.proofs.lemmas.Nat.{pow-add, pow_pos}
use Rattle.std.proofs.lemmas.Bool.{lt-ltb, cases_lt}
use Rattle.std.proofs.lemmas.Bool.Decides.{nat_tests}
use Rattle.std.proofs.lemmas.List.{length-append, map-append, take_all, length-take-le, get_or-take, get_or_past}
use Rattle.std.proofs.lemmas.List.Elements.{All-append, All-cons}
use Rattle.std.proofs.lemmas.List.FromFn.{length-range_with_len, get_or-range_with_len}
use Rattle.am_bv.specs.Words.{IsWidth}
use Rattle.am_bv.specs.Terms.{val, fits, nodes}
use Rattle.am_bv.specs.declared.term.Term.{Term}
use Rattle.am_bv.proofs.Laws.{val-Const, val-ternary, val-same, val-rename, fits-Const, fits-Node, fits-more}
use Rattle.am_bv.proofs.Laws.{fits-rename, nodes-Const, nodes-Node, nodes-rename}
use Rattle.am_domain.specs.Tuple.{IsTuple}
use Rattle.am_domain.specs.Abstraction.{Abstraction}
use Rattle.am_domain.specs.Laws.{IsIndicator, KeepsLaws}
use Rattle.am_domain.proofs.Laws.{pair-IsTuple, is_member-tells}
use Rattle.am_pair.specs.Pairs.{meaning_product, second_fields, pair_valid_term, pair_member_term}
use Rattle.am_pair.specs.lemmas.Parts.{ArePaired, by_more_than_two, as_first}

-- the words at consecutive places
map-range : (xs : List ℕ) (i n : ℕ) → i + n ≤ length xs → map (slice_index xs) (range_with_len i n) ≡ take n (drop i xs)
map-range xs i zero most = refl
map-range xs i (suc n) most =
    let here : drop i xs ≡ slice_index xs i ∷ drop (i + 1) xs = let next : suc i ≡ i + 1 = omega arith in
    drop-cons xs i 0 (omega arith) ∙ ap (λ k. slice_index xs i ∷ drop k xs) next in
    ap (λ l. slice_index xs i ∷ l) (map-range xs (i + 1) n (omega arith)) ∙ sym (ap (take (suc n)) here)

length-second_fields : (count word : ℕ) → length (second_fields count word) ≡ count + 1
length-second_fields count word =
    length-append (range_with_len 2 count) (word ∷ []) ∙ ap (λ k. k + 1) (length-range_with_len 2 count)

range-below : (count n : ℕ) → 2 + count ≤ n → All (λ i. i < n) (range_with_len 2 count)
range-below count n most i d below =
    let h : i < count = omega (arith, below, length-range_with_len 2 count) in
    rw (get_or-range_with_len 2 count i d h) (omega arith)

second_fields-below : (count word n : ℕ) → 2 + count ≤ n → word < n → All (λ i. i < n) (second_fields count word)
second_fields-below count word n most below =
    All-append (λ i. i < n) (range_with_len 2 count) (word ∷ []) (range-below count n most)
    (All-cons (λ i. i < n) word [] below (λ i d h. absurd (omega arith)))

-- the nodes of a term made of three, whose number of fields is larger by 2
few-nodes : (count m n p : ℕ) → 1 ≤ count → m ≤ 16 ^ 2 → n ≤ 16 ^ count → p ≤ 16 ^ count →
    4 + m + n + p ≤ 16 ^ (2 + count)
few-nodes count m n p some hm hn hp =
    let base : 0 < 16 = omega arith in
    let least : 16 ^ 1 ≤ 16 ^ count = pow-le-pow_right base some in
    omega (arith, pow-add 16 2 count, least)

all_three : (x y z : ℕ) → ((if x == 0 then 0 else if y == 0 then 0 else z) ≢ 0) ↔ ((x ≢ 0) × (y ≢ 0) × (z ≢ 0))
all_three x y z = grind (arith, nat_tests)

both : (x y : ℕ) → ((if x == 0 then 0 else y) ≢ 0) ↔ ((x ≢ 0) × (y ≢ 0))
both x y = grind (arith, nat_tests)

nonzero : (n : ℕ) → IsTrue (not (n == 0)) ↔ (n ≢ 0)
nonzero n = grind (arith, nat_tests)

-- the term for membership isn't 0 at a tuple and a member
member_term-tells : {d : Abstraction} → KeepsLaws d →
    (w : ℕ) → IsWidth w → (a : List ℕ) → IsTuple w d.meaning.fields a → (c : ℕ) → c < 2 ^ w →
    (val w (d.member_term w) (a ++ c ∷ []) ≢ 0) ↔ d.meaning.Member w a c
member_term-tells {d} laws w width a tuple c below =
    let tells = is_member-tells d laws.tells_membership w width a tuple c below in
    let test = nonzero (val w (d.member_term w) (a ++ c ∷ [])) in
    (λ h. tells.0 (test.1 h), λ h. test.0 (tells.1 h))

first_two : (x y : ℕ) (rest : List ℕ) (i : ℕ) → i < 2 → slice_index (x ∷ y ∷ rest) i ≡ slice_index (x ∷ y ∷ []) i
first_two x y rest zero h = refl
first_two x y rest (suc zero) h = refl
first_two x y rest (suc (suc i)) h = absurd (omega arith)

module _ {a b : Abstraction} (laws : ArePaired a b) (w : ℕ) (width : IsWidth w) where
  zero_word : nat_lt 0 (2 ^ w) ≡ true
  zero_word = lt-ltb 0 (2 ^ w) (pow_pos w)

  abbrev k : ℕ
  k = b.meaning.fields

  fit_a : IsTrue (fits w 2 (a.valid_term w))
  fit_a =
      subst (λ n. IsTrue (fits w n (a.valid_term w))) laws.walks.has_two_fields (laws.first.tells_validity w width).fit

  fit_b : IsTrue (fits w (length (range_with_len 2 k)) (b.valid_term w))
  fit_b =
      subst (λ n. IsTrue (fits w n (b.valid_term w))) (sym (length-range_with_len 2 k))
      (laws.second.tells_validity w width).fit

  fit_member : IsTrue (fits w (length (second_fields k 0)) (b.member_term w))
  fit_member =
      subst (λ n. IsTrue (fits w n (b.member_term w))) (sym (length-second_fields k 0))
      (laws.second.tells_membership w width).fit

  abbrev valid_term : Term
  valid_term = pair_valid_term a b w

  valid-fits : fits w (2 + k) valid_term ≡ true
  valid-fits =
      let fa = fits-more w 2 (2 + k) (omega arith) (a.valid_term w) fit_a in
      let fb =
      fits-rename w (2 + k) (range_with_len 2 k) (range-below k (2 + k) (omega arith)) (b.valid_term w) fit_b in
      let fm = fits-rename w (2 + k) (second_fields k 0) (second_fields-below k 0 (2 + k) (omega arith) (omega arith))
      (b.member_term w) fit_member in
      simp (fits-Node, fits-Const, fa, fb, fm, zero_word)

  valid-small : nodes valid_term ≤ 16 ^ (2 + k)
  valid-small =
      let count : nodes valid_term ≡ 4 + nodes (a.valid_term w) + nodes (b.valid_term w) + nodes (b.member_term w) =
      simp (nodes-Node, nodes-Const, nodes-rename) (omega arith) in
      let ma = subst (λ n. nodes (a.valid_term w) ≤ 16 ^ n) laws.walks.has_two_fields
      (laws.first.tells_validity w width).small in
      rw count
      (few-nodes k _ _ _ laws.second.has_fields ma (laws.second.tells_validity w width).small
      (laws.second.tells_membership w width).small)

  module _ (x y : ℕ) (rest : List ℕ) (tuple : IsTuple w (2 + k) (x ∷ y ∷ rest)) where
    count : length rest ≡ k
    count = omega (arith, tuple.counted)

    all : take k rest ≡ rest
    all = take_all k rest (omega (arith, count))

    read_b : map (slice_index (x ∷ y ∷ rest)) (range_with_len 2 k) ≡ rest
    read_b = map-range (x ∷ y ∷ rest) 2 k (omega (arith, tuple.counted)) ∙ all

    read_member : map (slice_index (x ∷ y ∷ rest)) (second_fields k 0) ≡ rest ++ x ∷ []
    read_member = map-append (slice_index (x ∷ y ∷ rest)) (range_with_len 2 k) (0 ∷ []) ∙ ap (λ l. l ++ x ∷ []) read_b

    valid-value : val w valid_term (x ∷ y ∷ rest) ≡
        (if val w (a.valid_term w) (x ∷ y ∷ []) == 0 then 0 else if val w (b.valid_term w) rest == 0 then 0
        else val w (b.member_term w) (rest ++ x ∷ []))
    valid-value =
        let ea = val-same w 2 (x ∷ y ∷ rest) (x ∷ y ∷ []) (first_two x y rest) (a.valid_term w) fit_a in
        let eb = val-rename w (range_with_len 2 k) (x ∷ y ∷ rest) (b.valid_term w) fit_b
        ∙ ap (val w (b.valid_term w)) read_b in
        let em = val-rename w (second_fields k 0) (x ∷ y ∷ rest) (b.member_term w) fit_member
        ∙ ap (val w (b.member_term w)) read_member in
        simp (val-ternary, val-Const, ea, eb, em)

    valid-tells : (val w valid_term (x ∷ y ∷ rest) ≢ 0)
        ↔ (a.meaning.Valid w (x ∷ y ∷ []) × b.meaning.Valid w rest × b.meaning.Member w rest x)
    valid-tells =
        let ta = (laws.first.tells_validity w width).tells (x ∷ y ∷ [])
        (as_first laws w (x ∷ y ∷ []) (pair-IsTuple w x y (tuple.words 0) (tuple.words 1))) in
        let second : IsTuple w k rest = record { counted = count; words = λ i. tuple.words (suc (suc i)) } in
        let tb = (laws.second.tells_validity w width).tells rest second in
        let tm = member_term-tells laws.second w width rest second x (tuple.words 0) in
        let three = all_three (val w (a.valid_term w) (x ∷ y ∷ [])) (val w (b.valid_term w) rest)
        (val w (b.member_term w) (rest ++ x ∷ [])) in (
          λ h. let parts = three.0 (subst (λ n. n ≢ 0) valid-value h) in (ta.0 parts.0, tb.0 parts.1, tm.0 parts.2),
          λ v. subst (λ n. n ≢ 0) (sym valid-value) (three.1 (ta.1 v.0, tb.1 v.1, tm.1 v.2)),
        )

  -- the term for validity tells at each tuple whether it is a value of the pair
  pub valid-IsIndicator : IsIndicator w (2 + k) (2 + k) valid_term ((meaning_product a.meaning b.meaning).Valid w)
  valid-IsIndicator = record {
    fit = valid-fits;
    small = valid-small;
    tells = λ env tuple. by_more_than_two
        (λ env. IsTuple w (2 + k) env → (val w valid_term env ≢ 0) ↔ (meaning_product a.meaning b.meaning).Valid w env)
        valid-tells env (omega (arith, tuple.counted)) tuple;
  }

  abbrev three : List ℕ
  three = 0 ∷ 1 ∷ (2 + k) ∷ []

  fit_first : IsTrue (fits w (length three) (a.member_term w))
  fit_first =
      subst (λ n. IsTrue (fits w (n + 1) (a.member_term w))) laws.walks.has_two_fields
      (laws.first.tells_membership w width).fit

  fit_second : IsTrue (fits w (length (second_fields k (2 + k))) (b.member_term w))
  fit_second =
      subst (λ n. IsTrue (fits w n (b.member_term w))) (sym (length-second_fields k (2 + k)))
      (laws.second.tells_membership w width).fit

  abbrev member_term : Term
  member_term = pair_member_term a b w

  three-below : All (λ i. i < 2 + k + 1) three
  three-below =
      All-cons (λ i. i < 2 + k + 1) 0 (1 ∷ (2 + k) ∷ []) (omega arith)
      (All-cons (λ i. i < 2 + k + 1) 1 ((2 + k) ∷ []) (omega arith)
      (All-cons (λ i. i < 2 + k + 1) (2 + k) [] (omega arith) (λ i d h. absurd (omega arith))))

  member-fits : fits w (2 + k + 1) member_term ≡ true
  member-fits =
      let fa = fits-rename w (2 + k + 1) three three-below (a.member_term w) fit_first in
      let fb = fits-rename w (2 + k + 1) (second_fields k (2 + k))
      (second_fields-below k (2 + k) (2 + k + 1) (omega arith) (omega arith)) (b.member_term w) fit_second in
      simp (fits-Node, fits-Const, fa, fb, zero_word)

  member-small : nodes member_term ≤ 16 ^ (2 + k)
  member-small =
      let count : nodes member_term ≡ 2 + nodes (a.member_term w) + nodes (b.member_term w) =
      simp (nodes-Node, nodes-Const, nodes-rename) (omega arith) in
      let ma = subst (λ n. nodes (a.member_term w) ≤ 16 ^ n) laws.walks.has_two_fields
      (laws.first.tells_membership w width).small in
      rw count
      (omega (
        arith,
        few-nodes k _ _ _ laws.second.has_fields ma (laws.second.tells_membership w width).small
            (laws.second.tells_membership w width).small,
      ))

  module _ (x y : ℕ) (rest : List ℕ) (tuple : IsTuple w (2 + k + 1) (x ∷ y ∷ rest)) where
    abbrev word : ℕ
    word = slice_index rest k

    at_word : slice_index (x ∷ y ∷ rest) (2 + k) ≡ word
    at_word = let e : 2 + k ≡ suc (suc k) = omega arith in ap (slice_index (x ∷ y ∷ rest)) e

    read_first : map (slice_index (x ∷ y ∷ rest)) three ≡ (x ∷ y ∷ []) ++ word ∷ []
    read_first = ap (λ c. x ∷ y ∷ c ∷ []) at_word

    read_second : map (slice_index (x ∷ y ∷ rest)) (second_fields k (2 + k)) ≡ take k rest ++ word ∷ []
    read_second =
        map-append (slice_index (x ∷ y ∷ rest)) (range_with_len 2 k) ((2 + k) ∷ [])
        ∙ ap (λ l. l ++ slice_index (x ∷ y ∷ rest) (2 + k) ∷ [])
        (map-range (x ∷ y ∷ rest) 2 k (omega (arith, tuple.counted)))
        ∙ ap (λ c. take k rest ++ c ∷ []) at_word

    member-value : val w member_term (x ∷ y ∷ rest) ≡
        (if val w (a.member_term w) ((x ∷ y ∷ []) ++ word ∷ []) == 0 then 0
        else val w (b.member_term w) (take k rest ++ word ∷ []))
    member-value =
        let ea =
        val-rename w three (x ∷ y ∷ rest) (a.member_term w) fit_first ∙ ap (val w (a.member_term w)) read_first in
        let eb = val-rename w (second_fields k (2 + k)) (x ∷ y ∷ rest) (b.member_term w) fit_second
        ∙ ap (val w (b.member_term w)) read_second in
        simp (val-ternary, val-Const, ea, eb)

    member-tells : (val w member_term (x ∷ y ∷ rest) ≢ 0)
        ↔ (a.meaning.Member w (x ∷ y ∷ []) word × b.meaning.Member w (take k rest) word)
    member-tells =
        let below = tuple.words (suc (suc k)) in
        let front : IsTuple w k (take k rest) = front-IsTuple in
        let ta = member_term-tells laws.first w width (x ∷ y ∷ [])
        (as_first laws w (x ∷ y ∷ []) (pair-IsTuple w x y (tuple.words 0) (tuple.words 1))) word below in
        let tb = member_term-tells laws.second w width (take k rest) front word below in
        let pair = both (val w (a.member_term w) ((x ∷ y ∷ []) ++ word ∷ []))
        (val w (b.member_term w) (take k rest ++ word ∷ [])) in (
          λ h. let parts = pair.0 (subst (λ n. n ≢ 0) member-value h) in (ta.0 parts.0, tb.0 parts.1),
          λ v. subst (λ n. n ≢ 0) (sym member-value) (pair.1 (ta.1 v.0, tb.1 v.1)),
        )
      where
        front-IsTuple : IsTuple w k (take k rest)
        front-IsTuple = record {
          counted = length-take-le k rest (omega (arith, tuple.counted));
          words = λ i. elim (cases_lt i k) [
            | inl less ↦ rw (get_or-take k rest i 0 less) (tuple.words (suc (suc i)))
            | inr more ↦
                rw (get_or_past (take k rest) i 0 (omega (arith, length-take-le k rest (omega (arith, tuple.counted)))))
                (pow_pos w)
          ];
        }

  -- the term for membership tells at each tuple and word whether it is a member of the pair
  pub member-IsIndicator : IsIndicator w (2 + k) (2 + k + 1) member_term
      (λ env. (meaning_product a.meaning b.meaning).Member w (take (2 + k) env) (slice_index env (2 + k)))
  member-IsIndicator = record {
    fit = member-fits;
    small = member-small;
    tells = λ env tuple. by_more_than_two
        (λ env. IsTuple w (2 + k + 1) env →
        (val w member_term env ≢ 0) ↔ (meaning_product a.meaning b.meaning).Member w (take (2 + k) env)
        (slice_index env (2 + k)))
        (λ x y rest t. subst
        (λ n. (val w member_term (x ∷ y ∷ rest) ≢ 0)
        ↔ (meaning_product a.meaning b.meaning).Member w (take n (x ∷ y ∷ rest)) (slice_index (x ∷ y ∷ rest) n))
        (let e : suc (suc k) ≡ 2 + k = omega arith in e) (member-tells x y rest t))
        env (omega (arith, tuple.counted)) tuple;
  }
