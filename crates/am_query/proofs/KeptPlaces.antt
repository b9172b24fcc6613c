-- Kept examples: their places grow one by one, and are determined.
use Rattle.std.proofs.Common.{◌≡◌, ℕ, zero, suc, ◌+◌, ◌<◌, ◌≤◌, ◌⊎◌, true, false, ltb, List, [], ◌∷◌, ◌++◌, length}
use Rattle.std.proofs.Common.{refl, sym, ◌∙◌, ap, subst, inl, inr, arith, add-one, length-append}
use Rattle.std.specs.Prelude.{◌↔◌}
use Rattle.std.specs.List.{All, Contains, filter}
use Rattle.std.specs.List.Sorted.{IsStrictlyIncreasing}
use Rattle.std.proofs.lemmas.Bool.{cases_lt, le-ltb}
use Rattle.std.proofs.lemmas.Bool.Decides.{Decides-ltb}
use Rattle.std.proofs.lemmas.List.{append-nil, get_or_append_left, get_or_push}
use Rattle.std.proofs.lemmas.List.Elements.{All-nil, All-head, All-tail, All-push, All-weaker, All-contains}
use Rattle.std.proofs.lemmas.List.Elements.{Contains-append_left, Contains-push, Contains-push_cases, filter-append}
use Rattle.std.proofs.lemmas.List.Kept.{AllPairs-from_increasing}
use Rattle.am_lit.proofs.Laws.{Contains-nil}
use Rattle.am_domain.specs.Examples.{Excludes}
use Rattle.am_problem.specs.Problem.{Problem, question_of}
use Rattle.am_problem.specs.declared.examples.Negative.{Negative}
use Rattle.am_problem.specs.declared.examples.Positive.{Positive}
use Rattle.am_query.specs.Transformers.{SomeSuits}
use Rattle.am_query.specs.Turns.{AreKeptBefore, at_places}
use Rattle.am_query.specs.TurnLaws.{NoneIsKeptAtFirst, KeptGrow, KeptAreDetermined, KeptAreSatisfied, NothingIsKept}

-- ---- lists of places

-- a list is empty, or has a last item
pub by_last : {A : Type 0} (xs : List A) → (xs ≡ []) ⊎ ((ys : List A) × (y : A) × (xs ≡ ys ++ y ∷ []))
by_last [] = inl refl
by_last (x ∷ xs) = elim (by_last xs) [
  | inl none ↦ inr ([], x, ap (λ zs. x ∷ zs) none)
  | inr more ↦ inr (x ∷ more.0, more.1, ap (λ zs. x ∷ zs) more.2)
]

abbrev AreBelow : ℕ → List ℕ → Type 0
AreBelow n places = All (λ i. i < n) places

-- the places before one
abbrev before : ℕ → List ℕ → List ℕ
before i places = filter (λ j. ltb j i) places

before_all : (n : ℕ) (places : List ℕ) → AreBelow n places → before n places ≡ places
before_all n [] below = refl
before_all n (x ∷ xs) below =
    let first : ltb x n ≡ true = (Decides-ltb x n).1 (All-head (λ i. i < n) x xs below) in
    rw first (ap (λ ys. x ∷ ys) (before_all n xs (All-tail (λ i. i < n) x xs below)))

-- a place at the end isn't before a lower one
before_push : (i n : ℕ) (places : List ℕ) → i ≤ n → before i (places ++ n ∷ []) ≡ before i places
before_push i n places le =
    let last : ltb n i ≡ false = le-ltb n i le in
    filter-append (λ j. ltb j i) places (n ∷ []) ∙ rw last (append-nil (before i places))

last_within : (places : List ℕ) (n k : ℕ) → k + 1 < length (places ++ n ∷ []) → k < length places
last_within places n k within = omega (arith, within, length-append places (n ∷ []))

rising_push : (places : List ℕ) (n : ℕ) → IsStrictlyIncreasing places → AreBelow n places →
    IsStrictlyIncreasing (places ++ n ∷ [])
rising_push places n rising below = λ k within.
    let here : k < length places = last_within places n k within in
    let first = get_or_append_left places (n ∷ []) 0 k here in
    elim (cases_lt (k + 1) (length places)) [
      | inl lt ↦ omega (arith, first, get_or_append_left places (n ∷ []) 0 (k + 1) lt, rising k lt)
      | inr le ↦
          let end : length places ≡ k + 1 = omega arith in
          omega (arith, first, get_or_push places n 0 (k + 1) end, below k 0 here)
    ]

rising_front : (places : List ℕ) (n : ℕ) → IsStrictlyIncreasing (places ++ n ∷ []) → IsStrictlyIncreasing places
rising_front places n rising = λ k within.
    let here : k < length places = omega arith in
    let both : k + 1 < length (places ++ n ∷ []) = omega (arith, length-append places (n ∷ [])) in
    let first = get_or_append_left places (n ∷ []) 0 k here in
    omega (arith, first, get_or_append_left places (n ∷ []) 0 (k + 1) within, rising k both)

rising_last : (places : List ℕ) (n : ℕ) → IsStrictlyIncreasing (places ++ n ∷ []) → AreBelow n places
rising_last places n rising = λ k d here.
    let end : length places < length (places ++ n ∷ []) = omega (arith, length-append places (n ∷ [])) in
    let pair = AllPairs-from_increasing (places ++ n ∷ []) rising k (length places) d here end in
    omega (arith, pair, get_or_append_left places (n ∷ []) d k here, get_or_push places n d (length places) refl)

below_more : (n m : ℕ) (places : List ℕ) → n ≤ m → AreBelow n places → AreBelow m places
below_more n m places le below = All-weaker (λ i. i < n) (λ i. i < m) (λ i lt. omega arith) places below

last_below : (n last : ℕ) (places : List ℕ) → AreBelow n (places ++ last ∷ []) → last < n
last_below n last places below = All-contains (λ i. i < n) (places ++ last ∷ []) last below (Contains-push places last)

none_below : (places : List ℕ) → AreBelow 0 places → places ≡ []
none_below [] below = refl
none_below (x ∷ xs) below = absurd (omega (arith, All-head (λ i. i < 0) x xs below))

not_there : (n : ℕ) (places : List ℕ) → AreBelow n places → ¬ Contains places n
not_there n places below there = omega (arith, All-contains (λ i. i < n) places n below there)

-- ---- kept places

-- fewer examples are satisfied too
pub fewer_suit : (p : Problem) (positives : List Positive) (negatives : List Negative) →
    SomeSuits p positives negatives → SomeSuits p positives []
fewer_suit p positives negatives s =
    (s.0, s.1, record { covers = s.2.covers; excludes = All-nil (Excludes (question_of p) s.0) })

module _ (p : Problem) (positives : List Positive) (negatives : List Negative) where
  abbrev AreKeptTo : ℕ → List ℕ → Type 0
  AreKeptTo n places = AreKeptBefore p positives negatives n places

  abbrev Suit : List ℕ → Type 0
  Suit places = SomeSuits p positives (at_places negatives places)

  at_first : AreKeptTo 0 []
  at_first = record {
    rising = λ k within. absurd (omega arith);
    below = All-nil (λ i. i < 0);
    exactly = λ i lt. absurd (omega arith);
  }

  -- what the last of some places says
  last_suit : (n last : ℕ) (places : List ℕ) → AreKeptTo n (places ++ last ∷ []) → last < n → Suit (places ++ last ∷ [])
  last_suit n last places kept lt =
      let all : before last (places ++ last ∷ []) ≡ places =
      before_push last last places (omega arith) ∙ before_all last places (rising_last places last kept.rising) in
      rw all at (kept.exactly last lt).0 (Contains-push places last)

  -- a place from n on isn't before a lower one, and what is said of the lower one stays
  at_lower : (n i : ℕ) (places : List ℕ) → i < n → (Contains places i ↔ Suit (before i places ++ i ∷ [])) →
      Contains (places ++ n ∷ []) i ↔ Suit (before i (places ++ n ∷ []) ++ i ∷ [])
  at_lower n i places lt says = rw (before_push i n places (omega arith)) (
    (λ there. elim (Contains-push_cases places n i there) [ inl early ↦ says.0 early | inr e ↦ absurd (omega arith) ]),
    (λ suit. Contains-append_left places (n ∷ []) i (says.1 suit)),
  )

  from_lower : (n i : ℕ) (places : List ℕ) → i < n →
      (Contains (places ++ n ∷ []) i ↔ Suit (before i (places ++ n ∷ []) ++ i ∷ [])) →
      Contains places i ↔ Suit (before i places ++ i ∷ [])
  from_lower n i places lt says =
      let same = before_push i n places (omega arith) in
      let here : Contains (places ++ n ∷ []) i ↔ Suit (before i places ++ i ∷ []) = rw same at says in (
        λ there. here.0 (Contains-append_left places (n ∷ []) i there),
        λ suit. elim (Contains-push_cases places n i (here.1 suit)) [
          | inl early ↦ early
          | inr e ↦ absurd (omega arith)
        ],
      )

  -- places that are kept up to n, where n is judged rightly too
  kept_to : (n : ℕ) (places : List ℕ) → IsStrictlyIncreasing places → AreBelow (n + 1) places →
      ((i : ℕ) → i < n → Contains places i ↔ Suit (before i places ++ i ∷ [])) →
      (Contains places n ↔ Suit (before n places ++ n ∷ [])) → AreKeptTo (n + 1) places
  kept_to n places rising below early late = record {
    rising = rising;
    below = below;
    exactly = λ i lt. elim (cases_lt i n) [
      | inl lower ↦ early i lower
      | inr le ↦
          let e : n ≡ i = omega arith in
          subst (λ (j : ℕ). Contains places j ↔ Suit (before j places ++ j ∷ [])) e late
    ];
  }

  kept_more : (n : ℕ) (places : List ℕ) → AreKeptTo n places → Suit (places ++ n ∷ []) →
      AreKeptTo (n + 1) (places ++ n ∷ [])
  kept_more n places kept suit =
      let all : before n (places ++ n ∷ []) ≡ places =
      before_push n n places (omega arith) ∙ before_all n places kept.below in
      kept_to n (places ++ n ∷ []) (rising_push places n kept.rising kept.below)
      (All-push (λ i. i < n + 1) places n (below_more n (n + 1) places (omega arith) kept.below) (omega arith))
      (λ i lt. at_lower n i places lt (kept.exactly i lt))
      (rw all ((λ there. suit), (λ s. Contains-push places n)))

  kept_same : (n : ℕ) (places : List ℕ) → AreKeptTo n places → (¬ Suit (places ++ n ∷ [])) → AreKeptTo (n + 1) places
  kept_same n places kept none =
      kept_to n places kept.rising (below_more n (n + 1) places (omega arith) kept.below)
      kept.exactly
      (rw (before_all n places kept.below)
      ((λ there. absurd (not_there n places kept.below there)), (λ s. absurd (none s))))

  -- kept places up to one more: those before it, and perhaps it
  pub record Parts (n : ℕ) (places : List ℕ) : Type 0 where
    pub early : List ℕ
    pub kept : AreKeptTo n early
    pub are : (places ≡ early) ⊎ (places ≡ early ++ n ∷ [])

  same_to : (n : ℕ) (places : List ℕ) → AreKeptTo (n + 1) places → AreBelow n places → Parts n places
  same_to n places kept below = record {
    early = places;
    kept = record { rising = kept.rising; below = below; exactly = λ i lt. kept.exactly i (omega arith) };
    are = inl refl;
  }

  cut : (n : ℕ) (places : List ℕ) → AreKeptTo (n + 1) (places ++ n ∷ []) → AreKeptTo n places
  cut n places kept = record {
    rising = rising_front places n kept.rising;
    below = rising_last places n kept.rising;
    exactly = λ i lt. from_lower n i places lt (kept.exactly i (omega arith));
  }

  by_end : (n last : ℕ) (places : List ℕ) → AreKeptTo (n + 1) (places ++ last ∷ []) → Parts n (places ++ last ∷ [])
  by_end n last places kept = elim (cases_lt last n) [
    | inl lt ↦
        let early = below_more last n places (omega arith) (rising_last places last kept.rising) in
        same_to n (places ++ last ∷ []) kept (All-push (λ i. i < n) places last early lt)
    | inr le ↦
        let within : last < n + 1 = last_below (n + 1) last places kept.below in
        let e : n ≡ last = omega arith in
        let P : ℕ → Type 0 = λ m. AreKeptTo (n + 1) (places ++ m ∷ []) → Parts n (places ++ m ∷ []) in
        subst P e (λ k. record { early = places; kept = cut n places k; are = inr refl }) kept
  ]

  parts : (n : ℕ) (places : List ℕ) → AreKeptTo (n + 1) places → Parts n places
  parts n places kept = elim (by_last places) [
    | inl none ↦ same_to n places kept (rw none (All-nil (λ i. i < n)))
    | inr more ↦
        let P : List ℕ → Type 0 = λ xs. AreKeptTo (n + 1) xs → Parts n xs in
        subst P (sym more.2) (by_end n more.1 more.0) kept
  ]

  -- the next place is in both of two kept lists, or in none
  both : (n : ℕ) (places : List ℕ) → AreKeptTo n places → AreKeptTo (n + 1) places →
      AreKeptTo (n + 1) (places ++ n ∷ []) → ⊥
  both n places kept without further =
      let suit = last_suit (n + 1) n places further (omega arith) in
      not_there n places kept.below ((without.exactly n (omega arith)).1 (rw (before_all n places kept.below) suit))

  same_parts : (n : ℕ) (places others : List ℕ) → AreKeptTo (n + 1) places → AreKeptTo (n + 1) others →
      (a : Parts n places) (b : Parts n others) → a.early ≡ b.early → places ≡ others
  same_parts n places others h k a b e = elim a.are [
    | inl x ↦ elim b.are [
      | inl y ↦ x ∙ e ∙ sym y
      | inr y ↦ absurd (both n b.early b.kept (subst (AreKeptTo (n + 1)) (x ∙ e) h) (subst (AreKeptTo (n + 1)) y k))
    ]
    | inr x ↦ elim b.are [
      | inl y ↦ absurd (both n a.early a.kept (subst (AreKeptTo (n + 1)) (y ∙ sym e) k) (subst (AreKeptTo (n + 1)) x h))
      | inr y ↦ x ∙ ap (λ zs. zs ++ n ∷ []) e ∙ sym y
    ]
  ]

  determined : (n : ℕ) (places others : List ℕ) → AreKeptTo n places → AreKeptTo n others → places ≡ others
  determined zero places others h k = none_below places h.below ∙ sym (none_below others k.below)
  determined (suc n) places others h k =
      let further : n + 1 ≡ suc n = add-one n in
      let i : AreKeptTo (n + 1) places = subst (λ (m : ℕ). AreKeptTo m places) (sym further) h in
      let j : AreKeptTo (n + 1) others = subst (λ (m : ℕ). AreKeptTo m others) (sym further) k in
      let a = parts n places i in
      let b = parts n others j in
      same_parts n places others i j a b (determined n a.early b.early a.kept b.kept)

  satisfied : (n : ℕ) (places : List ℕ) → AreKeptTo n places → SomeSuits p positives [] → Suit places
  satisfied n places kept some = elim (by_last places) [
    | inl none ↦ rw none some
    | inr more ↦
        let last : more.1 < n = last_below n more.1 more.0 (rw more.2 at kept.below) in
        rw more.2 (last_suit n more.1 more.0 (rw more.2 at kept) last)
  ]

  nothing : (n : ℕ) (places : List ℕ) → (¬ SomeSuits p positives []) → AreKeptTo n places → places ≡ []
  nothing n places none kept = elim (by_last places) [
    | inl e ↦ e
    | inr more ↦
        let last : more.1 < n = last_below n more.1 more.0 (rw more.2 at kept.below) in
        absurd (none (fewer_suit p positives _ (last_suit n more.1 more.0 (rw more.2 at kept) last)))
  ]

  kept_none : (n : ℕ) → (¬ SomeSuits p positives []) → AreKeptTo n []
  kept_none n none = record {
    rising = λ k within. absurd (omega arith);
    below = All-nil (λ i. i < n);
    exactly = λ i lt.
        ((λ there. absurd (Contains-nil i there)), (λ suit. absurd (none (fewer_suit p positives _ suit))));
  }

-- ---- the laws

-- before the first example no place is kept
pub none_is_kept_at_first : NoneIsKeptAtFirst
none_is_kept_at_first = at_first

-- the next place is kept exactly where some transformer satisfies its example beside the kept ones
pub kept_grow : KeptGrow
kept_grow p positives negatives n places kept =
    (kept_more p positives negatives n places kept, kept_same p positives negatives n places kept)

-- two rows of kept places are the same
pub kept_are_determined : KeptAreDetermined
kept_are_determined = determined

-- where the positive examples can be satisfied, they can be beside the kept ones
pub kept_are_satisfied : KeptAreSatisfied
kept_are_satisfied = satisfied

-- where the positive examples can't be satisfied, nothing is kept
pub nothing_is_kept : NothingIsKept
nothing_is_kept p positives negatives n places none =
    (nothing p positives negatives n places none, λ e. rw e (kept_none p positives negatives n none))
