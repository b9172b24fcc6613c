-- Sets of literals as marks: what is put in and taken out, and what a resolution makes of them.
use Rattle.std.proofs.Common.{ℕ, ◌≡◌, ◌≢◌, ◌+◌, ◌^◌, ◌<◌, ◌≤◌, Bool, true, false, not, cond, eqb, List, [], ◌∷◌, ◌++◌}
use Rattle.std.proofs.Common.{All, length, get_or, set, take, drop, refl, sym, ap, ◌∙◌, inl, inr, arith, add-one}
use Rattle.std.proofs.Common.{length-set, get_or-set_same, get_or-set_other}
use Rattle.std.specs.Prelude.{Contains, ◌⊎◌, ◌↔◌}
use Rattle.std.specs.List.Sorted.{IsStrictlyIncreasing}
use Rattle.std.proofs.Math.Seq.{take-suc}
use Rattle.std.proofs.lemmas.Bool.{eqb-true, eq-eqb}
use Rattle.std.proofs.lemmas.List.{drop_more, get_or_default, get_or_past}
use Rattle.std.proofs.lemmas.List.Elements.{All-contains, All-push, All-weaker, Contains-append_left}
use Rattle.std.proofs.lemmas.List.Elements.{Contains-append_cases, Contains-push}
use Rattle.std.proofs.lemmas.List.Folds.{Any-from_list_any, list_any_at}
use Rattle.am_lit.specs.Literal.{opposite_of, variable_of}
use Rattle.am_lit.proofs.Laws.{Contains-nil, Contains-cons_cases, opposite_of-differs, opposite_of-opposite_of}
use Rattle.am_lit.proofs.Laws.{other_literal, same_or, variable_of-opposite_of}
use Rattle.am_chain.specs.Resolvent.{has_pivot, resolvent}
use Rattle.am_chain.specs.inside.Marks.{AreMarksOf, is_in, mark_at}
use Rattle.am_chain.proofs.Merging.{IsStrictlyIncreasing-resolvent}
use Rattle.am_chain.proofs.Resolvents.{from_resolvent, into_resolvent, has_pivot_iff}
use Rattle.am_chain.proofs.SameLists.{same_lists}

-- what isn't true is false
pub not_true : (b : Bool) → ¬ (b ≡ true) → b ≡ false
not_true true h = absurd (h refl)
not_true false h = refl

-- nothing is true and false
pub clash : (b : Bool) → b ≡ true → ¬ (b ≡ false)
clash b t f = let wrong : true ≡ false = sym t ∙ f in cc

-- what isn't false is true
pub not_not : (b : Bool) → not b ≡ false → b ≡ true
not_not true h = refl
not_not false h = let wrong : true ≡ false = h in cc

-- the members of a list, by the test
pub Contains-is_in : (xs : List ℕ) (l : ℕ) → is_in xs l ≡ true → Contains xs l
Contains-is_in xs l h =
    let some = Any-from_list_any (λ m. eqb m l) xs h in
    let same : some.1 ≡ l = eqb-true some.1 l some.4 in
    let there : Contains xs some.1 = (some.0, some.2, some.3) in
    rw same at there

pub is_in-Contains : (xs : List ℕ) (l : ℕ) → Contains xs l → is_in xs l ≡ true
is_in-Contains xs l h = list_any_at (λ m. eqb m l) xs h.0 l h.1 (rw h.2 (eq-eqb l l refl))

-- an item of a list, at any default
pub item : (xs : List ℕ) (i l : ℕ) → i < length xs → l ≡ get_or xs i l → get_or xs i 0 ≡ l
item xs i l lt e = get_or_default xs i 0 l lt ∙ sym e

-- one more element of a prefix
module _ (xs : List ℕ) (i : ℕ) (lt : i < length xs) where
  pub into_more : (m : ℕ) → Contains (take i xs) m ⊎ (get_or xs i 0 ≡ m) → Contains (take (i + 1) xs) m
  into_more m h = rw (add-one, take-suc xs i 0 lt) (elim h [
    | inl k ↦ Contains-append_left (take i xs) (get_or xs i 0 ∷ []) m k
    | inr e ↦ rw (← e) (Contains-push (take i xs) (get_or xs i 0))
  ])

  pub from_more : (m : ℕ) → Contains (take (i + 1) xs) m → Contains (take i xs) m ⊎ (get_or xs i 0 ≡ m)
  from_more m h = elim (Contains-append_cases (take i xs) (get_or xs i 0 ∷ []) m
      (rw (add-one, take-suc xs i 0 lt) at h)) [
        | inl k ↦ inl k
        | inr k ↦ elim (Contains-cons_cases (get_or xs i 0) [] m k)
            [ inl e ↦ inr e | inr none ↦ absurd (Contains-nil m none) ]
      ]

-- a literal was put in
module _ (old new : List Bool) (l : ℕ) (put : (m : ℕ) → mark_at new m ≡ cond (eqb m l) true (mark_at old m)) where
  pub put_iff : (m : ℕ) → (mark_at new m ≡ true) ↔ ((l ≡ m) ⊎ (mark_at old m ≡ true))
  put_iff m = go (eqb m l) (eqb-true m l) (eq-eqb m l) (put m) where
    go : (b : Bool) → (b ≡ true → m ≡ l) → (m ≡ l → b ≡ true) → mark_at new m ≡ cond b true (mark_at old m)
        → (mark_at new m ≡ true) ↔ ((l ≡ m) ⊎ (mark_at old m ≡ true))
    go true t f e = ((λ h. inl (sym (t refl))), (λ h. e))
    go false t f e = (
      (λ h. inr (sym e ∙ h)),
      (λ h. elim h [ inl s ↦ absurd (clash false (f (sym s)) refl) | inr k ↦ e ∙ k ]),
    )

  module _ (xs : List ℕ) (i : ℕ) (lt : i < length xs) (here : get_or xs i 0 ≡ l) where
    -- with one literal more put in, the marks are those of one literal more
    pub fill_more : ((m : ℕ) → (mark_at old m ≡ true) ↔ Contains (take i xs) m) → (m : ℕ)
        → (mark_at new m ≡ true) ↔ Contains (take (i + 1) xs) m
    fill_more h m = (
      (λ t. into_more xs i lt m (elim ((put_iff m).0 t) [ inl e ↦ inr (here ∙ e) | inr k ↦ inl ((h m).0 k) ])),
      (λ k. (put_iff m).1
          (elim (from_more xs i lt m k) [ inl before ↦ inr ((h m).1 before) | inr e ↦ inl (sym here ∙ e) ])),
    )

-- what a pass over a clause has seen of the wanted literal and its opposite
pub record IsSeen (found : Bool) (wanted : ℕ) (c : List ℕ) : Type 0 where
  pub found_iff : (found ≡ true) ↔ Contains c wanted
  pub none : ¬ (Contains c (opposite_of wanted))

-- the marks are the first ones, and the literals of a list but those of a variable
abbrev pub AreJoinedMarks : List Bool → ℕ → List ℕ → List Bool → Type 0
AreJoinedMarks first v c marks =
    (m : ℕ) → (mark_at marks m ≡ true) ↔ ((mark_at first m ≡ true) ⊎ (Contains c m × (¬ (variable_of m ≡ v))))

module _ (wanted : ℕ) (xs : List ℕ) (i : ℕ) (lt : i < length xs) where
  -- a literal of another variable is put in
  pub others_more : (first old new : List Bool) (l : ℕ)
      → ((m : ℕ) → mark_at new m ≡ cond (eqb m l) true (mark_at old m)) → get_or xs i 0 ≡ l
      → variable_of l ≢ variable_of wanted
      → AreJoinedMarks first (variable_of wanted) (take i xs) old
      → AreJoinedMarks first (variable_of wanted) (take (i + 1) xs) new
  others_more first old new l put here ne h m = (
    (λ t. elim ((put_iff old new l put m).0 t) [
      | inl e ↦ inr (into_more xs i lt m (inr (here ∙ e)), (λ same. ne (ap variable_of e ∙ same)))
      | inr k ↦ elim ((h m).0 k) [ inl a ↦ inl a | inr b ↦ inr (into_more xs i lt m (inl b.0), b.1) ]
    ]),
    (λ s. (put_iff old new l put m).1 (elim s [
      | inl a ↦ inr ((h m).1 (inl a))
      | inr b ↦ elim (from_more xs i lt m b.0)
          [ inl before ↦ inr ((h m).1 (inr (before, b.1))) | inr e ↦ inl (sym here ∙ e) ]
    ])),
  )

  -- a literal of another variable changes nothing that was seen
  pub seen_other : (found : Bool) (l : ℕ) → get_or xs i 0 ≡ l → variable_of l ≢ variable_of wanted
      → IsSeen found wanted (take i xs)
      → IsSeen found wanted (take (i + 1) xs)
  seen_other found l here ne s = record {
    found_iff = (
      (λ t. into_more xs i lt wanted (inl (s.found_iff.0 t))),
      (λ k. elim (from_more xs i lt wanted k)
          [ inl before ↦ s.found_iff.1 before | inr e ↦ absurd (ne (ap variable_of (sym here ∙ e))) ]),
    );
    none = (λ k. elim (from_more xs i lt (opposite_of wanted) k) [
      | inl before ↦ s.none before
      | inr e ↦ ne (ap variable_of (sym here ∙ e) ∙ variable_of-opposite_of wanted)
    ]);
  }

  -- the wanted literal is found
  pub joined_wanted : (first marks : List Bool) → get_or xs i 0 ≡ wanted
      → AreJoinedMarks first (variable_of wanted) (take i xs) marks
      → AreJoinedMarks first (variable_of wanted) (take (i + 1) xs) marks
  joined_wanted first marks here h m = (
    (λ t. elim ((h m).0 t) [ inl a ↦ inl a | inr b ↦ inr (into_more xs i lt m (inl b.0), b.1) ]),
    (λ s. (h m).1 (elim s [
      | inl a ↦ inl a
      | inr b ↦ elim (from_more xs i lt m b.0)
          [ inl before ↦ inr (before, b.1) | inr e ↦ absurd (b.1 (ap variable_of (sym e ∙ here))) ]
    ])),
  )

  -- the wanted literal is seen
  pub seen_wanted : (found : Bool) → get_or xs i 0 ≡ wanted → IsSeen found wanted (take i xs)
      → IsSeen true wanted (take (i + 1) xs)
  seen_wanted found here s = record {
    found_iff = ((λ t. into_more xs i lt wanted (inr here)), (λ k. refl));
    none = (λ k. elim (from_more xs i lt (opposite_of wanted) k) [
      | inl before ↦ s.none before
      | inr e ↦ opposite_of-differs wanted (sym e ∙ here)
    ]);
  }

  -- the opposite of the wanted literal is there
  pub opposite_there : (l : ℕ) → get_or xs i 0 ≡ l → variable_of l ≡ variable_of wanted → l ≢ wanted
      → Contains xs (opposite_of wanted)
  opposite_there l here same ne =
      (i, lt, get_or_default xs i (opposite_of wanted) 0 lt ∙ here ∙ other_literal wanted l same ne)

-- a literal is put in: it is touched, and marked in a list that was made long enough
module _ (first marks : List Bool) (touched after : List ℕ) (code l : ℕ) (is : code ≡ l)
    (pushed : after ≡ touched ++ l ∷ []) (inside : code < length marks)
    (longer : length first ≤ length marks) (same : (m : ℕ) → mark_at marks m ≡ mark_at first m)
    (in_range : All (λ m. m < length first) touched)
    (all : (m : ℕ) → mark_at first m ≡ true → is_in touched m ≡ true) where
  -- the touched literals stand within the marks
  pub put_in_range : All (λ m. m < length (set marks code true)) after
  put_in_range =
      rw (pushed, length-set)
      (All-push (λ m. m < length marks) touched l
      (All-weaker (λ m. m < length first) (λ m. m < length marks) (λ m h. omega (arith, longer)) touched in_range)
      (omega (arith, is, inside)))

  -- each marked literal is touched
  pub put_touched : (m : ℕ) → mark_at (set marks code true) m ≡ true → is_in after m ≡ true
  put_touched m t = elim (same_or m code) [
    | inl e ↦ rw pushed (is_in-Contains (touched ++ l ∷ []) m (rw (e, is) (Contains-push touched l)))
    | inr ne ↦
        let before : mark_at first m ≡ true = sym (same m) ∙ (rw get_or-set_other at t) in
        rw pushed
        (is_in-Contains (touched ++ l ∷ []) m
        (Contains-append_left touched (l ∷ []) m (Contains-is_in touched m (all m before))))
  ]

-- the literals that are touched, but for those before a place
pub unmark_more : (marks : List Bool) (touched : List ℕ) (i l : ℕ) → i < length touched → get_or touched i 0 ≡ l
    → l < length marks
    → ((m : ℕ) → mark_at marks m ≡ true → is_in (drop i touched) m ≡ true) → (m : ℕ)
    → mark_at (set marks l false) m ≡ true
    → is_in (drop (i + 1) touched) m ≡ true
unmark_more marks touched i l lt here inside h m t = elim (same_or m l) [
  | inl e ↦ absurd (clash (mark_at (set marks l false) m) t (rw (e, get_or-set_same marks l false false inside) refl))
  | inr ne ↦
      let before : mark_at marks m ≡ true = rw get_or-set_other at t in
      let there : is_in (get_or touched i 0 ∷ drop (i + 1) touched) m ≡ true =
      rw (drop_more touched i 0 lt) at (h m before) in
      elim (Contains-cons_cases (get_or touched i 0) (drop (i + 1) touched) m
      (Contains-is_in (get_or touched i 0 ∷ drop (i + 1) touched) m there)) [
        | inl e ↦ absurd (ne (sym e ∙ here))
        | inr k ↦ is_in-Contains (drop (i + 1) touched) m k
      ]
]

-- a literal whose variable is past all marks isn't marked
pub unmarked_past : (marks : List Bool) (v l : ℕ) → length marks ≤ 2 ^ 32 → 2 ^ 31 ≤ v → variable_of l ≡ v
    → ¬ (mark_at marks l ≡ true)
unmarked_past marks v l bound h e t =
    let past : length marks ≤ l = omega arith in
    clash (mark_at marks l) t (get_or_past marks l false past)

-- a resolution of marks
module _ (v : ℕ) (c d : List ℕ) (marks : List Bool) (are : AreMarksOf c marks) (rd : IsStrictlyIncreasing d) where
  unmarked : (l : ℕ) → ¬ (Contains c l) → mark_at marks l ≡ false
  unmarked l h = not_true (mark_at marks l) (λ t. h ((are.members l).1 t))

  -- where no literal of the variable stands alone, there is no pivot
  pub no_literal : ((l : ℕ) → variable_of l ≡ v → mark_at marks l ≡ true → mark_at marks (opposite_of l) ≡ true)
      → has_pivot v c d ≡ false
  no_literal h = not_true (has_pivot v c d) (λ t.
      let p = (has_pivot_iff v c d are.rising rd).0 t in
      p.2.first_only ((are.members (opposite_of p.0)).1 (h p.0 p.1 ((are.members p.0).0 p.2.first))))

  module _ (l : ℕ) (of : variable_of l ≡ v) (there : mark_at marks l ≡ true)
      (alone : mark_at marks (opposite_of l) ≡ false) where
    no_opposite : ¬ (Contains c (opposite_of l))
    no_opposite k = clash (mark_at marks (opposite_of l)) ((are.members (opposite_of l)).0 k) alone

    -- where the other clause doesn't hold just the opposite, there is no pivot
    pub no_partner : ¬ (Contains d (opposite_of l) × (¬ (Contains d (opposite_of (opposite_of l)))))
        → has_pivot v c d ≡ false
    no_partner h = not_true (has_pivot v c d) (λ t.
        let p = (has_pivot_iff v c d are.rising rd).0 t in
        elim (same_or p.0 l) [
          | inl e ↦ h (rw e at p.2.second, rw (opposite_of-opposite_of l) (rw e at p.2.second_only))
          | inr ne ↦ no_opposite (rw (other_literal l p.0 (p.1 ∙ sym of) ne) at p.2.first)
        ])

    module _ (partner : Contains d (opposite_of l) × (¬ (Contains d (opposite_of (opposite_of l))))) where
      -- where the other clause holds just the opposite, there is a pivot
      pub pivot_found : has_pivot v c d ≡ true
      pivot_found = (has_pivot_iff v c d are.rising rd).1 (
        l,
        of,
        record {
          first = (are.members l).1 there;
          first_only = no_opposite;
          second = partner.0;
          second_only = rw (opposite_of-opposite_of l) at partner.1;
        },
      )

      -- with the others put in and the pivot taken out, the marks are those of the resolvent
      pub resolved : (joined new : List Bool) → AreJoinedMarks marks (variable_of (opposite_of l)) d joined
          → ((m : ℕ) → mark_at new m ≡ cond (eqb m l) false (mark_at joined m))
          → AreMarksOf (resolvent v c d) new
      resolved joined new h out =
          record { rising = IsStrictlyIncreasing-resolvent v c d; members = λ m. (into m, from m) } where
            var : variable_of (opposite_of l) ≡ v
            var = variable_of-opposite_of l ∙ of

            into : (m : ℕ) → Contains (resolvent v c d) m → mark_at new m ≡ true
            into m k =
                let parts = from_resolvent v c d m k in
                let kept : mark_at joined m ≡ true =
                (h m).1 (elim parts.0
                [ inl a ↦ inl ((are.members m).0 a) | inr b ↦ inr (b, (λ same. parts.1 (same ∙ var))) ]) in
                let other : eqb m l ≡ false =
                not_true (eqb m l) (λ t. parts.1 (ap variable_of (eqb-true m l t) ∙ of)) in
                out m ∙ rw other kept

            from : (m : ℕ) → mark_at new m ≡ true → Contains (resolvent v c d) m
            from m t = elim (same_or m l) [
              | inl e ↦ absurd (clash (mark_at new m) t (out m ∙ rw (eq-eqb m l e) refl))
              | inr ne ↦
                  let kept : mark_at joined m ≡ true =
                  sym (sym t ∙ out m ∙ rw (not_true (eqb m l) (λ q. ne (eqb-true m l q))) refl) in
                  elim ((h m).0 kept) [
                    | inl a ↦
                        let in_c = (are.members m).1 a in
                        into_resolvent v c d m (inl in_c)
                        (λ same. no_opposite (rw (other_literal l m (same ∙ sym of) ne) at in_c))
                    | inr b ↦ into_resolvent v c d m (inr b.0) (λ same. b.1 (same ∙ sym var))
                  ]
            ]

-- the literals that are touched and marked, in order
module _ (marks : List Bool) (touched kept : List ℕ) (inside : All (λ l. l < length marks) touched)
    (all : (l : ℕ) → mark_at marks l ≡ true → is_in touched l ≡ true)
    (rises : IsStrictlyIncreasing kept)
    (members : (l : ℕ) → Contains kept l ↔ (Contains touched l × (mark_at marks l ≡ true))) where
  kept_there : (l : ℕ) → mark_at marks l ≡ true → Contains kept l
  kept_there l t = (members l).1 (Contains-is_in touched l (all l t), t)

  -- the kept literals stand within the marks
  pub kept_inside : All (λ l. l < length marks) kept
  kept_inside = λ k d lt.
      let member = (members (get_or kept k d)).0 (k, lt, get_or_default kept k (get_or kept k d) d lt) in
      All-contains (λ l. l < length marks) touched (get_or kept k d) inside member.0

  -- each marked literal is kept
  pub kept_all : (l : ℕ) → mark_at marks l ≡ true → is_in kept l ≡ true
  kept_all l t = is_in-Contains kept l (kept_there l t)

  -- the kept literals are the clause whose marks these are
  pub kept_is : (c : List ℕ) → AreMarksOf c marks → kept ≡ c
  kept_is c are = same_lists kept c rises are.rising (λ l. (
    (λ k. (are.members l).1 ((members l).0 k).1),
    (λ k. kept_there l ((are.members l).0 k)),
  ))
