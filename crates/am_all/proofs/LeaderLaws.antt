-- Leaders, as loops over tuples and leaders find them.
use Rattle.std.proofs.Common.{◌≡◌, ℕ, ◌⊎◌, inl, inr, List, [], ◌∷◌, ◌++◌, length, refl, sym, ◌∙◌, subst, arith}
use Rattle.std.specs.Prelude.{All, Contains}
use Rattle.std.specs.List.{Any}
use Rattle.std.proofs.lemmas.List.Elements.{All-contains, All-contains_itself, All-nil, All-push, All-weaker}
use Rattle.std.proofs.lemmas.List.Elements.{Contains-append_left, Contains-push, Contains-push_cases}
use Rattle.am_all.specs.declared.cases.Case.{Case}
use Rattle.am_all.specs.declared.word_set.WordSet.{WordSet}
use Rattle.am_all.specs.inside.Leaders.{AreJoinedLeaders, AreLeaders, IsResult}
use Rattle.am_all.specs.inside.Results.{IsBeyond, IsCovering, IsMissing, IsResultInside}
use Rattle.am_all.proofs.Leading.{inside-trans}
use Rattle.am_all.proofs.Lists.{any-all}

-- the leaders that are looked at still, and those that are kept
pub record AreSorted (sets : List WordSet) (leaders : List (List ℕ)) (numbers : List ℕ)
    (rest joined : List (List ℕ)) : Type 0 where
  pub left : All (Contains leaders) rest
  pub from : All (Contains leaders) joined
  pub stay : All (λ leader. Contains rest leader ⊎ (Contains joined leader ⊎ IsResultInside sets numbers leader))
      leaders

module _ (sets : List WordSet) (leaders : List (List ℕ)) (numbers : List ℕ) where
  -- at first all leaders are looked at still
  pub sorted-first : AreSorted sets leaders numbers leaders []
  sorted-first = record {
    left = All-contains_itself leaders;
    from = All-nil (Contains leaders);
    stay = All-weaker (Contains leaders) (λ l. Contains leaders l ⊎ (Contains [] l ⊎ IsResultInside sets numbers l))
        (λ l h. inl h) leaders (All-contains_itself leaders);
  }

  -- the last of the rest is a leader
  pub sorted-last : (old rest joined : List (List ℕ)) (leader : List ℕ) → AreSorted sets leaders numbers old joined →
      old ≡ rest ++ leader ∷ [] → Contains leaders leader
  sorted-last old rest joined leader are e =
      All-contains (Contains leaders) old leader are.left
      (subst (λ ls. Contains ls leader) (sym e) (Contains-push rest leader))

  -- all but the last of the rest are leaders
  sorted-left : (old rest joined : List (List ℕ)) (leader : List ℕ) → AreSorted sets leaders numbers old joined →
      old ≡ rest ++ leader ∷ [] → All (Contains leaders) rest
  sorted-left old rest joined leader are e =
      All-weaker (Contains rest) (Contains leaders)
      (λ l h. All-contains (Contains leaders) old l are.left
      (subst (λ ls. Contains ls l) (sym e) (Contains-append_left rest (leader ∷ []) l h))) rest
      (All-contains_itself rest)

  -- one is kept
  pub sorted-kept : (old rest joined : List (List ℕ)) (leader : List ℕ) → AreSorted sets leaders numbers old joined →
      old ≡ rest ++ leader ∷ [] →
      AreSorted sets leaders numbers rest (joined ++ leader ∷ [])
  sorted-kept old rest joined leader are e = record {
    left = sorted-left old rest joined leader are e;
    from = All-push (Contains leaders) joined leader are.from (sorted-last old rest joined leader are e);
    stay = All-weaker (λ l. Contains old l ⊎ (Contains joined l ⊎ IsResultInside sets numbers l))
        (λ l. Contains rest l ⊎ (Contains (joined ++ leader ∷ []) l ⊎ IsResultInside sets numbers l))
        (λ l h. elim h [
          | inl there ↦ elim (Contains-push_cases rest leader l (subst (λ ls. Contains ls l) e there)) [
            | inl still ↦ inl still
            | inr same ↦ inr (inl (subst (Contains (joined ++ leader ∷ [])) same (Contains-push joined leader)))
          ]
          | inr other ↦ elim other [
            | inl here ↦ inr
                (inl (Contains-append_left joined (leader ∷ []) l here))
            | inr inside ↦ inr (inr inside)
          ]
        ]) leaders are.stay;
  }

  -- one isn't, as the result is inside it
  pub sorted-dropped : (old rest joined : List (List ℕ)) (leader : List ℕ) →
      AreSorted sets leaders numbers old joined → old ≡ rest ++ leader ∷ [] →
      IsResultInside sets numbers leader → AreSorted sets leaders numbers rest joined
  sorted-dropped old rest joined leader are e inside = record {
    left = sorted-left old rest joined leader are e;
    from = are.from;
    stay = All-weaker (λ l. Contains old l ⊎ (Contains joined l ⊎ IsResultInside sets numbers l))
        (λ l. Contains rest l ⊎ (Contains joined l ⊎ IsResultInside sets numbers l))
        (λ l h. elim h [
          | inl there ↦ elim (Contains-push_cases rest leader l (subst (λ ls. Contains ls l) e there)) [
            | inl still ↦ inl still
            | inr same ↦ inr (inr (subst (IsResultInside sets numbers) same inside))
          ]
          | inr other ↦ inr other
        ]) leaders are.stay;
  }

  -- the result comes to those that are kept
  pub sorted-joined : (rest joined : List (List ℕ)) → AreSorted sets leaders numbers rest joined → length rest ≡ 0 →
      AreJoinedLeaders sets leaders numbers (joined ++ numbers ∷ [])
  sorted-joined rest joined are none = record {
    from = All-push (λ l. Contains leaders l ⊎ (l ≡ numbers)) joined numbers
        (All-weaker (Contains leaders) (λ l. Contains leaders l ⊎ (l ≡ numbers)) (λ l h. inl h) joined are.from)
        (inr refl);
    stay = All-weaker (λ l. Contains rest l ⊎ (Contains joined l ⊎ IsResultInside sets numbers l))
        (λ l. Contains (joined ++ numbers ∷ []) l ⊎ IsResultInside sets numbers l)
        (λ l h. elim h [
          | inl there ↦ absurd (omega (arith, there.1, none))
          | inr other ↦ elim other [
            | inl here ↦ inl
                (Contains-append_left joined (numbers ∷ []) l here)
            | inr inside ↦ inr inside
          ]
        ]) leaders are.stay;
    new = Contains-push joined numbers;
  }

-- one more listed result

-- a result doesn't have all images and lack one
pub missing-uncovered : (cases : List Case) (sets : List WordSet) (numbers : List ℕ) → IsMissing cases sets numbers →
    ¬ IsCovering cases sets numbers
missing-uncovered cases sets numbers missing covering =
    let d : Case = record { fields = []; images = record { parts = [] } } in
    (missing.2 d).missing (covering missing.0 d missing.1 (missing.2 d).word (missing.2 d).here)

-- nor is it inside another and beyond it
pub inside-beyond : (sets : List WordSet) (one other : List ℕ) → IsResultInside sets one other → ¬ IsBeyond sets one
    other
inside-beyond sets one other inside beyond = beyond.2.missing (inside beyond.0 beyond.1 beyond.2.word beyond.2.here)

module _ (cases : List Case) (sets : List WordSet) (listed leaders : List (List ℕ)) (numbers : List ℕ)
    (lead : AreLeaders cases sets listed leaders) where
  longer : All (Contains (listed ++ numbers ∷ [])) leaders
  longer = All-weaker (Contains listed) (Contains (listed ++ numbers ∷ []))
      (λ l. Contains-append_left listed (numbers ∷ []) l) leaders lead.stand

  -- it isn't sound
  pub leaders-unsound : ¬ IsCovering cases sets numbers → AreLeaders cases sets (listed ++ numbers ∷ []) leaders
  leaders-unsound none = record {
    results = lead.results;
    cover = lead.cover;
    stand = longer;
    lead = All-push (λ ns. IsCovering cases sets ns → Any (λ l. IsResultInside sets l ns) leaders) listed numbers
        lead.lead
        (λ covering. absurd (none covering));
  }

  -- a leader is inside it
  pub leaders-led : Any (λ l. IsResultInside sets l numbers) leaders → AreLeaders cases sets (listed ++ numbers ∷ [])
      leaders
  leaders-led led = record {
    results = lead.results;
    cover = lead.cover;
    stand = longer;
    lead = All-push (λ ns. IsCovering cases sets ns → Any (λ l. IsResultInside sets l ns) leaders) listed numbers
        lead.lead
        (λ covering. led);
  }

  -- it becomes a leader
  pub leaders-joined : (joined : List (List ℕ)) → IsResult (length cases) (length sets) numbers →
      IsCovering cases sets numbers → AreJoinedLeaders sets leaders numbers joined →
      AreLeaders cases sets (listed ++ numbers ∷ []) joined
  leaders-joined joined result covering are = record {
    results = each (IsResult (length cases) (length sets)) lead.results result;
    cover = each (IsCovering cases sets) lead.cover covering;
    stand = each (Contains (listed ++ numbers ∷ [])) longer (Contains-push listed numbers);
    lead = All-push (λ ns. IsCovering cases sets ns → Any (λ l. IsResultInside sets l ns) joined) listed numbers
        (All-weaker (λ ns. IsCovering cases sets ns → Any (λ l. IsResultInside sets l ns) leaders)
        (λ ns. IsCovering cases sets ns → Any (λ l. IsResultInside sets l ns) joined)
        (λ ns h covers.
        let found = any-all (λ l. Contains joined l ⊎ IsResultInside sets numbers l)
        (λ l. IsResultInside sets l ns) leaders are.stay (h covers) in
        let old = any-all (IsResult (length cases) (length sets)) (λ l. IsResultInside sets l ns) leaders lead.results
        (h covers) in
        next ns found.1 (All-contains (IsResult (length cases) (length sets)) leaders found.1 lead.results
        (found.0, found.2, found.3)) found.4.1 found.4.0) listed lead.lead)
        (λ covers. next numbers numbers result (λ i l c has. has) (inl are.new));
  }
    where
      each : (P : List ℕ → Type 0) → All P leaders → P numbers → All P joined
      each P old new =
          All-weaker (λ l. Contains leaders l ⊎ (l ≡ numbers)) P
          (λ l h. elim h [ inl there ↦ All-contains P leaders l old there | inr same ↦ subst P (sym same) new ])
          joined are.from

      next : (ns leader : List ℕ) → IsResult (length cases) (length sets) leader → IsResultInside sets leader ns →
          Contains joined leader ⊎ IsResultInside sets numbers leader →
          Any (λ l. IsResultInside sets l ns) joined
      next ns leader is inside (inl there) = (there.0, leader, there.1, there.2, inside)
      next ns leader is inside (inr below) = (
        are.new.0,
        numbers,
        are.new.1,
        are.new.2,
        inside-trans sets numbers leader ns (result.counted ∙ sym is.counted) below inside,
      )
