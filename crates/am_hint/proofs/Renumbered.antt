-- The clauses of a log's chains at the numbers of their hints.
use Rattle.std.proofs.Common.{ℕ, zero, suc, ◌≡◌, ◌+◌, ◌-◌, ◌<◌, ◌≤◌, Bool, true, false, cond, ltb, List, [], ◌∷◌, ◌++◌}
use Rattle.std.proofs.Common.{get_or, length, refl, sym, ap, ◌∙◌, inl, inr, append_assoc, append-nil, length-append}
use Rattle.std.proofs.Common.{arith}
use Rattle.std.specs.Prelude.{Some, slice_get}
use Rattle.std.proofs.lemmas.Bool.{ltb-true, ltb-false}
use Rattle.std.proofs.lemmas.List.{get_or_append_left}
use Rattle.std.proofs.lemmas.Option.{slice_get_within}
use Rattle.std.proofs.Math.Seq.{get_or-append_seam}
use Rattle.am_lit.specs.UnitRow.{IsConsistent}
use Rattle.am_lit.proofs.Laws.{Contains-nil, same_or}
use Rattle.am_hint.specs.inside.Translated.{AreMoved, new_number}
use Rattle.am_hint.proofs.CutChains.{slice_get-append}

slice_get-right : {X : Type 0} (xs ys : List X) (n m : ℕ) → m ≡ length xs + n → slice_get (xs ++ ys) m ≡ slice_get ys n
slice_get-right [] ys n m e = let same : m ≡ n = omega arith in rw same refl
slice_get-right (x ∷ xs) ys n zero e = absurd (omega arith)
slice_get-right (x ∷ xs) ys n (suc m) e = slice_get-right xs ys n m (omega arith)

slice_get-left : {X : Type 0} (xs ys : List X) (n : ℕ) → n < length xs → slice_get (xs ++ ys) n ≡ slice_get xs n
slice_get-left [] ys n lt = absurd (omega arith)
slice_get-left (x ∷ xs) ys zero lt = refl
slice_get-left (x ∷ xs) ys (suc n) lt = slice_get-left xs ys n (omega arith)

module _ (given derived hinted : List (List ℕ)) (numbers : List ℕ) (are : AreMoved given derived hinted numbers) where
  -- a clause without both signs of a variable stands at its new number
  pub moved_there : (first n : ℕ) (c : List ℕ) → first ≡ length given → slice_get (given ++ derived) n ≡ Some c
      → IsConsistent c
      → slice_get (given ++ hinted) (new_number (record { given = first; chains = numbers }) n) ≡ Some c
  moved_there first n c same there apart =
      rw same (go (ltb n (length given)) (ltb-true n (length given)) (ltb-false n (length given))) where
        go : (b : Bool) → (b ≡ true → n < length given) → (b ≡ false → length given ≤ n)
            → slice_get (given ++ hinted) (cond b n (get_or numbers (n - length given) 0)) ≡ Some c
        go true lt ge = slice_get-left given hinted n (lt refl) ∙ sym (slice_get-left given derived n (lt refl)) ∙ there
        go false lt ge =
            let past : length given ≤ n = ge refl in
            let e : n ≡ length given + (n - length given) = omega arith in
            are.at (n - length given) c (sym (slice_get-right given derived (n - length given) n e) ∙ there) apart

  last_is : (before : List (List ℕ)) (c : List ℕ) (xs : List (List ℕ)) → xs ++ c ∷ [] ≡ before ++ [] ∷ [] → c ≡ []
  last_is before c xs e =
      sym (get_or-append_seam xs c [] c) ∙ ap (λ l. get_or l (length xs) c) e
      ∙ ap (λ n. get_or (before ++ [] ∷ []) n c) same ∙ get_or-append_seam before [] [] c where
        same : length xs ≡ length before
        same = omega (arith, ap length e, length-append xs (c ∷ []), length-append before ([] ∷ []))

  at_pushed : (more : List (List ℕ)) (c : List ℕ) (number : ℕ)
      → (IsConsistent c → slice_get (given ++ (hinted ++ more)) number ≡ Some c)
      → (j : ℕ) (d : List ℕ) → slice_get (derived ++ c ∷ []) j ≡ Some d → IsConsistent d
      → slice_get (given ++ (hinted ++ more)) (get_or (numbers ++ number ∷ []) j 0) ≡ Some d
  at_pushed more c number here j d there apart = elim (same_or j (length derived)) [
    | inl e ↦
        let seam : slice_get (derived ++ c ∷ []) j ≡ Some c = slice_get-right derived (c ∷ []) 0 j (omega arith) in
        let same : c ≡ d = (let both = sym seam ∙ there in cc) in
        let last : get_or (numbers ++ number ∷ []) j 0 ≡ number =
        ap (λ n. get_or (numbers ++ number ∷ []) n 0) (e ∙ sym are.long) ∙ get_or-append_seam numbers number [] 0 in
        rw last (rw (← same) (here (rw (← same) at apart)))
    | inr ne ↦
        let lt : j < length derived =
        omega (arith, slice_get_within (derived ++ c ∷ []) j d there, length-append derived (c ∷ [])) in
        let old : slice_get derived j ≡ Some d = sym (slice_get-left derived (c ∷ []) j lt) ∙ there in
        let same : get_or (numbers ++ number ∷ []) j 0 ≡ get_or numbers j 0 =
        get_or_append_left numbers (number ∷ []) 0 j (omega (arith, are.long)) in
        rw (same, ← append_assoc given hinted more)
        (slice_get-append (given ++ hinted) more (get_or numbers j 0) d (are.at j d old apart))
  ]

  longer : (c : List ℕ) (number : ℕ) → length (numbers ++ number ∷ []) ≡ length (derived ++ c ∷ [])
  longer c number = omega (arith, length-append numbers (number ∷ []), length-append derived (c ∷ []), are.long)

  -- a clause without both signs of a variable gets a hint
  pub push_hinted : (c : List ℕ) (number : ℕ) → number ≡ length given + length hinted
      → AreMoved given (derived ++ c ∷ []) (hinted ++ c ∷ []) (numbers ++ number ∷ [])
  push_hinted c number is = record {
    long = longer c number;
    at =
        at_pushed (c ∷ []) c number (λ apart. slice_get-right given (hinted ++ c ∷ []) (length hinted) number is
        ∙ slice_get-right hinted (c ∷ []) 0 (length hinted) (omega arith));
    ends = λ e. (hinted, ap (λ x. hinted ++ x ∷ []) (last_is e.0 c derived e.1));
  }

  -- another clause gets none
  pub push_left_out : (c : List ℕ) (number : ℕ) → ¬ (IsConsistent c)
      → AreMoved given (derived ++ c ∷ []) hinted (numbers ++ number ∷ [])
  push_left_out c number twice = record {
    long = longer c number;
    at = λ j d there apart. rw (append-nil hinted) at (at_pushed [] c number (λ h. absurd (twice h)) j d there apart);
    ends = λ e. absurd (twice (rw (last_is e.0 c derived e.1) (λ l h. absurd (Contains-nil l h))));
  }

-- nothing is derived or hinted before the first chain
pub none_moved : (given : List (List ℕ)) → AreMoved given [] [] []
none_moved given = record { long = refl; at = λ j c there. cc; ends = λ e. e }
