-- A loop over signatures that all fit so far.
use Rattle.std.proofs.Common.{◌≡◌, ℕ, zero, suc, ◌+◌, ◌<◌, List, [], ◌∷◌, get_or, length, take, refl, sym, ap, ◌∙◌}
use Rattle.std.proofs.Common.{subst, arith, inl, inr}
use Rattle.std.specs.Prelude.{Option, Some, slice_get}
use Rattle.std.proofs.lemmas.Bool.{cases_lt}
use Rattle.std.proofs.lemmas.Option.{slice_get_read}
use Rattle.am_flow.specs.declared.signature.Signature.{Signature}
use Rattle.am_flow.specs.Flows.{AllFit, Fits, Flow}

-- an item of a front is one of the whole
of_front : {A : Type 0} (n : ℕ) (xs : List A) (j : ℕ) (x : A) → slice_get (take n xs) j ≡ Some x →
    (j < n) × (slice_get xs j ≡ Some x)
of_front zero xs j x e = absurd cc
of_front (suc n) [] j x e = absurd cc
of_front (suc n) (y ∷ xs) zero x e = (omega arith, e)
of_front (suc n) (y ∷ xs) (suc j) x e = let h = of_front n xs j x e in (omega (arith, h.0), h.1)

in_front : {A : Type 0} (n : ℕ) (xs : List A) (j : ℕ) (x : A) → j < n → slice_get xs j ≡ Some x →
    slice_get (take n xs) j ≡ Some x
in_front zero xs j x h e = absurd (omega arith)
in_front (suc n) [] j x h e = absurd cc
in_front (suc n) (y ∷ xs) zero x h e = e
in_front (suc n) (y ∷ xs) (suc j) x h e = in_front n xs j x (omega arith) e

-- one more signature fits
pub AllFit-more : (f : Flow) (signatures : List Signature) (i : ℕ) (s : Signature) → i < length signatures →
    s ≡ get_or signatures i s → AllFit f (take i signatures) → Fits f i s → AllFit f (take (i + 1) signatures)
AllFit-more f signatures i s below here all fits j t e =
    let whole = of_front (i + 1) signatures j t e in
    elim (cases_lt j i) [
      | inl less ↦ all j t (in_front i signatures j t less whole.1)
      | inr past ↦
          let same : j ≡ i = omega (arith, whole.0, past) in
          let item : slice_get signatures i ≡ Some s =
          slice_get_read signatures (length signatures) i s refl below here in
          let is : ◌≡◌ {A = Option Signature} (Some s) (Some t) =
          sym item ∙ ap (slice_get signatures) (sym same) ∙ whole.1 in
          let one : s ≡ t = cc in
          subst (λ (n : ℕ). Fits f n t) (sym same) (subst (Fits f i) one fits)
    ]
