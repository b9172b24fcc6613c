-- Taking a variable leaves fewer held ones.
use Rattle.std.proofs.Common.{ℕ, ◌≡◌, ◌≢◌, ◌<◌, ◌≤◌, Bool, true, false, eqb, List, ◌∷◌, All, length, refl, sym, ◌∙◌}
use Rattle.std.proofs.Common.{inl, inr, arith}
use Rattle.std.specs.Prelude.{Contains}
use Rattle.std.specs.Bool.{Decides}
use Rattle.std.specs.Cmp.{IsEquivalence}
use Rattle.std.specs.List.{AllPairs}
use Rattle.std.specs.List.Sorted.{IsStrictlyIncreasing}
use Rattle.std.proofs.lemmas.Bool.Decides.{Decides-eqb}
use Rattle.std.proofs.lemmas.List.Elements.{All-contains, All-contains_itself, All-weaker}
use Rattle.std.proofs.lemmas.List.Kept.{AllPairs-cons, AllPairs-from_increasing}
use Rattle.std.proofs.lemmas.Map.Made.{length-le_from_is_member, IsDistinct-from_AllPairs, is_member-Decides}
use Rattle.am_lit.proofs.Laws.{Contains-cons_cases}
use Rattle.am_trail.specs.Orders.{HoldsAllBut, Ranked}

agree : (a b c d : ℕ) → (a ≡ b → c ≡ d) → (c ≡ d → a ≡ b) → eqb a b ≡ eqb c d
agree a b c d f g = go (eqb a b) (eqb c d) (Decides-eqb a b) (Decides-eqb c d) where
  go : (r s : Bool) → Decides r (a ≡ b) → Decides s (c ≡ d) → r ≡ s
  go true true h k = refl
  go false false h k = refl
  go true false h k = sym (k.1 (f (h.0 refl)))
  go false true h k = h.1 (g (k.0 refl))

equal_numbers : IsEquivalence eqb
equal_numbers = record {
  refl = λ x. (Decides-eqb x x).1 refl;
  symm = λ x y. agree x y y x sym sym;
  congr = λ x y z h. let e = (Decides-eqb x y).0 h in agree x z y z (λ f. sym e ∙ f) (λ f. e ∙ f);
}

-- different numbers of a list are no more than it has
few_numbers : (xs ys : List ℕ) → AllPairs (λ c d. c ≢ d) xs → All (Contains ys) xs → length xs ≤ length ys
few_numbers xs ys apart within =
    length-le_from_is_member equal_numbers xs ys (IsDistinct-from_AllPairs Decides-eqb xs apart)
    (λ q h. (is_member-Decides Decides-eqb ys q).1
    (All-contains (Contains ys) xs q within ((is_member-Decides Decides-eqb xs q).0 h)))

-- taking a variable leaves fewer held ones
pub shorter_held : (v : ℕ) (old new : Ranked) → HoldsAllBut v old new → IsStrictlyIncreasing new.held
    → Contains old.held v → length new.held < length old.held
shorter_held v old new but rises there =
    let apart : AllPairs (λ c d. c ≢ d) new.held =
    (λ i j d lt inside e. let less = AllPairs-from_increasing new.held rises i j d lt inside in omega arith) in
    let first : All (λ w. v ≢ w) new.held =
    All-weaker (Contains new.held) (λ w. v ≢ w) (λ w h e. ((but.held w).0 h).1 (sym e)) new.held
    (All-contains_itself new.held) in
    let few = few_numbers (v ∷ new.held) old.held (AllPairs-cons (λ c d. c ≢ d) v new.held first apart)
    (λ k d lt. within k d lt) in
    omega arith where
      within : All (Contains old.held) (v ∷ new.held)
      within = All-weaker (Contains (v ∷ new.held)) (Contains old.held)
          (λ w h. elim (Contains-cons_cases v new.held w h) [
            | inl e ↦ rw (← e) there
            | inr t ↦ ((but.held w).0 t).0
          ]) (v ∷ new.held) (All-contains_itself (v ∷ new.held))
