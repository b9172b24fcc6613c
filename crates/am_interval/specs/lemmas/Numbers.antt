-- What the two readings of words have in common, and what the lesser and the greater of two words are.
use Rattle.std.proofs.Common.{◌≡◌, ℕ, ◌+◌, ◌-◌, ◌^◌, ◌<◌, ◌≤◌, ◌⊎◌, inl, inr, Bool, true, false, refl, arith, ℤ, pos}
use Rattle.std.proofs.Common.{negsuc, ◌+ℤ◌, ◌≤ℤ◌, ◌<ℤ◌, int_lt, ap, ◌∙◌, suc, if◌then◌else◌, List}
use Rattle.std.proofs.Math.Nat.{two-pow-succ}
use Rattle.std.proofs.lemmas.Nat.{pow_pos}
use Rattle.std.proofs.lemmas.Int.{ints}
use Rattle.std.proofs.lemmas.Bool.Decides.{nat_tests}
use Rattle.std.specs.Int.{int_gap}
use Rattle.am_bv.specs.Words.{signed}
use Rattle.am_domain.specs.Tuple.{IsTuple}
use Rattle.am_domain.proofs.Laws.{pair-IsTuple}
use Rattle.am_interval.specs.Intervals.{Reading, unsigned, unsigned_top, signed_top, least, greatest, lesser, greater}

-- two words are a tuple
pub ruleset tuples = (pair-IsTuple)

-- each word's number is between the numbers of the ends, which are 2 ^ w - 1 apart at most
pub record IsTop (number : Reading) (w : ℕ) (a : List ℕ) : Type 0 where
  pub tuple : IsTuple w 2 a
  pub above : (c : ℕ) → c < 2 ^ w → number w (least a) ≤ℤ number w c
  pub below : (c : ℕ) → c < 2 ^ w → number w c ≤ℤ number w (greatest a)
  pub most : number w (greatest a) ≤ℤ (number w (least a) +ℤ pos (2 ^ w - 1))

-- the interval of all words in unsigned order has all words
pub unsigned_top-IsTop : (w : ℕ) → IsTop unsigned w (unsigned_top w)
unsigned_top-IsTop w =
    let h = pow_pos w in
    record {
      tuple = pair-IsTuple w 0 (2 ^ w - 1) h (omega (arith, h));
      above = λ c below. omega (arith, ints);
      below = λ c below. omega (arith, ints, below);
      most = omega (arith, ints);
    }

-- half of the words have a top bit and half have none
pub halved : (w : ℕ) → 2 ≤ w → 2 ^ w ≡ 2 ^ (w - 1) + 2 ^ (w - 1)
halved w h = let e : w ≡ suc (w - 1) = omega arith in ap (λ k. 2 ^ k) e ∙ two-pow-succ (w - 1)

-- the signed number of a word, by its top bit
pub signed_cases : (w c : ℕ) →
    ((c < 2 ^ (w - 1)) × (signed w c ≡ pos c)) ⊎ ((2 ^ (w - 1) ≤ c) × (signed w c +ℤ pos (2 ^ w) ≡ pos c))
signed_cases w c = grind (arith, ints, nat_tests)

-- the interval of all words in signed order has all words
pub signed_top-IsTop : (w : ℕ) → 2 ≤ w → IsTop signed w (signed_top w)
signed_top-IsTop w h =
    let half = pow_pos (w - 1) in
    let whole = halved w h in
    let bottom = signed_cases w (2 ^ (w - 1)) in
    let top = signed_cases w (2 ^ (w - 1) - 1) in
    record {
      tuple = pair-IsTuple w _ _ (omega (arith, half, whole)) (omega (arith, half, whole));
      above = λ c below. grind (arith, ints, bottom, signed_cases w c, half, whole, below);
      below = λ c below. grind (arith, ints, top, signed_cases w c, half, whole, below);
      most = grind (arith, ints, bottom, top, half, whole);
    }

-- how far a number is above a lesser one
gap-pos : (x y : ℤ) → x ≤ℤ y → x +ℤ pos (int_gap x y) ≡ y
gap-pos (pos a) (pos b) h = omega (arith, ints)
gap-pos (pos a) (negsuc b) h = omega (arith, ints)
gap-pos (negsuc a) (pos b) h = omega (arith, ints)
gap-pos (negsuc a) (negsuc b) h = omega (arith, ints)

-- fewer numbers of a range are outside a part of it once one end of the part has moved outward
pub fewer_outside : (n : ℕ) (first last x y x' y' : ℤ) → last ≤ℤ (first +ℤ pos n) → first ≤ℤ x' → y' ≤ℤ last →
    x ≤ℤ y → x' ≤ℤ x → y ≤ℤ y' → (x' <ℤ x) ⊎ (y <ℤ y') → n - int_gap x' y' < n - int_gap x y
fewer_outside n first last x y x' y' most bottom top order lower upper moved =
    let wide : x' ≤ℤ y' = omega (arith, ints) in
    let old = gap-pos x y order in
    let new = gap-pos x' y' wide in
    elim moved [ inl h ↦ omega (arith, ints) | inr h ↦ omega (arith, ints) ]

-- what the lesser of two words is
pub record IsLesser (number : Reading) (w c d least : ℕ) : Type 0 where
  pub word : c < 2 ^ w → d < 2 ^ w → least < 2 ^ w
  pub first : number w least ≤ℤ number w c
  pub second : number w least ≤ℤ number w d
  pub strict : (number w least <ℤ number w c) ⊎ (least ≡ c)

-- the lesser of two words is a word, with a number no greater than either's
pub lesser-IsLesser : (number : Reading) (w c d : ℕ) → IsLesser number w c d (lesser number w c d)
lesser-IsLesser number w c d = go (int_lt (number w d) (number w c)) refl
  where
    go : (b : Bool) → int_lt (number w d) (number w c) ≡ b → IsLesser number w c d (if b then d else c)
    go true e = record {
      word = λ _ k. k;
      first = grind (arith, ints, e);
      second = omega (arith, ints);
      strict = inl (grind (arith, ints, e));
    }
    go false e =
        record { word = λ k _. k; first = omega (arith, ints); second = grind (arith, ints, e); strict = inr refl }

-- what the greater of two words is
pub record IsGreater (number : Reading) (w c d greatest : ℕ) : Type 0 where
  pub word : c < 2 ^ w → d < 2 ^ w → greatest < 2 ^ w
  pub first : number w c ≤ℤ number w greatest
  pub second : number w d ≤ℤ number w greatest
  pub strict : (number w c <ℤ number w greatest) ⊎ (greatest ≡ c)

-- the greater of two words is a word, with a number no less than either's
pub greater-IsGreater : (number : Reading) (w c d : ℕ) → IsGreater number w c d (greater number w c d)
greater-IsGreater number w c d = go (int_lt (number w c) (number w d)) refl
  where
    go : (b : Bool) → int_lt (number w c) (number w d) ≡ b → IsGreater number w c d (if b then d else c)
    go true e = record {
      word = λ _ k. k;
      first = grind (arith, ints, e);
      second = omega (arith, ints);
      strict = inl (grind (arith, ints, e));
    }
    go false e =
        record { word = λ k _. k; first = omega (arith, ints); second = grind (arith, ints, e); strict = inr refl }
