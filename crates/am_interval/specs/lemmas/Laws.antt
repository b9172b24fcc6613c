-- The laws of the domain of intervals, for each reading of words as whole numbers.
use Rattle.std.proofs.Common.{◌≡◌, ◌≢◌, ℕ, ◌-◌, ◌^◌, ◌<◌, inl, inr, true, false, refl, arith, ℤ, ◌≤ℤ◌, int_le, List, []}
use Rattle.std.proofs.Common.{◌∷◌, length, Bool, Some, None, if◌then◌else◌, MatchOption}
use Rattle.std.proofs.lemmas.Int.{ints}
use Rattle.am_bv.specs.Words.{IsWidth}
use Rattle.am_bv.specs.declared.op.Op.{Op}
use Rattle.am_domain.specs.Meaning.{IsAbstract}
use Rattle.am_domain.specs.Laws.{HasMembers, HasTop, HoldsWords, JoinsAbove, Descends, Tidies}
use Rattle.am_domain.proofs.Laws.{pair-IsTuple}
use Rattle.am_interval.specs.Intervals.{Reading, least, greatest, IsBetween, intervals, hull, words_outside}
use Rattle.am_interval.specs.Domains.{interval_domain}
use Rattle.am_interval.specs.lemmas.Numbers.{IsTop, fewer_outside, lesser-IsLesser, greater-IsGreater}

-- a tuple of two words is the list of its ends
pair-ends : (a : List ℕ) → length a ≡ 2 → least a ∷ greatest a ∷ [] ≡ a
pair-ends [] e = absurd (omega (arith, e))
pair-ends (c ∷ []) e = absurd (omega (arith, e))
pair-ends (c ∷ d ∷ []) e = refl
pair-ends (c ∷ d ∷ x ∷ a) e = absurd (omega (arith, e))

le-refl : (x : ℤ) → x ≤ℤ x
le-refl x = omega (arith, ints)

module _ (number : Reading) (top : ℕ → List ℕ) (at_most : Op) where
  -- each interval has its least end as a member
  pub has_members : HasMembers (interval_domain number top at_most)
  has_members w width a h = (h.tuple.words 0, (le-refl _, h.valid))

  -- the interval from a word to itself has that word
  pub holds_words : HoldsWords (interval_domain number top at_most)
  holds_words w width c h = (record { tuple = pair-IsTuple w c c h h; valid = le-refl _ }, (le-refl _, le-refl _))

  -- the hull of two intervals has the members of both
  pub joins_above : JoinsAbove (interval_domain number top at_most)
  joins_above w width a b ha hb =
      let low = lesser-IsLesser number w (least a) (least b) in
      let high = greater-IsGreater number w (greatest a) (greatest b) in
      record {
        value = record {
          tuple =
              pair-IsTuple w _ _ (low.word (ha.tuple.words 0) (hb.tuple.words 0))
              (high.word (ha.tuple.words 1) (hb.tuple.words 1));
          valid = omega (arith, ints, low.first, high.first, ha.valid);
        };
        first = λ c below between.
            (omega (arith, ints, low.first, between.0), omega (arith, ints, high.first, between.1));
        second = λ c below between.
            (omega (arith, ints, low.second, between.0), omega (arith, ints, high.second, between.1));
      }

  -- a tuple whose first end is at most its last is an interval, and another has no members
  pub tidies : Tidies (interval_domain number top at_most)
  tidies w width raw h = go (int_le (number w (least raw)) (number w (greatest raw))) refl
    where
      go : (b : Bool) → int_le (number w (least raw)) (number w (greatest raw)) ≡ b →
          MatchOption (if b then Some raw else None) ((c : ℕ) → c < 2 ^ w → ¬ IsBetween number w raw c)
          (λ a. IsAbstract (intervals number) w a
          × ((c : ℕ) → c < 2 ^ w → IsBetween number w raw c → IsBetween number w a c))
      go true e = (record { tuple = h; valid = grind (arith, ints, e) }, λ c below between. between)
      go false e = λ c below between. grind (arith, ints, e, between.0, between.1)

module _ (number : Reading) (top : ℕ → List ℕ) (at_most : Op)
    (is_top : (w : ℕ) → IsWidth w → IsTop number w (top w)) where
  -- the interval of all words has each word
  pub has_top : HasTop (interval_domain number top at_most)
  has_top w width =
      let t = is_top w width in
      (record { tuple = t.tuple; valid = t.above _ (t.tuple.words 1) }, λ c below. (t.above c below, t.below c below))

  -- a hull that isn't the first interval leaves fewer words outside
  falls : (w : ℕ) → IsWidth w → (a b : List ℕ) → IsAbstract (intervals number) w a → IsAbstract (intervals number) w b →
      hull number w a b ≢ a → words_outside number w (hull number w a b) < words_outside number w a
  falls w width a b ha hb changed =
      let t = is_top w width in
      let joined = (joins_above number top at_most w width a b ha hb).value.tuple in
      let low = lesser-IsLesser number w (least a) (least b) in
      let high = greater-IsGreater number w (greatest a) (greatest b) in
      let fewer = fewer_outside (2 ^ w - 1) (number w (least (top w))) (number w (greatest (top w))) _ _ _ _
      t.most (t.above _ (joined.words 0)) (t.below _ (joined.words 1)) ha.valid low.first high.first in
      elim low.strict [
        | inl h ↦ fewer (inl h)
        | inr h ↦ elim high.strict
            [ inl k ↦ fewer (inr k) | inr k ↦ absurd (changed (rw (h, k) (pair-ends a ha.tuple.counted))) ]
      ]

  -- the words outside an interval, which are below 2 ^ w, get fewer with each hull that changes it
  pub descends : Descends (interval_domain number top at_most)
  descends = record { most = λ w width a h. omega arith; falls = falls }
