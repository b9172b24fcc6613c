-- The laws of congruences.
use Rattle.std.proofs.Common.{◌≡◌, ◌≢◌, ℕ, ◌+◌, ◌-◌, ◌%◌, ◌^◌, ◌<◌, ◌≤◌, true, List, [], ◌∷◌, slice_index, take, ◌↔◌}
use Rattle.std.proofs.Common.{nat_lt, inl, inr, refl, sym, ap, ◌∙◌, arith, bit_and, bit_xor, count_ones, lit≤}
use Rattle.std.proofs.lemmas.Bool.{lt-ltb}
use Rattle.std.proofs.lemmas.Nat.{pow_pos, and_mask, and_le_l, and_le_r, xor_lt, ones-le}
use Rattle.std.proofs.lemmas.Nat.Bits.{bit_at-lt, bit_at-zero, bit_at_and, bit_at_xor, same_from_bits}
use Rattle.std.specs.Int.{bit_at}
use Rattle.am_bv.proofs.Laws.{one_is_word, fits-Node, fits-Const, fits-Field, nodes-Node, nodes-Const, nodes-Field}
use Rattle.am_bv.proofs.Laws.{val-Const, val-Field}
use Rattle.am_bv.specs.Terms.{val}
use Rattle.am_bv.specs.Words.{complement}
use Rattle.am_domain.specs.Tuple.{IsTuple}
use Rattle.am_domain.specs.Meaning.{IsAbstract}
use Rattle.am_domain.specs.Laws.{HasMembers, HasTop, HoldsWords, JoinsAbove, Descends, Tidies, TellsValidity}
use Rattle.am_domain.specs.Laws.{TellsMembership, KeepsLaws}
use Rattle.am_bits.specs.lemmas.Bits.{bit_cases, set_bits, same_bits, bit_at-without, below_power, fewer_ones}
use Rattle.am_bits.specs.lemmas.Masks.{mask_by_next, kept_by_mask, within_mask, low-within, low-mask}
use Rattle.am_domain.proofs.Laws.{pair-IsTuple, by_two, by_three}
use Rattle.am_bv.proofs.Laws.{val-unary, val-binary}
use Rattle.am_bits.specs.lemmas.Terms.{equality-tells, equalities-tell, iff-trans}
use Rattle.am_bits.specs.Congruences.{all_congruences, congruences, mask, residue, IsMask, IsCongruence, IsCongruent}
use Rattle.am_bits.specs.Congruences.{low, agreed, modulo, congruence_join, congruence_valid_term}
use Rattle.am_bits.specs.Congruences.{congruence_member_term}

-- a mask and a residue that is at most the mask are a value
value : (w m r : ℕ) → m < 2 ^ w → IsMask w m → r ≤ m → IsAbstract congruences w (m ∷ r ∷ [])
value w m r h masked within =
    record { tuple = pair-IsTuple w m r h (omega arith); valid = record { masked = masked; within = within } }

-- a residue modulo the low ones of a word
low_value : (w x r : ℕ) → x < 2 ^ w → IsAbstract congruences w (modulo (low x) r)
low_value w x r h =
    value w (low x) (bit_and r (low x)) (omega (arith, low-within x, and_le_l x (low x), h)) (low-mask x w h)
    (and_le_r r (low x))

-- the low ones of a word are bits of it
low_bit : (x i : ℕ) → bit_at (low x) i ≡ 1 → bit_at x i ≡ 1
low_bit x = (set_bits x (low x)).0 (low-within x)

-- a word that agrees with a number on a mask agrees with the number's residue
residue_bit : (m r i : ℕ) → bit_at m i ≡ 1 → bit_at r i ≡ bit_at (bit_and r m) i
residue_bit m r i h = omega (arith, bit_at_and r m i, bit_at-lt r i)

has_members : HasMembers all_congruences
has_members w width a abstract = (abstract.tuple.words 1, λ i h. refl)

has_top : HasTop all_congruences
has_top w width = (
  value w 0 0 (pow_pos w) (0, omega arith, omega arith) (omega arith),
  λ c below i h. absurd (omega (arith, h, bit_at-zero i)),
)

holds_words : HoldsWords all_congruences
holds_words w width c below = (
  value w (2 ^ w - 1) c (omega (arith, pow_pos w)) (w, omega arith, omega (arith, pow_pos w)) (omega arith),
  λ i h. refl,
)

module _ (w : ℕ) (a b : List ℕ) (first : IsAbstract congruences w a) (second : IsAbstract congruences w b) where
  -- the bits that agree are a word
  agreed-word : agreed w a b < 2 ^ w
  agreed-word =
      omega (
        arith,
        and_le_l (bit_and (mask a) (mask b)) (complement w (bit_xor (residue a) (residue b))),
        and_le_l (mask a) (mask b),
        first.tuple.words 0,
      )

  -- the residues agree on a bit of both masks
  record Agrees (i : ℕ) : Type 0 where
    in_first : bit_at (mask a) i ≡ 1
    in_second : bit_at (mask b) i ≡ 1
    same : bit_at (residue a) i ≡ bit_at (residue b) i

  agrees : (i : ℕ) → bit_at (low (agreed w a b)) i ≡ 1 → Agrees i
  agrees i h =
      let both = bit_and (mask a) (mask b) in
      let differ = bit_xor (residue a) (residue b) in
      let both_word : both < 2 ^ w = omega (arith, and_le_l (mask a) (mask b), first.tuple.words 0) in
      let bit = low_bit (agreed w a b) i h in
      let parts = bit_at-without w both differ i both_word
      (xor_lt w (residue a) (residue b) (first.tuple.words 1) (second.tuple.words 1)) in
      let masks = bit_at_and (mask a) (mask b) i in
      let residues = bit_at_xor (residue a) (residue b) i in
      record {
        in_first = omega (arith, bit_at-lt (mask a) i);
        in_second = omega (arith, bit_at-lt (mask b) i);
        same = omega (arith, bit_at-lt (residue a) i, bit_at-lt (residue b) i);
      }

  -- the join is the first value where it keeps the mask
  unchanged : low (agreed w a b) ≡ mask a → congruence_join w a b ≡ a
  unchanged whole =
      let kept : bit_and (residue a) (mask a) ≡ residue a =
      kept_by_mask w (residue a) (mask a) first.valid.masked first.valid.within in
      let same : a ≡ mask a ∷ residue a ∷ [] =
      by_two (λ a. a ≡ mask a ∷ residue a ∷ []) (λ x y. refl) a first.tuple.counted in
      ap (λ m. modulo m (residue a)) whole ∙ ap (λ r. mask a ∷ r ∷ []) kept ∙ sym same

  -- a join that changes the first value has a smaller mask
  fewer_known : congruence_join w a b ≢ a → count_ones (low (agreed w a b)) < count_ones (mask a)
  fewer_known changed =
      let part : bit_and (mask a) (low (agreed w a b)) ≡ low (agreed w a b) =
      (set_bits (mask a) (low (agreed w a b))).1 (λ i h. (agrees i h).in_first) in
      omega (
        arith,
        fewer_ones (mask a) (low (agreed w a b)) (λ e. changed (unchanged (sym part ∙ e))),
        ap count_ones part,
      )

joins_above : JoinsAbove all_congruences
joins_above w width a b first second =
    let m = low (agreed w a b) in
    record {
      value = low_value w (agreed w a b) (residue a) (agreed-word w a b first second);
      first = λ c below h i k. let e = agrees w a b first second i k in h i e.in_first ∙ residue_bit m (residue a) i k;
      second = λ c below h i k.
          let e = agrees w a b first second i k in h i e.in_second ∙ sym e.same ∙ residue_bit m (residue a) i k;
    }

descends : Descends all_congruences
descends = record {
  most = λ w width a abstract. omega (arith, ones-le w (mask a) (abstract.tuple.words 0), below_power w);
  falls = λ w width a b first second changed. fewer_known w a b first second changed;
}

tidies : Tidies all_congruences
tidies w width raw tuple = (
  low_value w (mask raw) (residue raw) (tuple.words 0),
  λ c below h i k. h i (low_bit (mask raw) i k) ∙ residue_bit (low (mask raw)) (residue raw) i k,
)

-- the two tests of validity
congruence_by_tests : (w m r : ℕ) → m < 2 ^ w → r < 2 ^ w →
    ((bit_and m ((m + 1) % 2 ^ w) ≡ 0) × (bit_and r (complement w m) ≡ 0)) ↔ IsCongruence w (m ∷ r ∷ [])
congruence_by_tests w m r h k =
    let masks = mask_by_next w w m h h in (
      λ tests.
          let masked = masks.0 tests.0 in record { masked = masked; within = (within_mask w r m masked k h).0 tests.1 },
      λ valid. (masks.1 valid.masked, (within_mask w r m valid.masked k h).1 valid.within),
    )

tells_validity : TellsValidity all_congruences
tells_validity w width =
    let zero_word : nat_lt 0 (2 ^ w) ≡ true = lt-ltb 0 (2 ^ w) (pow_pos w) in
    let one_word : nat_lt 1 (2 ^ w) ≡ true = lt-ltb 1 (2 ^ w) (one_is_word w width.0) in
    record {
      fit = simp (fits-Node, fits-Const, fits-Field, zero_word, one_word);
      small = simp (nodes-Node, nodes-Const, nodes-Field) (lit≤ tt);
      tells = λ env tuple. by_two (λ env. IsTuple w 2 env → (val w congruence_valid_term env ≢ 0) ↔ IsCongruence w env)
          (λ m r pair.
          let masked = bit_and m ((m + 1) % 2 ^ w) in
          let outside = bit_and r (complement w m) in
          simp (val-unary, val-binary, val-Const, val-Field)
          (iff-trans (equalities-tell masked 0 outside 0) (congruence_by_tests w m r (pair.words 0) (pair.words 1))))
          env tuple.counted tuple;
    }

tells_membership : TellsMembership all_congruences
tells_membership w width =
    let zero_word : nat_lt 0 (2 ^ w) ≡ true = lt-ltb 0 (2 ^ w) (pow_pos w) in
    record {
      fit = simp (fits-Node, fits-Const, fits-Field, zero_word);
      small = simp (nodes-Node, nodes-Const, nodes-Field) (lit≤ tt);
      tells = λ env tuple.
          by_three (λ env. (val w congruence_member_term env ≢ 0) ↔ IsCongruent (take 2 env) (slice_index env 2))
          (λ m r c. simp (val-binary, val-Const, val-Field)
          (iff-trans (equality-tells (bit_and (bit_xor c r) m) 0) (same_bits c r m)))
          env tuple.counted;
    }

-- the members of a congruence are the words with its residue as their remainder
pub congruent-remainder : (w : ℕ) (a : List ℕ) (c : ℕ) → IsCongruence w a →
    IsCongruent a c ↔ (c % (mask a + 1) ≡ residue a)
congruent-remainder w a c valid = (
  λ h. remainder ∙ same_from_bits _ _ (λ i. elim (bit_cases (mask a) i) [
    | inl zero_bit ↦ omega (arith, bit_at_and c (mask a) i, bit_at_and (residue a) (mask a) i)
    | inr one_bit ↦ omega (arith, bit_at_and c (mask a) i, bit_at_and (residue a) (mask a) i, h i one_bit)
  ]) ∙ kept,
  λ e i one_bit. omega (
    arith,
    bit_at_and c (mask a) i,
    bit_at_and (residue a) (mask a) i,
    bit_at-lt c i,
    bit_at-lt (residue a) i,
    ap (λ n. bit_at n i) (sym remainder ∙ e ∙ sym kept),
  ),
)
  where
    kept : bit_and (residue a) (mask a) ≡ residue a
    kept = kept_by_mask w (residue a) (mask a) valid.masked valid.within

    remainder : c % (mask a + 1) ≡ bit_and c (mask a)
    remainder =
        let e : mask a ≡ 2 ^ valid.masked.0 - 1 = omega (arith, valid.masked.2) in
        ap (λ n. c % n) valid.masked.2 ∙ sym (ap (bit_and c) e ∙ and_mask c valid.masked.0)

-- all laws of a domain hold
pub congruence_laws : KeepsLaws all_congruences
congruence_laws = record {
  has_fields = lit≤ tt;
  few_fields = lit≤ tt;
  has_members = has_members;
  has_top = has_top;
  holds_words = holds_words;
  joins_above = joins_above;
  descends = descends;
  tidies = tidies;
  tells_validity = tells_validity;
  tells_membership = tells_membership;
}
