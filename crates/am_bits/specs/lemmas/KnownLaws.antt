-- The laws of known bits.
use Rattle.std.proofs.Common.{◌≡◌, ◌≢◌, ℕ, ◌^◌, ◌<◌, Bool, true, false, cond, List, [], ◌∷◌, slice_index, take, ◌↔◌}
use Rattle.std.proofs.Common.{nat_lt, inl, inr, refl, sym, ap, ◌∙◌, arith, ◌==◌, bit_and, count_ones, lit≤}
use Rattle.std.specs.declared.option.Option.TheVariants.{Some, None}
use Rattle.std.proofs.lemmas.Bool.{cases_lt, eqb-true, eqb-false, lt-ltb}
use Rattle.std.proofs.lemmas.Nat.{pow_pos, and_le_l, ones-le}
use Rattle.std.proofs.lemmas.Nat.Bits.{bit_at-lt, bit_at-zero, bit_at_and, bit_at_above}
use Rattle.std.specs.Int.{bit_at}
use Rattle.std.specs.Option.{MatchOption}
use Rattle.am_bv.proofs.Laws.{fits-Node, fits-Const, fits-Field, nodes-Node, nodes-Const, nodes-Field, val-Const}
use Rattle.am_bv.proofs.Laws.{val-Field}
use Rattle.am_bv.specs.Terms.{val}
use Rattle.am_bv.specs.Words.{complement}
use Rattle.am_domain.specs.Tuple.{IsTuple}
use Rattle.am_domain.specs.Meaning.{IsAbstract}
use Rattle.am_domain.specs.Laws.{HasMembers, HasTop, HoldsWords, JoinsAbove, Descends, Tidies, TellsValidity}
use Rattle.am_domain.specs.Laws.{TellsMembership, KeepsLaws}
use Rattle.am_bits.specs.lemmas.Bits.{bit_cases, disjoint_bits, clear_bits, set_bits, bit_at-complement, below_power}
use Rattle.am_bits.specs.lemmas.Bits.{kept_or_fewer}
use Rattle.am_domain.proofs.Laws.{pair-IsTuple, by_two, by_three}
use Rattle.am_bv.proofs.Laws.{val-binary}
use Rattle.am_bits.specs.lemmas.Terms.{equality-tells, equalities-tell, iff-trans}
use Rattle.am_bits.specs.KnownBits.{all_known_bits, known_bits, known_zeros, ones, IsKnown, HasKnown, known_valid_term}
use Rattle.am_bits.specs.KnownBits.{known_member_term}

-- two words without a common bit are a value
value : (w z o : ℕ) → z < 2 ^ w → o < 2 ^ w → IsKnown (z ∷ o ∷ []) → IsAbstract known_bits w (z ∷ o ∷ [])
value w z o h k known = record { tuple = pair-IsTuple w z o h k; valid = known }

-- the two tests of membership
pub known_by_tests : (a : List ℕ) (c : ℕ) → ((bit_and c (known_zeros a) ≡ 0) × (bit_and c (ones a) ≡ ones a)) ↔ HasKnown
    a c
known_by_tests a c = (
  λ h. record { clear = (clear_bits c (known_zeros a)).0 h.0; set = (set_bits c (ones a)).0 h.1 },
  λ h. ((clear_bits c (known_zeros a)).1 h.clear, (set_bits c (ones a)).1 h.set),
)

has_members : HasMembers all_known_bits
has_members w width a abstract = (
  abstract.tuple.words 1,
  record {
    clear = λ i z. elim (bit_cases (ones a) i) [ inl e ↦ e | inr e ↦ absurd (abstract.valid i (z, e)) ];
    set = λ i o. o;
  },
)

has_top : HasTop all_known_bits
has_top w width = (
  value w 0 0 (pow_pos w) (pow_pos w) (λ i both. omega (arith, both.0, bit_at-zero i)),
  λ c below. record {
    clear = λ i h. absurd (omega (arith, h, bit_at-zero i));
    set = λ i h. absurd (omega (arith, h, bit_at-zero i));
  },
)

-- a bit of a word isn't one of its complement
apart : (w c i : ℕ) → c < 2 ^ w → bit_at (complement w c) i ≡ 1 → bit_at c i ≡ 0
apart w c i h z =
    elim (cases_lt i w) [
      | inl below ↦ omega (arith, z, bit_at-complement w c i h below, bit_at-lt c i)
      | inr above ↦ bit_at_above c w i h above
    ]

holds_words : HoldsWords all_known_bits
holds_words w width c below = (
  value w (complement w c) c (omega (arith, pow_pos w)) below
      (λ i both. omega (arith, apart w c i below both.0, both.1)),
  record { clear = λ i z. apart w c i below z; set = λ i o. o },
)

joins_above : JoinsAbove all_known_bits
joins_above w width a b first second =
    let z : (i : ℕ) → bit_at (bit_and (known_zeros a) (known_zeros b)) i ≡ 1 → (bit_at (known_zeros a) i ≡ 1) ×
    (bit_at (known_zeros b) i ≡ 1) =
    λ i. in_both (known_zeros a) (known_zeros b) i in
    let o : (i : ℕ) → bit_at (bit_and (ones a) (ones b)) i ≡ 1 → (bit_at (ones a) i ≡ 1) × (bit_at (ones b) i ≡ 1) =
    λ i. in_both (ones a) (ones b) i in
    record {
      value =
          value w _ _ (omega (arith, and_le_l (known_zeros a) (known_zeros b), first.tuple.words 0))
          (omega (arith, and_le_l (ones a) (ones b), first.tuple.words 1))
          (λ i both. first.valid i ((z i both.0).0, (o i both.1).0));
      first = λ c below h. record { clear = λ i k. h.clear i (z i k).0; set = λ i k. h.set i (o i k).0 };
      second = λ c below h. record { clear = λ i k. h.clear i (z i k).1; set = λ i k. h.set i (o i k).1 };
    }
  where
    in_both : (m n i : ℕ) → bit_at (bit_and m n) i ≡ 1 → (bit_at m i ≡ 1) × (bit_at n i ≡ 1)
    in_both m n i h =
        (omega (arith, h, bit_at_and m n i, bit_at-lt m i), omega (arith, h, bit_at_and m n i, bit_at-lt n i))

descends : Descends all_known_bits
descends = record {
  most = λ w width a abstract. omega (
    arith,
    ones-le w (known_zeros a) (abstract.tuple.words 0),
    ones-le w (ones a) (abstract.tuple.words 1),
    below_power w,
  );
  falls = λ w width a b first second changed.
      let same : a ≡ known_zeros a ∷ ones a ∷ [] =
      by_two (λ a. a ≡ known_zeros a ∷ ones a ∷ []) (λ x y. refl) a first.tuple.counted in
      elim (kept_or_fewer w (known_zeros a) (known_zeros b) (first.tuple.words 0)) [
        | inl z ↦ elim (kept_or_fewer w (ones a) (ones b) (first.tuple.words 1)) [
          | inl o ↦
              absurd
              (changed (ap (λ x. x ∷ bit_and (ones a) (ones b) ∷ []) z ∙ ap (λ y. known_zeros a ∷ y ∷ []) o ∙ sym same))
          | inr fewer ↦ omega (arith, ap count_ones z)
        ]
        | inr fewer ↦ elim (kept_or_fewer w (ones a) (ones b) (first.tuple.words 1)) [
          | inl o ↦ omega (arith, ap count_ones o)
          | inr less ↦ omega arith
        ]
      ];
}

-- what is left of a tuple, by whether its words have no common bit
tidied : (w : ℕ) (raw : List ℕ) → IsTuple w 2 raw → (t : Bool) → (bit_and (known_zeros raw) (ones raw) == 0) ≡ t →
    MatchOption (cond t (Some raw) None) ((c : ℕ) → c < 2 ^ w → ¬ HasKnown raw c)
    (λ a. IsAbstract known_bits w a × ((c : ℕ) → c < 2 ^ w → HasKnown raw c → HasKnown a c))
tidied w raw tuple true e =
    (record { tuple = tuple; valid = (disjoint_bits (known_zeros raw) (ones raw)).0 (eqb-true _ _ e) }, λ c below h. h)
tidied w raw tuple false e = λ c below h.
    eqb-false _ _ e
    ((disjoint_bits (known_zeros raw) (ones raw)).1 (λ i both. omega (arith, h.clear i both.0, h.set i both.1)))

tidies : Tidies all_known_bits
tidies w width raw tuple = tidied w raw tuple (bit_and (known_zeros raw) (ones raw) == 0) refl

tells_validity : TellsValidity all_known_bits
tells_validity w width =
    let zero_word : nat_lt 0 (2 ^ w) ≡ true = lt-ltb 0 (2 ^ w) (pow_pos w) in
    record {
      fit = simp (fits-Node, fits-Const, fits-Field, zero_word);
      small = simp (nodes-Node, nodes-Const, nodes-Field) (lit≤ tt);
      tells = λ env tuple. by_two (λ env. (val w known_valid_term env ≢ 0) ↔ IsKnown env)
          (λ z o. simp (val-binary, val-Const, val-Field)
          (iff-trans (equality-tells (bit_and z o) 0) (disjoint_bits z o)))
          env tuple.counted;
    }

tells_membership : TellsMembership all_known_bits
tells_membership w width =
    let zero_word : nat_lt 0 (2 ^ w) ≡ true = lt-ltb 0 (2 ^ w) (pow_pos w) in
    record {
      fit = simp (fits-Node, fits-Const, fits-Field, zero_word);
      small = simp (nodes-Node, nodes-Const, nodes-Field) (lit≤ tt);
      tells = λ env tuple.
          by_three (λ env. (val w known_member_term env ≢ 0) ↔ HasKnown (take 2 env) (slice_index env 2))
          (λ z o c. simp (val-binary, val-Const, val-Field)
          (iff-trans (equalities-tell (bit_and c z) 0 (bit_and c o) o) (known_by_tests (z ∷ o ∷ []) c)))
          env tuple.counted;
    }

-- all laws of a domain hold
pub known_laws : KeepsLaws all_known_bits
known_laws = record {
  has_fields = lit≤ tt;
  few_fields = lit≤ tt;
  has_members = has_members;
  has_top = has_top;
  holds_words = holds_words;
  joins_above = joins_above;
  descends = descends;
  tidies = tidies;
  tells_validity = tells_validity;
  tells_membership = tells_membership;
}
