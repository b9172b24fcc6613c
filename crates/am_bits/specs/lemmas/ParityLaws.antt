-- The laws of parities.
use Rattle.std.proofs.Common.{◌≡◌, ◌≢◌, ℕ, zero, suc, ◌/◌, ◌%◌, ◌^◌, ◌<◌, ◌≤◌, Bool, true, false, cond, [], ◌∷◌}
use Rattle.std.proofs.Common.{slice_index, take, ◌↔◌, nat_lt, inl, inr, refl, sym, ap, ◌∙◌, arith, ◌==◌, bit_and}
use Rattle.std.proofs.Common.{bit_or, lit≤}
use Rattle.std.specs.declared.option.Option.TheVariants.{Some, None}
use Rattle.std.proofs.lemmas.Bool.{eqb-true, eqb-false, lt-ltb}
use Rattle.std.proofs.lemmas.Nat.{pow_pos, and_mask, and_le_r, or_lt, ones-le}
use Rattle.std.proofs.lemmas.Nat.Bits.{shr_and_one, bit_at-lt, bit_at_and, bit_at_or, bit_at_ones}
use Rattle.std.specs.Int.{bit_at}
use Rattle.std.specs.Int.Bits.{or_add_and}
use Rattle.std.specs.Option.{MatchOption}
use Rattle.am_bv.proofs.Laws.{one_is_word, fits-Node, fits-Const, fits-Field, nodes-Node, nodes-Const, nodes-Field}
use Rattle.am_bv.proofs.Laws.{val-Const, val-Field}
use Rattle.am_bv.specs.Terms.{val}
use Rattle.am_bv.specs.Operators.{lshr_of}
use Rattle.am_domain.specs.Meaning.{IsAbstract}
use Rattle.am_domain.specs.Laws.{HasMembers, HasTop, HoldsWords, JoinsAbove, Descends, Tidies, TellsValidity}
use Rattle.am_domain.specs.Laws.{TellsMembership, KeepsLaws}
use Rattle.am_bits.specs.lemmas.Bits.{bit_cases, bits_of_zero, more_ones, four_words}
use Rattle.am_domain.proofs.Laws.{single-IsTuple, by_one, by_two}
use Rattle.am_bv.proofs.Laws.{val-binary}
use Rattle.am_bits.specs.lemmas.Terms.{orders-tell}
use Rattle.am_bits.specs.Parities.{all_parities, parities, IsParity, HasParity, parity_valid_term, parity_member_term}

-- a fact at each parity
by_parity : (P : ℕ → Type 0) → P 1 → P 2 → P 3 → (p : ℕ) → 1 ≤ p → p ≤ 3 → P p
by_parity P one two three zero least most = absurd (omega arith)
by_parity P one two three (suc zero) least most = one
by_parity P one two three (suc (suc zero)) least most = two
by_parity P one two three (suc (suc (suc zero))) least most = three
by_parity P one two three (suc (suc (suc (suc p)))) least most = absurd (omega arith)

-- a number from 1 to 3 is a value
value : (w p : ℕ) → 2 ≤ w → 1 ≤ p → p ≤ 3 → IsAbstract parities w (p ∷ [])
value w p width least most =
    record { tuple = single-IsTuple w p (omega (arith, four_words w width)); valid = (least, most) }

has_members : HasMembers all_parities
has_members w width a abstract =
    let zero_word = pow_pos w in
    by_parity (λ p. let c : ℕ = cond (bit_at p 0 == 1) 0 1 in (c < 2 ^ w) × (bit_at p (c % 2) ≡ 1))
    (zero_word, refl) (one_is_word w width.0, refl) (zero_word, refl) (slice_index a 0) abstract.valid.0
    abstract.valid.1

-- the value of a word by its lowest bit
of_bit : (w d : ℕ) → 2 ≤ w → d < 2 → let p : ℕ = cond (d == 0) 1 2 in IsAbstract parities w (p ∷ []) × (bit_at p d ≡ 1)
of_bit w zero width h = (value w 1 width (lit≤ tt) (lit≤ tt), refl)
of_bit w (suc zero) width h = (value w 2 width (lit≤ tt) (lit≤ tt), refl)
of_bit w (suc (suc d)) width h = absurd (omega arith)

has_top : HasTop all_parities
has_top w width = (value w 3 width.0 (lit≤ tt) (lit≤ tt), λ c below. bit_at_ones 2 (c % 2) (omega arith))

holds_words : HoldsWords all_parities
holds_words w width c below = of_bit w (c % 2) width.0 (omega arith)

joins_above : JoinsAbove all_parities
joins_above w width a b first second =
    let p = slice_index a 0 in
    let q = slice_index b 0 in
    let most : bit_or p q < 4 = or_lt 2 p q (omega (arith, first.valid.1)) (omega (arith, second.valid.1)) in
    let least : 1 ≤ bit_or p q = omega (arith, or_add_and p q, and_le_r p q, first.valid.0) in
    record {
      value = value w (bit_or p q) width.0 least (omega (arith, most));
      first = λ c below h. omega (arith, h, bit_at_or p q (c % 2), bit_at-lt q (c % 2));
      second = λ c below h. omega (arith, h, bit_at_or p q (c % 2), bit_at-lt p (c % 2));
    }

descends : Descends all_parities
descends = record {
  most = λ w width a abstract. omega (arith, four_words w width.0);
  falls = λ w width a b first second apart.
      let p = slice_index a 0 in
      let q = slice_index b 0 in
      let same : a ≡ p ∷ [] = by_one (λ a. a ≡ slice_index a 0 ∷ []) (λ x. refl) a first.tuple.counted in
      let most = (joins_above w width a b first second).value.valid.1 in
      omega (
        arith,
        more_ones p q (λ e. apart (ap (λ n. n ∷ []) e ∙ sym same)),
        ones-le 2 (bit_or p q) (omega (arith, most)),
      );
}

-- what is left of a tuple, by whether it has no bit that is read
tidied : (w r : ℕ) → 2 ≤ w → r < 2 ^ w → (t : Bool) → (bit_and r 3 == 0) ≡ t →
    MatchOption (cond t None (Some (bit_and r 3 ∷ []))) ((c : ℕ) → c < 2 ^ w → ¬ (bit_at r (c % 2) ≡ 1))
    (λ a. IsAbstract parities w a × ((c : ℕ) → c < 2 ^ w → bit_at r (c % 2) ≡ 1 → HasParity a c))
tidied w r width h true e = λ c below member.
    omega (
      arith,
      member,
      bit_at_and r 3 (c % 2),
      bit_at_ones 2 (c % 2) (omega arith),
      bits_of_zero (bit_and r 3) (c % 2) (eqb-true _ _ e),
    )
tidied w r width h false e = (
  value w (bit_and r 3) width (omega (arith, eqb-false _ _ e)) (and_le_r r 3),
  λ c below member. omega (arith, member, bit_at_and r 3 (c % 2), bit_at_ones 2 (c % 2) (omega arith)),
)

tidies : Tidies all_parities
tidies w width raw tuple =
    tidied w (slice_index raw 0) width.0 (tuple.words 0) (bit_and (slice_index raw 0) 3 == 0) refl

tells_validity : TellsValidity all_parities
tells_validity w width =
    let one : nat_lt 1 (2 ^ w) ≡ true = lt-ltb 1 (2 ^ w) (omega (arith, four_words w width.0)) in
    let three : nat_lt 3 (2 ^ w) ≡ true = lt-ltb 3 (2 ^ w) (omega (arith, four_words w width.0)) in
    record {
      fit = simp (fits-Node, fits-Const, fits-Field, one, three);
      small = simp (nodes-Node, nodes-Const, nodes-Field) (lit≤ tt);
      tells = λ env tuple. by_one (λ env. (val w parity_valid_term env ≢ 0) ↔ IsParity env)
          (λ p. simp (val-binary, val-Const, val-Field) (orders-tell 1 p p 3))
          env tuple.counted;
    }

-- the bit that the term for membership reads
bit_read : (w p c : ℕ) → 2 ≤ w → bit_and (lshr_of w p (bit_and c 1)) 1 ≡ bit_at p (c % 2)
bit_read w p c width =
    let within : nat_lt (c % 2) w ≡ true = lt-ltb (c % 2) w (omega arith) in
    ap (λ k. bit_and (lshr_of w p k) 1) (and_mask c 1) ∙ ap (λ t. bit_and (cond t (p / 2 ^ (c % 2)) 0) 1) within
    ∙ shr_and_one p (c % 2)

tells_membership : TellsMembership all_parities
tells_membership w width =
    let one : nat_lt 1 (2 ^ w) ≡ true = lt-ltb 1 (2 ^ w) (omega (arith, four_words w width.0)) in
    record {
      fit = simp (fits-Node, fits-Const, fits-Field, one);
      small = simp (nodes-Node, nodes-Const, nodes-Field) (lit≤ tt);
      tells = λ env tuple.
          by_two (λ env. (val w parity_member_term env ≢ 0) ↔ HasParity (take 1 env) (slice_index env 1))
          (λ p c.
          let e = bit_read w p c width.0 in
          simp (val-binary, val-Const, val-Field) (
            λ h. elim (bit_cases p (c % 2)) [ inl f ↦ absurd (h (e ∙ f)) | inr f ↦ f ],
            λ h zero. omega (arith, sym e ∙ zero, h),
          )
          ) env tuple.counted;
    }

-- all laws of a domain hold
pub parity_laws : KeepsLaws all_parities
parity_laws = record {
  has_fields = lit≤ tt;
  few_fields = lit≤ tt;
  has_members = has_members;
  has_top = has_top;
  holds_words = holds_words;
  joins_above = joins_above;
  descends = descends;
  tidies = tidies;
  tells_validity = tells_validity;
  tells_membership = tells_membership;
}
