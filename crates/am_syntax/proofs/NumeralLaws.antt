-- The decimal text of a number is its numeral, and no other word is.
use Rattle.std.proofs.Common.{◌≡◌, ℕ, zero, suc, ◌+◌, ◌*◌, ◌-◌, ◌^◌, ◌<◌, ◌≤◌, ◌/◌, ◌%◌, take, true, false, not, ◌==◌}
use Rattle.std.proofs.Common.{List, [], ◌∷◌, length, get_or, decimal, fold, ap, sym, refl, arith, rules, lit<, inl, inr}
use Rattle.std.specs.Prelude.{Option, Some, None, IfNone}
use Rattle.std.specs.List.{list_all}
use Rattle.std.proofs.lemmas.Str.Parse.{IsNumeralModel, numerals_by_fold}
use Rattle.std.proofs.lemmas.Fmt.{digits_decimal, digits_value-decimal, decimal-digits_value, decimal_nonempty}
use Rattle.std.proofs.lemmas.Fmt.{decimal_digit, first_decimal}
use Rattle.std.proofs.lemmas.Bool.{and_from, and_parts, lt-ltb, and_left, and_right, eqb-true, eqb-false, ne_eqb}
use Rattle.std.proofs.lemmas.Bool.{cases_Bool, le-leb, or_cases, or_right, not-true}
use Rattle.std.specs.Fmt.{digits, digit_glyph, digits_onto}
use Rattle.am_syntax.specs.Numerals.{is_canonical, is_digit, is_digits, is_numeral, number_of}

abbrev read_on : ℕ → List ℕ → ℕ
read_on n word = fold (λ m b. 10 * m + (b - 48)) n word

own : IsNumeralModel (λ ds. list_all is_digit ds ≡ true) (read_on 0)
own = numerals_by_fold _ (search rules) read_on (search rules)

-- what the test of leading zeros says
record IsCanonical (word : List ℕ) : Type 0 where
  long : 0 < length word
  zero : get_or word 0 0 ≡ 48 → length word ≡ 1

canonical_parts : (word : List ℕ) → is_canonical word ≡ true → IsCanonical word
canonical_parts [] h = absurd cc
canonical_parts (b ∷ bs) h = record {
  long = omega arith;
  zero = λ (e : b ≡ 48). elim (or_cases _ _ h) [
    | inl none ↦ let empty = eqb-true (length bs) 0 none in omega arith
    | inr other ↦ absurd (eqb-false b 48 (not-true _ other) e)
  ];
}

canonical_from : (word : List ℕ) → IsCanonical word → is_canonical word ≡ true
canonical_from [] is = absurd (omega (arith, is.long))
canonical_from (b ∷ []) is = refl
canonical_from (b ∷ c ∷ bs) is =
    let other : (b == 48) ≡ false = ne_eqb b 48 (λ (e : b ≡ 48). omega (arith, is.zero e)) in
    or_right _ _ (ap not other)

decimal_canonical : (n : ℕ) → n < 2 ^ 64 → IsCanonical (decimal n)
decimal_canonical zero h =
    record {
      long = omega (arith, ap length (decimal_digit 0 (lit< tt)));
      zero = λ _. ap length (decimal_digit 0 (lit< tt));
    }
decimal_canonical (suc n) h =
    record {
      long = decimal_nonempty (suc n) h;
      zero = λ e.
          absurd (omega (arith, first_decimal (suc n) (omega arith) h));
    }

-- the decimal text of a number is a numeral
pub decimal-is_numeral : (n : ℕ) → n < 2 ^ 64 → is_numeral (decimal n) ≡ true
decimal-is_numeral n h = and_from _ _ (canonical_from (decimal n) (decimal_canonical n h)) (digits_decimal own n h)

-- the number of its decimal text is the number
pub decimal-number_of : (n : ℕ) → n < 2 ^ 64 → number_of (decimal n) ≡ n
decimal-number_of n h = digits_value-decimal own n h

-- a numeral is the decimal text of its number
pub decimal_of_number : (word : List ℕ) → is_numeral word ≡ true → number_of word < 2 ^ 64 →
    word ≡ decimal (number_of word)
decimal_of_number word h small =
    let parts = and_parts _ _ h in
    let is = canonical_parts word parts.0 in
    sym (decimal-digits_value own word parts.1 is.long is.zero small)

-- a byte that is no digit begins no numeral
pub no_numeral : (b : ℕ) (bs : List ℕ) → is_digit b ≡ false → is_numeral (b ∷ bs) ≡ false
no_numeral b bs h = and_right _ _ (and_left _ _ h)

-- the decimal text of a number is a row of digits
pub decimal-is_digits : (n : ℕ) → n < 2 ^ 64 → is_digits (decimal n) ≡ true
decimal-is_digits n h = and_from _ _ (lt-ltb _ _ (decimal_nonempty n h)) (digits_decimal own n h)

-- the last digits of any number are digits
last_digits : (k n : ℕ) (acc : List ℕ) → list_all is_digit acc ≡ true →
    list_all is_digit (digits_onto k 10 false n acc) ≡ true
last_digits zero n acc h = h
last_digits (suc k) n acc h =
    let below : n % 10 < 10 = omega arith in
    let glyph : digit_glyph false (n % 10) ≡ 48 + n % 10 = rw (lt-ltb _ _ below) refl in
    let digit : is_digit (digit_glyph false (n % 10)) ≡ true =
    rw glyph (and_from _ _ (le-leb 48 (48 + n % 10) (omega arith)) (le-leb (48 + n % 10) 57 (omega arith))) in
    let onto = and_from _ _ digit h in
    elim (cases_Bool (n / 10 == 0)) [
      | inl none ↦ rw none onto
      | inr more ↦ rw more (last_digits k (n / 10) (digit_glyph false (n % 10) ∷ acc) onto)
    ]

some_digits : (k n : ℕ) (acc : List ℕ) → 0 < k + length acc → 0 < length (digits_onto k 10 false n acc)
some_digits zero n acc h = omega (arith, h)
some_digits (suc k) n acc h =
    elim (cases_Bool (n / 10 == 0)) [
      | inl none ↦ rw none (omega arith)
      | inr more ↦ rw more (some_digits k (n / 10) (digit_glyph false (n % 10) ∷ acc) (omega arith))
    ]

-- the decimal text of any number is a row of digits
pub digits_of_any : (n : ℕ) → is_digits (decimal n) ≡ true
unfolding digits
digits_of_any n =
    and_from _ _ (lt-ltb 0 (length (digits_onto 64 10 false n [])) (some_digits 64 n [] (omega arith)))
    (last_digits 64 n [] refl)

-- it has no leading zero
pub decimal-is_canonical : (n : ℕ) → n < 2 ^ 64 → is_canonical (decimal n) ≡ true
decimal-is_canonical n h = canonical_from (decimal n) (decimal_canonical n h)

-- a row of digits without a leading zero is the decimal text of its number
pub digits_decimal_of : (word : List ℕ) → is_digits word ≡ true → is_canonical word ≡ true → number_of word < 2 ^ 64 →
    word ≡ decimal (number_of word)
digits_decimal_of word d c small = decimal_of_number word (and_from _ _ c (and_parts _ _ d).1) small

-- a byte that is no digit begins no row of digits
pub no_digits : (b : ℕ) (bs : List ℕ) → is_digit b ≡ false → is_digits (b ∷ bs) ≡ false
no_digits b bs h = and_right _ _ (and_left _ _ h)

rising : (m : ℕ) (bs : List ℕ) → m ≤ read_on m bs
rising m [] = omega arith
rising m (b ∷ bs) = omega (arith, rising (10 * m + (b - 48)) bs)

digits_below : (n : ℕ) (word : List ℕ) (i : ℕ) → i < length word →
    10 * read_on n (take i word) + (get_or word i 0 - 48) ≤ read_on n word
digits_below n [] i h = absurd (omega arith)
digits_below n (b ∷ bs) zero h = rising (10 * n + (b - 48)) bs
digits_below n (b ∷ bs) (suc i) h = digits_below (10 * n + (b - 48)) bs i (omega arith)

-- a number is no less than that of its first digits and the next
pub first_digits : (word : List ℕ) (i : ℕ) → i < length word →
    10 * number_of (take i word) + (get_or word i 0 - 48) ≤ number_of word
first_digits word i h = digits_below 0 word i h

-- what holds anyway holds where an option is None
pub if_none : {A P : Type 0} (o : Option A) → P → IfNone o P
if_none None p = p
if_none (Some a) p = tt
