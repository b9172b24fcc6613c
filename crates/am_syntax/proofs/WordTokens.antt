-- Numerals and names in canonical texts: each is a token, and stands apart.
use Rattle.std.proofs.Common.{◌≡◌, ℕ, ◌<◌, ◌≤◌, ◌^◌, true, false, List, [], ◌∷◌, bytes_eq, codes, decimal, length, ap}
use Rattle.std.proofs.Common.{sym, refl, ◌∙◌, arith, inl, inr}
use Rattle.std.specs.Prelude.{◌==◌, ◌&&◌, ◌||◌, nat_le}
use Rattle.std.specs.List.{list_all}
use Rattle.std.proofs.lemmas.Bool.{and_from, and_parts, false_from_ne_true, le-leb, leb-true, ne_eqb, or_cases}
use Rattle.std.proofs.lemmas.Bool.{or_right}
use Rattle.am_text.specs.Tokens.{is_allowed, is_word_byte}
use Rattle.am_syntax.specs.Canonical.{IsToken}
use Rattle.am_syntax.specs.Numerals.{is_alphanumeric, is_capital, is_digit, is_name}
use Rattle.am_syntax.specs.Readers.{Word}
use Rattle.am_syntax.proofs.CanonicalLaws.{digits_is_token}
use Rattle.am_syntax.proofs.SpacedLaws.{StandApart, word_apart}
use Rattle.am_syntax.proofs.NumeralLaws.{decimal-is_digits, digits_of_any}
use Rattle.am_syntax.proofs.PieceLaws.{same_bytes}
use Rattle.am_syntax.proofs.TermWords.{digits_apart}

-- a numeral is a token
pub number_is_token : (n : ℕ) → n < 2 ^ 64 → IsToken (decimal n)
number_is_token n small = digits_is_token (decimal n) (decimal-is_digits n small)

-- a numeral stands apart
pub number_apart : (n : ℕ) → StandApart (decimal n ∷ [])
number_apart n =
    let digits = digits_of_any n in
    word_apart (decimal n) (digits_apart (decimal n) (codes "(") digits refl) (digits_apart (decimal n) (codes ")")
    digits refl)

-- a byte after the parentheses and before the last of printable ASCII
between_word : (b : ℕ) → 42 ≤ b → is_word_byte b ≡ true
between_word b least =
    let space : (b == 32) ≡ false = ne_eqb b 32 (λ e. omega (arith, least, e)) in
    let newline : (b == 10) ≡ false = ne_eqb b 10 (λ e. omega (arith, least, e)) in
    let opens : (b == 40) ≡ false = ne_eqb b 40 (λ e. omega (arith, least, e)) in
    let closes : (b == 41) ≡ false = ne_eqb b 41 (λ e. omega (arith, least, e)) in
    rw (space, newline, opens, closes) refl

between_allowed : (b : ℕ) → 42 ≤ b → b ≤ 126 → is_allowed b ≡ true
between_allowed b least most = or_right _ _ (and_from _ _ (le-leb 32 b (omega (arith, least))) (le-leb b 126 most))

record Between (b : ℕ) : Type 0 where
  least : 42 ≤ b
  most : b ≤ 126

capital_between : (b : ℕ) → is_capital b ≡ true → Between b
capital_between b h =
    let parts = and_parts _ _ h in
    let least = leb-true 65 b parts.0 in
    let most = leb-true b 90 parts.1 in
    record { least = omega (arith, least); most = omega (arith, most) }

small_between : (b : ℕ) → (nat_le 97 b && nat_le b 122) ≡ true → Between b
small_between b h =
    let parts = and_parts _ _ h in
    let least = leb-true 97 b parts.0 in
    let most = leb-true b 122 parts.1 in
    record { least = omega (arith, least); most = omega (arith, most) }

digit_between : (b : ℕ) → is_digit b ≡ true → Between b
digit_between b h =
    let parts = and_parts _ _ h in
    let least = leb-true 48 b parts.0 in
    let most = leb-true b 57 parts.1 in
    record { least = omega (arith, least); most = omega (arith, most) }

alphanumeric_between : (b : ℕ) → is_alphanumeric b ≡ true → Between b
alphanumeric_between b h =
    elim (or_cases (is_digit b || is_capital b) (nat_le 97 b && nat_le b 122) h) [
      | inl other ↦ elim (or_cases (is_digit b) (is_capital b) other) [
        | inl digit ↦ digit_between b digit
        | inr capital ↦ capital_between b capital
      ]
      | inr small ↦ small_between b small
    ]

alphanumeric_word : (bs : List ℕ) → list_all is_alphanumeric bs ≡ true → list_all is_word_byte bs ≡ true
alphanumeric_word [] h = refl
alphanumeric_word (b ∷ bs) h =
    let parts = and_parts _ _ h in
    and_from _ _ (between_word b (alphanumeric_between b parts.0).least) (alphanumeric_word bs parts.1)

alphanumeric_allowed : (bs : List ℕ) → list_all is_alphanumeric bs ≡ true → list_all is_allowed bs ≡ true
alphanumeric_allowed [] h = refl
alphanumeric_allowed (b ∷ bs) h =
    let parts = and_parts _ _ h in
    let between = alphanumeric_between b parts.0 in
    and_from _ _ (between_allowed b between.least between.most) (alphanumeric_allowed bs parts.1)

-- a name is a token
pub name_is_token : (v : Word) → is_name v ≡ true → IsToken v
name_is_token [] h = absurd cc
name_is_token (b ∷ bs) h =
    let parts = and_parts (is_capital b && nat_le (length bs) 15) (list_all is_alphanumeric bs) h in
    let between = capital_between b (and_parts _ _ parts.0).0 in
    record {
      shape = inr (omega arith, and_from _ _ (between_word b between.least) (alphanumeric_word bs parts.1));
      allowed = and_from _ _ (between_allowed b between.least between.most) (alphanumeric_allowed bs parts.1);
    }

name_differs : (v key : Word) → is_name v ≡ true → is_name key ≡ false → bytes_eq v key ≡ false
name_differs v key h k =
    false_from_ne_true _ (λ e.
    let named : is_name key ≡ true = ap is_name (sym (same_bytes v key e)) ∙ h in
    absurd (let g : true ≡ false = sym named ∙ k in cc))

-- a name stands apart
pub name_apart : (v : Word) → is_name v ≡ true → StandApart (v ∷ [])
name_apart v h = word_apart v (name_differs v (codes "(") h refl) (name_differs v (codes ")") h refl)
