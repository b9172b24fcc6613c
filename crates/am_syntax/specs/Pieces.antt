-- Pieces of a text: how a value is spelled, which values are good, and how one is read.
use Rattle.std.specs.Prelude.{◌≡◌, ℕ, zero, suc, ◌+◌, ◌≤◌, ◌<◌, Bool, false, ◌&&◌, nat_le, nat_lt, if◌then◌else◌, List}
use Rattle.std.specs.Prelude.{[], ◌∷◌}
use Rattle.std.specs.Prelude.{◌++◌, length, Option, Some, None, Result, Ok, Err, bytes_eq, codes, decimal, IsTrue, ◌⊎◌}
use Rattle.std.proofs.Common.{inl, inr}
use Rattle.am_text.specs.Tokens.{Left, words}
use Rattle.am_syntax.specs.declared.numbers.End.{End}
use Rattle.am_syntax.specs.declared.numbers.End.TheVariants.{Before, With}
use Rattle.am_syntax.specs.declared.otherwise.Otherwise.{Otherwise}
use Rattle.am_syntax.specs.declared.otherwise.Otherwise.TheVariants as otherwise
use Rattle.am_syntax.specs.declared.refusal.Cause.{Cause}
use Rattle.am_syntax.specs.declared.refusal.Cause.TheVariants.{Syntax, Number, Count}
use Rattle.am_syntax.specs.Numerals.{is_canonical, is_digits, is_name, number_of}
use Rattle.am_syntax.specs.Readers.{Word, Words, Reader, done, ◌>>=◌, judged}

-- how values are spelled, which of them are good, and what reads them
pub record Piece (X : Type 0) : Type 1 where
  pub spell : X → Words
  pub Good : X → Type 0
  pub read : Reader X

-- ---- one token

-- a value of one token
abbrev pub token : {X : Type 0} → (Word → Result X Cause) → (X → Word) → (X → Type 0) → Piece X
token judge word Good = record { spell = λ x. word x ∷ []; Good = Good; read = judged judge }

-- this word, and no other
abbrev pub key_judge : (Word → Cause) → Word → Word → Result (Unit {0}) Cause
key_judge cause word v = if bytes_eq v word then Ok tt else Err (cause v)

-- a key word, and why another token is refused in its place
unfoldable pub key_or : (Word → Cause) → Word → Piece (Unit {0})
key_or cause word = token (key_judge cause word) (λ _. word) (λ _. Unit {0})

-- another token is against the syntax
abbrev pub syntax : Word → Cause
syntax v = Syntax

-- a key word, in whose place another token is against the syntax
abbrev pub key : Word → Piece (Unit {0})
key word = key_or syntax word

-- another token makes a wrong count
abbrev pub count : Word → Cause
count v = Count

-- one name too many; any other word is wrong
abbrev pub name_too_many : Word → Cause
name_too_many v = if is_name v then Count else Syntax

-- this word comes too early, so something is missing; any other word is wrong
abbrev pub too_early : Word → Word → Cause
too_early word v = if bytes_eq v word then Count else Syntax

-- why another token is refused
abbrev pub cause_of : Otherwise → Word → Cause
cause_of otherwise.Syntax v = Syntax
cause_of otherwise.Count v = Count
cause_of otherwise.NameTooMany v = name_too_many v
cause_of (otherwise.TooEarly word) v = too_early word.now v

-- the parenthesis after the last argument of an operator
abbrev pub closing : Piece (Unit {0})
closing = key_or count (codes ")")

-- a canonical row of digits, for a number from least on and below count
abbrev pub number_judge : ℕ → ℕ → Word → Result ℕ Cause
number_judge least count v =
    if is_digits v
    then (if is_canonical v && nat_le least (number_of v) && nat_lt (number_of v) count then Ok
    (number_of v) else Err Number)
    else Err Syntax

-- the least number after a range that ends so
abbrev pub end_of : End → ℕ
end_of (With most) = most + 1
end_of (Before count) = count

-- a numeral from least to most
unfoldable pub number : ℕ → ℕ → Piece ℕ
number least most = token (number_judge least (most + 1)) decimal (λ n. (least ≤ n) × (n ≤ most))

-- a numeral from least on, below count
unfoldable pub below : ℕ → ℕ → Piece ℕ
below least count = token (number_judge least count) decimal (λ n. (least ≤ n) × (n < count))

-- a name
abbrev pub name_judge : (Word → Cause) → Word → Result Word Cause
name_judge cause v = if is_name v then Ok v else Err (cause v)

-- a nonterminal's name, and why another token is refused in its place
unfoldable pub name_or : (Word → Cause) → Piece Word
name_or cause = token (name_judge cause) (λ v. v) (λ v. IsTrue (is_name v))

-- a name, in whose place another token is against the syntax
abbrev pub name : Piece Word
name = name_or syntax

-- ---- pieces of pieces

-- one piece after another
infixr 10 ◌▹◌
abbrev pub ◌▹◌ : {X Y : Type 0} → Piece X → (X → Piece Y) → Piece (X × Y)
p ▹ q = record {
  spell = λ x. p.spell x.0 ++ (q x.0).spell x.1;
  Good = λ x. p.Good x.0 × (q x.0).Good x.1;
  read = p.read >>= λ x. (q x).read >>= λ y. done (x, y);
}

-- a key word and a piece after it, and why another token is refused in the key word's place
abbrev pub keyed_or : {X : Type 0} → (Word → Cause) → Word → Piece X → Piece X
keyed_or cause word p = record {
  spell = λ x. word ∷ p.spell x;
  Good = p.Good;
  read = (key_or cause word).read >>= λ _. p.read;
}

-- a key word and a piece after it; another token in the key word's place is against the syntax
abbrev pub keyed : {X : Type 0} → Word → Piece X → Piece X
keyed word p = keyed_or syntax word p

-- a key word and a numeral from least to most
abbrev pub keyed_number : Word → ℕ → ℕ → Piece ℕ
keyed_number word least most = keyed word (number least most)

-- the number of bits of a word
abbrev pub width : Piece ℕ
width = keyed_number (codes "width") 2 8

-- a piece and a key word after it, and why another token is refused in the key word's place
abbrev pub closed_or : {X : Type 0} → (Word → Cause) → Word → Piece X → Piece X
closed_or cause word p = record {
  spell = λ x. p.spell x ++ word ∷ [];
  Good = p.Good;
  read = p.read >>= λ x. (key_or cause word).read >>= λ _. done x;
}

-- a piece and a key word after it; another token in the key word's place is against the syntax
abbrev pub closed : {X : Type 0} → Word → Piece X → Piece X
closed word p = closed_or syntax word p

-- the same piece with another view of its values
abbrev pub seen_as : {X Y : Type 0} → (X → Y) → (Y → X) → Piece X → Piece Y
seen_as to from p = record {
  spell = λ y. p.spell (from y);
  Good = λ y. p.Good (from y);
  read = p.read >>= λ x. done (to x);
}

-- ---- what comes next decides

-- whether the next token is this word
abbrev pub next_is : Word → Words → Bool
next_is word [] = false
next_is word (v ∷ vs) = bytes_eq v word

-- whether the next token is a row of digits
abbrev pub is_number_next : Words → Bool
is_number_next [] = false
is_number_next (v ∷ vs) = is_digits v

-- the words of an optional piece: none where its value is missing
abbrev pub optional_spelled : {X : Type 0} → Word → Piece X → Option X → Words
optional_spelled word p None = []
optional_spelled word p (Some x) = word ∷ p.spell x

-- a value that is there is good
abbrev pub optional_good : {X : Type 0} → Piece X → Option X → Type 0
optional_good p None = Unit {0}
optional_good p (Some x) = p.Good x

-- a key word and a piece after it, or nothing
abbrev pub optional : {X : Type 0} → Word → Piece X → Piece (Option X)
optional word p = record {
  spell = optional_spelled word p;
  Good = optional_good p;
  read = λ s. if next_is word (words s) then ((keyed word p).read >>= λ x. done (Some x)) s else Ok (None, s);
}

abbrev pub either_spelled : {X Y : Type 0} → Piece X → Piece Y → X ⊎ Y → Words
either_spelled p q (inl x) = p.spell x
either_spelled p q (inr y) = q.spell y

abbrev pub either_good : {X Y : Type 0} → Piece X → Piece Y → X ⊎ Y → Type 0
either_good p q (inl x) = p.Good x
either_good p q (inr y) = q.Good y

-- one piece where a test of what is left says so, else another
abbrev pub choice : {X Y : Type 0} → (Words → Bool) → Piece X → Piece Y → Piece (X ⊎ Y)
choice test p q = record {
  spell = either_spelled p q;
  Good = either_good p q;
  read = λ s. if test (words s) then (p.read >>= λ x. done (inl x)) s else (q.read >>= λ y. done (inr y)) s;
}

-- a piece of which one more may stand here, or else Count at its first token
abbrev pub one_more : {X : Type 0} → Bool → Piece X → Piece X
one_more may p = record {
  spell = p.spell;
  Good = λ x. IsTrue may × p.Good x;
  read = λ s. if may then p.read s else judged (λ _. Err Count) s;
}

-- ---- lists, whose items see the items before them

-- the words of items after those that were seen
abbrev pub spelled_from : {X : Type 0} → (List X → Piece X) → List X → List X → Words
spelled_from item seen [] = []
spelled_from item seen (x ∷ xs) = (item seen).spell x ++ spelled_from item (seen ++ x ∷ []) xs

-- each item is good after those before it
abbrev pub good_from : {X : Type 0} → (List X → Piece X) → List X → List X → Type 0
good_from item seen [] = Unit {0}
good_from item seen (x ∷ xs) = (item seen).Good x × good_from item (seen ++ x ∷ []) xs

-- n items after those that were seen
unfoldable pub times_from : {X : Type 0} → (List X → Reader X) → ℕ → List X → Reader (List X)
times_from item zero seen s = Ok (seen, s)
times_from item (suc n) seen s = (item seen >>= λ x. times_from item n (seen ++ x ∷ [])) s

-- n items, one after another
abbrev pub times : {X : Type 0} → (List X → Piece X) → ℕ → Piece (List X)
times item n = record {
  spell = spelled_from item [];
  Good = λ xs. (length xs ≡ n) × good_from item [] xs;
  read = times_from (λ seen. (item seen).read) n [];
}

-- each item takes a token at least
abbrev pub MovesOn : {X : Type 0} → (List X → Reader X) → Type 0
MovesOn {X = X} item =
    (seen : List X) (s : Left) (x : X) (t : Left) → item seen s ≡ Ok (x, t) → length t.tokens < length s.tokens

-- items after those that were seen, while a test of what is left says so, of at most n tokens
unfoldable pub repeat_in : {X : Type 0} → (Words → Bool) → (List X → Reader X) → ℕ → List X → Reader (List X)
repeat_in goes item zero seen s = Ok (seen, s)
repeat_in goes item (suc n) seen s =
    if goes (words s) then (item seen >>= λ x. repeat_in goes item n (seen ++ x ∷ [])) s else Ok (seen, s)

-- no item is without a token, so that there are no more items than tokens
unfoldable pub repeat_from : {X : Type 0} → (Words → Bool) → (List X → Reader X) → List X → Reader (List X)
repeat_from goes item seen s = repeat_in goes item (suc (length s.tokens)) seen s

-- items, one after another, while a test of what is left says so
abbrev pub repeat : {X : Type 0} → (Words → Bool) → (List X → Piece X) → Piece (List X)
repeat goes item = record {
  spell = spelled_from item [];
  Good = good_from item [];
  read = repeat_from goes (λ seen. (item seen).read) [];
}
