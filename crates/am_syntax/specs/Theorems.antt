-- Laws of reading and printing, for all texts, terms and limits. The functions of `theorems` prove them.
use Rattle.std.specs.Prelude.{◌≡◌, ℕ, ◌^◌, ◌<◌, List, Ok}
use Rattle.am_bv.specs.declared.term.Term.{Term}
use Rattle.am_text.specs.Tokens.{words_of}
use Rattle.am_syntax.specs.declared.limits.TermLimits.{TermLimits}
use Rattle.am_syntax.specs.Canonical.{term_text}
use Rattle.am_syntax.specs.Exact.{IsExact, always}
use Rattle.am_syntax.specs.Names.{operator}
use Rattle.am_syntax.specs.Pieces.{name, number}
use Rattle.am_syntax.specs.Spelling.{IsScope, letter_code, scope_of, term_words}
use Rattle.am_syntax.specs.Terms.{term}
use Rattle.am_syntax.specs.Texts.{HasOneValue, IsSettledText, IsTextOf, RefusesForGood, text_value}

-- a numeral is read exactly where one in the range is spelled, a name where a name is, an operator where its name is
abbrev pub NumbersAreExact : Type 0
NumbersAreExact = (least most : ℕ) → most < 2 ^ 64 → IsExact (number least most) always

-- a name is read exactly where one is spelled
abbrev pub NamesAreExact : Type 0
NamesAreExact = IsExact name always

-- an operator is read exactly where its name is spelled
abbrev pub OperatorsAreExact : Type 0
OperatorsAreExact = IsExact operator always

-- a term is read exactly where one within the limits is spelled
abbrev pub TermsAreExact : Type 0
TermsAreExact = (w : ℕ) (limits : TermLimits) → IsScope (scope_of w limits) → IsExact (term w limits) always

-- a text is a term's, within limits, or has a first refusal, and not both
abbrev pub TermTextsAreSettled : Type 0
TermTextsAreSettled =
    (w : ℕ) (limits : TermLimits) → IsScope (scope_of w limits) → (text : List ℕ) → IsSettledText (term w limits) text

-- a text is one term's at most
abbrev pub TextsHaveOneTerm : Type 0
TextsHaveOneTerm =
    (w : ℕ) (limits : TermLimits) → IsScope (scope_of w limits) → (text : List ℕ) → HasOneValue (term w limits) text

-- a token that is refused in the text of a term is refused whatever follows it
abbrev pub TermTextsAreRefusedForGood : Type 0
TermTextsAreRefusedForGood =
    (w : ℕ) (limits : TermLimits) → IsScope (scope_of w limits) →
    RefusesForGood (term w limits).read (λ text. (t : Term) × IsTextOf (term w limits) text t)

-- what was printed has the words of the term, and reads back
abbrev pub PrintedTermsReadBack : Type 0
PrintedTermsReadBack =
    (w : ℕ) (limits : TermLimits) → IsScope (scope_of w limits) → (t : Term) → (term w limits).Good t →
    (words_of (term_text (letter_code limits.letter) t) ≡ term_words (letter_code limits.letter) t) ×
    (text_value (term w limits) (term_text (letter_code limits.letter) t) ≡ Ok t)
