-- The lines of refusals and of faults.
use Rattle.std.specs.Prelude.{ℕ, ◌^◌, List, [], ◌∷◌, ◌++◌, codes, decimal}
use Rattle.am_chain.specs.declared.fault.Why.{Why}
use Rattle.am_chain.specs.declared.fault.Why.TheVariants.{NoClause, NoPivot}
use Rattle.am_hint.specs.declared.fault.HintWhy.{HintWhy}
use Rattle.am_hint.specs.declared.fault.HintWhy.TheVariants as hint
use Rattle.am_hint.specs.declared.fault.HintWhy.TheVariants.{NoConflict, NotNormal, NotUnit}
use Rattle.am_query.specs.declared.fault.Fault.{Fault}
use Rattle.am_query.specs.declared.fault.Fault.TheVariants.{BadChain, BadHint, NegativeFalse, NotEmpty, PositiveFalse}
use Rattle.am_query.specs.declared.fault.Fault.TheVariants.{TermOutside, Unfinished}
use Rattle.am_syntax.specs.Canonical.{line}
use Rattle.am_syntax.specs.Readers.{Word, Words}
use Rattle.am_syntax.specs.declared.refusal.Refusal.{Refusal}
use Rattle.am_syntax.specs.declared.refusal.Refusal.TheVariants.{BadByte, Count, Load, Long, Many, Mismatch, Name}
use Rattle.am_syntax.specs.declared.refusal.Refusal.TheVariants.{Number, Slots, Syntax, Twice, Undefined, Wide}

-- a name and a number, after the word `refused`
abbrev pub refused : Word → ℕ → List ℕ
refused name n = line (codes "refused" ∷ name ∷ decimal n ∷ [])

-- the refusal's name, and its place or its number; the limit where the text is too long
abbrev pub refusal_line : Refusal → List ℕ
refusal_line (BadByte at) = refused (codes "BadByte") at
refusal_line (Syntax at) = refused (codes "Syntax") at
refusal_line (Number at) = refused (codes "Number") at
refusal_line (Name at) = refused (codes "Name") at
refusal_line (Count at) = refused (codes "Count") at
refusal_line (Twice at) = refused (codes "Twice") at
refusal_line (Undefined at) = refused (codes "Undefined") at
refusal_line (Slots n) = refused (codes "Slots") n
refusal_line (Load n) = refused (codes "Load") n
refusal_line (Mismatch n) = refused (codes "Mismatch") n
refusal_line Long = refused (codes "Long") (2 ^ 26)
refusal_line (Wide n) = refused (codes "Wide") n
refusal_line (Many n) = refused (codes "Many") n

-- the word of what is wrong with a chain's step
abbrev pub why_word : Why → Word
why_word NoClause = codes "NoClause"
why_word NoPivot = codes "NoPivot"

-- the word of why a hint doesn't pass
abbrev pub hint_why_word : HintWhy → Word
hint_why_word NotNormal = codes "NotNormal"
hint_why_word hint.NoClause = codes "NoClause"
hint_why_word NotUnit = codes "NotUnit"
hint_why_word NoConflict = codes "NoConflict"

-- the fault's name, and its numbers
abbrev pub fault_words : Fault → Words
fault_words Unfinished = codes "Unfinished" ∷ []
fault_words (TermOutside i) = codes "TermOutside" ∷ decimal i ∷ []
fault_words (PositiveFalse i) = codes "PositiveFalse" ∷ decimal i ∷ []
fault_words (NegativeFalse i) = codes "NegativeFalse" ∷ decimal i ∷ []
fault_words (BadChain refutation chain step why) =
    codes "BadChain" ∷ decimal refutation ∷ decimal chain ∷ decimal step ∷ why_word why ∷ []
fault_words (BadHint refutation clause hint why) =
    codes "BadHint" ∷ decimal refutation ∷ decimal clause ∷ decimal hint ∷ hint_why_word why ∷ []
fault_words (NotEmpty j) = codes "NotEmpty" ∷ decimal j ∷ []

-- a fault after the word `rejected`, and after the number of its certificate where there are several
abbrev pub fault_line : Words → Fault → List ℕ
fault_line numbers fault = line (codes "rejected" ∷ (numbers ++ fault_words fault))
