-- Hints and lists of hints are spelled as they are read, and read as they are spelled.
use Rattle.std.proofs.Common.{◌≡◌, ℕ, ◌<◌, true, false, List, ◌++◌, length, codes, refl, arith}
use Rattle.am_hint.specs.declared.hint.Hint.{Hint}
use Rattle.am_syntax.specs.Exact.{IsExact}
use Rattle.am_syntax.specs.Pieces.{MovesOn, is_number_next, next_is, number, syntax}
use Rattle.am_syntax.specs.Readers.{Reader, Word, Words}
use Rattle.am_syntax.proofs.Laws.{decimal-is_digits, keyed_law, moves_on, repeat_law, seen_law, then_law}
use Rattle.am_cert.specs.Grammar.{code, hint, hint_of, hint_parts, hints, numbers}
use Rattle.am_cert.proofs.ChainLaws.{code_law}
use Rattle.am_cert.proofs.RowLaws.{EndsNumbers}

-- a number takes a token at least
pub code_moves : (seen : List ℕ) (n : ℕ) → code.Good n → 0 < length (code.spell n)
unfolding number
code_moves seen n good = omega arith

code_begins : (seen : List ℕ) (n : ℕ) (rest : Words) → code.Good n → is_number_next (code.spell n ++ rest) ≡ true
unfolding number
code_begins seen n rest good = decimal-is_digits n (omega (arith, good.1))

pub numbers_law : IsExact numbers EndsNumbers
numbers_law =
    repeat_law (λ _. code_law) is_number_next code_moves (λ _ _ _. refl) (λ rest h. (h, tt)) code_begins (λ _ _ _ _. tt)

pub hint_law : (seen : List Hint) → IsExact hint EndsNumbers
unfolding hint
hint_law seen =
    seen_law hint_of hint_parts
    (keyed_law syntax (codes "clause")
    (then_law numbers_law (λ _ _. keyed_law syntax (codes "by") numbers_law) (λ _ _ _ _ _ _. refl)))
    (λ x good. refl) (λ h. refl)

-- a hint takes a token at least
pub hint_moves : (seen : List Hint) (h : Hint) → hint.Good h → 0 < length (hint.spell h)
unfolding hint
hint_moves seen h good = omega arith

hint_begins : (seen : List Hint) (h : Hint) (rest : Words) → hint.Good h →
    next_is (codes "clause") (hint.spell h ++ rest) ≡ true
unfolding hint
hint_begins seen h rest good = refl

hint_next : (seen : List Hint) (h : Hint) (rest : Words) → hint.Good h → EndsNumbers (hint.spell h ++ rest)
unfolding hint
hint_next seen h rest good = refl

-- neither a hint nor a row of digits comes
abbrev pub EndsHints : Words → Type 0
EndsHints rest = (next_is (codes "clause") rest ≡ false) × EndsNumbers rest

-- a list of hints is read exactly as it is spelled
pub hints_law : (name : Word) → IsExact (hints name) EndsHints
unfolding hints
hints_law name =
    keyed_law syntax (codes "log") (keyed_law syntax name
    (repeat_law hint_law (next_is (codes "clause")) hint_moves (λ _ _ _. refl) (λ rest h. h) hint_begins hint_next))

-- ---- how loops read them

-- how a code is read after others
abbrev pub code_reads : List ℕ → Reader ℕ
code_reads _ = code.read

-- reading a code moves on
pub codes_move : MovesOn code_reads
codes_move = moves_on (λ _. code_law) code_moves

-- how a hint is read after others
abbrev pub hint_reads : List Hint → Reader Hint
hint_reads _ = hint.read

-- reading a hint moves on
pub hints_move : MovesOn hint_reads
hints_move = moves_on hint_law hint_moves
