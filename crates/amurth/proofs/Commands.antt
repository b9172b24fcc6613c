-- Words that call for a command.
use Rattle.std.proofs.Common.{◌≡◌, ℕ, ◌+◌, ◌≤◌, ◌^◌, List, [], ◌∷◌, Ok, decimal, length, arith, lit≤}
use Rattle.std.specs.Prelude.{Some, slice_get}
use Rattle.am_problem.specs.declared.generator.TheConstants.{LAST_PROBLEM}
use Rattle.am_syntax.specs.Pieces.{number_judge}
use Rattle.am_syntax.specs.Readers.{Word}
use Rattle.am_syntax.proofs.Laws.{numeral_passed, numeral_passes}

-- ---- lists of few words

-- a list of one word
pub one_word : (words : List Word) (v : Word) → length words ≡ 1 → slice_get words 0 ≡ Some v → words ≡ v ∷ []
one_word [] v l at = absurd (omega (arith, l))
one_word (w ∷ []) v l at = cc
one_word (w ∷ x ∷ ws) v l at = absurd (omega (arith, l))

-- a list of two words
pub two_words : (words : List Word) (v u : Word) → length words ≡ 2 → slice_get words 0 ≡ Some v →
    slice_get words 1 ≡ Some u → words ≡ v ∷ u ∷ []
two_words [] v u l first second = absurd (omega (arith, l))
two_words (w ∷ []) v u l first second = absurd (omega (arith, l))
two_words (w ∷ x ∷ []) v u l first second = cc
two_words (w ∷ x ∷ y ∷ ws) v u l first second = absurd (omega (arith, l))

-- ---- numbers of made problems

-- the least number after those of made problems is small
small_end : LAST_PROBLEM + 1 ≤ 2 ^ 64
small_end = lit≤ tt

-- a numeral that passes is the decimal text of its number
pub judged_numeral : (v : Word) (n : ℕ) → number_judge 0 (LAST_PROBLEM + 1) v ≡ Ok n → v ≡ decimal n
judged_numeral v n e = (numeral_passed 0 (LAST_PROBLEM + 1) small_end v n e).0

-- the decimal text of each number passes
pub numeral_judged : (n : ℕ) → n ≤ LAST_PROBLEM → number_judge 0 (LAST_PROBLEM + 1) (decimal n) ≡ Ok n
numeral_judged n few = numeral_passes 0 (LAST_PROBLEM + 1) small_end n (omega arith, omega (arith, few))
