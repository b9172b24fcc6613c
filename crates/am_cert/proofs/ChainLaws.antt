-- Chains and logs are spelled as they are read, and read as they are spelled.
use Rattle.std.proofs.Common.{◌≡◌, ◌-◌, ◌^◌, ◌<◌, true, false, List, ◌++◌, length, codes, refl, arith, lit<}
use Rattle.am_chain.specs.declared.chain.Chain.{Chain}
use Rattle.am_chain.specs.declared.chain.Step.{Step}
use Rattle.am_syntax.specs.Exact.{IsExact, always}
use Rattle.am_syntax.specs.Pieces.{is_number_next, next_is, number, syntax}
use Rattle.am_syntax.specs.Readers.{Word, Words}
use Rattle.am_syntax.proofs.Laws.{decimal-is_digits, keyed_law, number_law, repeat_law, seen_law, then_law}
use Rattle.am_cert.specs.Grammar.{chain, chain_of, chain_parts, code, log, step, step_of, step_parts}
use Rattle.am_cert.proofs.RowLaws.{EndsNumbers}

-- a code is read exactly as it is spelled
pub code_law : IsExact code always
code_law = number_law 0 (2 ^ 32 - 1) (lit< tt)

-- a step is read as it is spelled, and spelled as it is read
pub step_law : (seen : List Step) → IsExact step always
step_law seen =
    seen_law step_of step_parts (then_law code_law (λ _ _. code_law) (λ _ _ _ _ _ _. tt)) (λ x good. refl) (λ s. refl)

-- a step takes a word at least
pub step_moves : (seen : List Step) (x : Step) → step.Good x → 0 < length (step.spell x)
unfolding number
step_moves seen x good = omega arith

step_begins : (seen : List Step) (x : Step) (rest : Words) → step.Good x → is_number_next (step.spell x ++ rest) ≡ true
unfolding number
step_begins seen x rest good = decimal-is_digits x.variable (omega (arith, good.0.1))

-- a chain is read as it is spelled, and spelled as it is read
pub chain_law : (seen : List Chain) → IsExact chain EndsNumbers
unfolding chain
chain_law seen =
    seen_law chain_of chain_parts
    (keyed_law syntax (codes "chain")
    (then_law code_law
    (λ _ _. repeat_law step_law is_number_next step_moves (λ _ _ _. refl) (λ rest h. (h, tt)) step_begins
    (λ _ _ _ _. tt))
    (λ _ _ _ _ _ _. tt)))
    (λ x good. refl) (λ c. refl)

-- a chain takes a word at least
pub chain_moves : (seen : List Chain) (c : Chain) → chain.Good c → 0 < length (chain.spell c)
unfolding chain
chain_moves seen c good = omega arith

chain_begins : (seen : List Chain) (c : Chain) (rest : Words) → chain.Good c →
    next_is (codes "chain") (chain.spell c ++ rest) ≡ true
unfolding chain
chain_begins seen c rest good = refl

chain_next : (seen : List Chain) (c : Chain) (rest : Words) → chain.Good c → EndsNumbers (chain.spell c ++ rest)
unfolding chain
chain_next seen c rest good = refl

-- neither a chain nor a row of digits comes
abbrev pub EndsLog : Words → Type 0
EndsLog rest = (next_is (codes "chain") rest ≡ false) × EndsNumbers rest

-- a log is read as it is spelled, and spelled as it is read
pub log_law : (name : Word) → IsExact (log name) EndsLog
unfolding log
log_law name =
    keyed_law syntax (codes "log") (keyed_law syntax name
    (repeat_law chain_law (next_is (codes "chain")) chain_moves (λ _ _ _. refl) (λ rest h. h) chain_begins chain_next))
