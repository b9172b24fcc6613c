-- The texts of certificates, in the parts that are printed one after another.
use Rattle.std.proofs.Common.{◌≡◌, ℕ, List, [], ◌∷◌, ◌++◌, codes, decimal, flat_map, map, ap, refl, ◌∙◌, append_assoc}
use Rattle.std.proofs.lemmas.Grind.{flat_map-append}
use Rattle.std.proofs.lemmas.List.Folds.{flat_map-map}
use Rattle.am_bv.specs.declared.term.Term.{Term}
use Rattle.am_chain.specs.declared.chain.Chain.{Chain}
use Rattle.am_chain.specs.declared.chain.Step.{Step}
use Rattle.am_hint.specs.declared.hint.Hint.{Hint}
use Rattle.am_problem.specs.Printing.{problem_rows, problem_text}
use Rattle.am_problem.specs.Texts.{named}
use Rattle.am_query.specs.declared.asked.Asked.{Asked}
use Rattle.am_query.specs.declared.outcome.Outcome.TheVariants.{Absent, Best, Conflicts, Turns}
use Rattle.am_query.specs.declared.turn.Turn.{Turn}
use Rattle.am_syntax.proofs.Laws.{EachApart, StandApart, both_apart, each_text, number_apart, spaced_apart}
use Rattle.am_syntax.proofs.Laws.{spaced_each, word_apart}
use Rattle.am_syntax.specs.Canonical.{line, lines, spaced}
use Rattle.am_syntax.specs.Readers.{Words}
use Rattle.am_cert.specs.Certificate.{Certificate}
use Rattle.am_cert.specs.Grammar.{version_word}
use Rattle.am_cert.specs.Printing.{answer_row, answer_rows, asked_words, certificate_text, chain_row, hinted_rows}
use Rattle.am_cert.specs.Printing.{hints_rows, log_rows, outcome_rows, step_words, term_row, turn_row}

-- the lines of rows before others
both_lines : (rows more : List Words) → lines (rows ++ more) ≡ lines rows ++ lines more
both_lines rows more = flat_map-append line rows more

-- the lines of a row for each item
pub each_line : {X : Type 0} (row : X → Words) (xs : List X) → lines (map row xs) ≡ flat_map (λ x. line (row x)) xs
each_line row xs = flat_map-map line row xs

-- the version, the problem, the answer, and the last line
pub certificate_parts : (c : Certificate) → certificate_text c ≡
    line (codes "certificate" ∷ version_word c.version ∷ []) ++
    (problem_text c.problem ++
    (lines (answer_rows c.outcome c.proofs) ++
    lines ((codes "end" ∷ []) ∷ [])))
unfolding certificate_text problem_text
certificate_parts c =
    let problem = problem_rows (named c.problem) in
    let end : List Words = (codes "end" ∷ []) ∷ [] in
    ap (λ (bs : List ℕ). line (codes "certificate" ∷ version_word c.version ∷ []) ++ bs)
    (both_lines problem (answer_rows c.outcome c.proofs ++ end)
    ∙ ap (λ (bs : List ℕ). lines problem ++ bs) (both_lines (answer_rows c.outcome c.proofs) end))

-- ---- answers

-- a line, and four rows of lines
four_parts : (first : Words) (one two three four : List Words) →
    lines (first ∷ (one ++ (two ++ (three ++ four)))) ≡
    line first ++ (lines one ++ (lines two ++ (lines three ++ lines four)))
four_parts first one two three four =
    ap (λ (bs : List ℕ). line first ++ bs)
    (both_lines one (two ++ (three ++ four))
    ∙ ap (λ (bs : List ℕ). lines one ++ bs) (both_lines two (three ++ four)
    ∙ ap (λ (bs : List ℕ). lines two ++ bs) (both_lines three four)))

-- a line, and two rows of lines
two_parts : (first : Words) (one two : List Words) →
    lines (first ∷ (one ++ two)) ≡ line first ++ (lines one ++ lines two)
two_parts first one two = ap (λ (bs : List ℕ). line first ++ bs) (both_lines one two)

-- the lines of an answer that is best, part by part
pub best_text : (t : List Term) (trace : List Turn) (sound_log best_log : List Chain) →
    lines (outcome_rows (Best t trace sound_log best_log)) ≡
    line (answer_row (codes "best")) ++
    (lines (map term_row t) ++
    (lines (map turn_row trace) ++
    (lines (log_rows (codes "sound") sound_log) ++
    lines (log_rows (codes "best") best_log))))
best_text t trace sound_log best_log =
    four_parts (answer_row (codes "best")) (map term_row t) (map turn_row trace) (log_rows (codes "sound") sound_log)
    (log_rows (codes "best") best_log)

-- the lines of an answer that none is sound, part by part
pub none_text : (trace : List Turn) (log : List Chain) → lines (outcome_rows (Absent trace log)) ≡
    line (answer_row (codes "none")) ++ (lines (map turn_row trace) ++ lines (log_rows (codes "fit") log))
none_text trace log = two_parts (answer_row (codes "none")) (map turn_row trace) (log_rows (codes "fit") log)

-- the lines of an answer that all turns are spent, part by part
pub turns_text : (trace : List Turn) → lines (outcome_rows (Turns trace)) ≡
    line (answer_row (codes "turns")) ++ lines (map turn_row trace)
turns_text trace = refl

-- the lines of an answer that all conflicts are spent, part by part
pub conflicts_text : (trace : List Turn) (asked : Asked) (log : List Chain) →
    lines (outcome_rows (Conflicts trace asked log)) ≡
    line (answer_row (codes "conflicts")) ++
    (lines (map turn_row trace) ++
    (line (codes "query" ∷ asked_words asked) ++
    lines (log_rows (codes "spent") log)))
conflicts_text trace asked log =
    two_parts (answer_row (codes "conflicts")) (map turn_row trace)
    ((codes "query" ∷ asked_words asked) ∷ log_rows (codes "spent") log)

-- of each answer
pub ruleset outcome_texts = (best_text, none_text, turns_text, conflicts_text)

-- ---- answers with hints

-- the text of a best transformer with hints is that of its parts
pub hinted_best_text : (t : List Term) (trace : List Turn) (sound_log best_log : List Chain)
    (first second : List Hint) →
    lines (hinted_rows (Best t trace sound_log best_log) first second) ≡
    line (answer_row (codes "best")) ++
    (lines (map term_row t) ++
    (lines (map turn_row trace) ++
    (lines (hints_rows (codes "sound") first) ++
    lines (hints_rows (codes "best") second))))
hinted_best_text t trace sound_log best_log first second =
    four_parts (answer_row (codes "best")) (map term_row t) (map turn_row trace) (hints_rows (codes "sound") first)
    (hints_rows (codes "best") second)

-- the text of an answer with hints that none is sound is that of its parts
pub hinted_none_text : (trace : List Turn) (log : List Chain) (first second : List Hint) →
    lines (hinted_rows (Absent trace log) first second) ≡
    line (answer_row (codes "none")) ++ (lines (map turn_row trace) ++ lines (hints_rows (codes "fit") first))
hinted_none_text trace log first second =
    two_parts (answer_row (codes "none")) (map turn_row trace) (hints_rows (codes "fit") first)

-- of each answer with hints
pub ruleset hinted_texts = (hinted_best_text, hinted_none_text)

-- ---- chains

step_apart : (step : Step) → StandApart (step_words step)
step_apart step =
    both_apart (decimal step.variable ∷ []) (decimal step.clause ∷ []) (number_apart step.variable)
    (number_apart step.clause)

steps_apart : (steps : List Step) → EachApart step_words steps
steps_apart [] = tt
steps_apart (step ∷ steps) = (step_apart step, steps_apart steps)

-- a step's two numbers, each after a space
pub step_text : (step : Step) →
    32 ∷ spaced (step_words step) ≡ (32 ∷ decimal step.variable) ++ (32 ∷ decimal step.clause)
step_text step =
    ap (λ (bs : List ℕ). 32 ∷ bs)
    (spaced_apart (decimal step.variable ∷ []) (decimal step.clause ∷ []) (number_apart step.variable)
    (number_apart step.clause))

-- the line of a chain
pub chain_text : (chain : Chain) → line (chain_row chain) ≡
    codes "chain" ++ ((32 ∷ decimal chain.first) ++ (each_text step_words chain.steps ++ 10 ∷ []))
unfolding line
chain_text chain =
    let key = word_apart (codes "chain") refl refl in
    let own = number_apart chain.first in
    let head = both_apart (codes "chain" ∷ []) (decimal chain.first ∷ []) key own in
    let text = each_text step_words chain.steps in
    ap (λ (bs : List ℕ). bs ++ 10 ∷ [])
    (spaced_each step_words (codes "chain" ∷ decimal chain.first ∷ []) chain.steps head (steps_apart chain.steps))
    ∙ ap (λ (bs : List ℕ). (bs ++ text) ++ 10 ∷ [])
    (spaced_apart (codes "chain" ∷ []) (decimal chain.first ∷ []) key own)
    ∙ ap (λ (bs : List ℕ). codes "chain" ++ 32 ∷ bs) (append_assoc (decimal chain.first) text (10 ∷ []))
