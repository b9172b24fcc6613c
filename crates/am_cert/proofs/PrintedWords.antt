-- What was printed reads back: the words of a canonical text are those of its rows, which are the certificate's.
use Rattle.std.proofs.Common.{◌≡◌, ℕ, ◌+◌, ◌*◌, ◌^◌, min, Bool, true, false, List, [], ◌∷◌, ◌++◌, codes, decimal}
use Rattle.std.proofs.Common.{flat_map, map, ap, sym, refl, ◌∙◌}
use Rattle.std.proofs.lemmas.Bool.{both_ways}
use Rattle.std.proofs.lemmas.List.Concat.{flat_map_single}
use Rattle.std.proofs.lemmas.List.Folds.{flat_map-map}
use Rattle.am_bv.specs.declared.term.Term.{Term}
use Rattle.am_chain.specs.declared.chain.Chain.{Chain}
use Rattle.am_hint.specs.declared.hint.Hint.{Hint}
use Rattle.am_problem.proofs.Laws.{joined-append, joined_rows_of, rows_spelled}
use Rattle.am_problem.specs.Grammar.{problem}
use Rattle.am_problem.specs.Printing.{problem_rows}
use Rattle.am_problem.specs.Texts.{named}
use Rattle.am_problem.specs.declared.examples.Positive.{Positive}
use Rattle.am_query.specs.declared.asked.Asked.{Asked}
use Rattle.am_query.specs.declared.asked.Asked.TheVariants.{Keep, Precise, Sound, Start}
use Rattle.am_query.specs.declared.outcome.Outcome.{Outcome}
use Rattle.am_query.specs.declared.outcome.Outcome.TheVariants.{Absent, Best, Conflicts, Turns}
use Rattle.am_query.specs.declared.turn.Turn.{Turn}
use Rattle.am_query.specs.declared.turn.Turn.TheVariants.{Negative as NegativeTurn, Positive as PositiveTurn}
use Rattle.am_syntax.proofs.Laws.{lines_is_text, lines_words}
use Rattle.am_syntax.specs.Pieces.{Piece, below, key_or, keyed, number, times}
use Rattle.am_syntax.specs.Readers.{Word, Words}
use Rattle.am_syntax.specs.Spelling.{letter_code, term_words}
use Rattle.am_syntax.specs.declared.limits.Letter.TheVariants.{F}
use Rattle.am_cert.specs.Certificate.{AreHintsOf, AreProofsOf, Certificate, IsCertificate}
use Rattle.am_cert.specs.Grammar.{ProblemShape, answer, asked, best, chain, code, example, hint, hinted_best}
use Rattle.am_cert.specs.Grammar.{hinted_none}
use Rattle.am_cert.specs.Grammar.{hints, log, negative_count, none, numbers, outcome, place_after, places}
use Rattle.am_cert.specs.Grammar.{result_term, shape_of, spent_conflicts, spent_turns, step, terms, turn, turns}
use Rattle.am_cert.specs.Grammar.{version_word, word, words}
use Rattle.am_cert.specs.Printing.{answer_row, answer_rows, asked_words, certificate_rows, certificate_text}
use Rattle.am_cert.specs.Printing.{chain_row, example_words, hint_row, hinted_rows, hints_rows, log_rows}
use Rattle.am_cert.specs.Printing.{outcome_rows, step_words, term_row, terms_words, turn_row}
use Rattle.am_cert.specs.Texts.{ReadsAsCertificate, certificate_words}
use Rattle.am_cert.specs.declared.version.Version.{Version}
use Rattle.am_cert.specs.Versions.{has_hints}
use Rattle.am_cert.specs.declared.answer.Proofs.{Proofs}
use Rattle.am_cert.specs.declared.answer.Proofs.TheVariants.{Chains, Hinted}
use Rattle.am_cert.proofs.Items.{spelled_each}
use Rattle.am_cert.proofs.PrintedTokens.{rows_are_tokens}

-- ---- the words of the rows are the certificate's

-- the joined rows of items
joined_rows : {X : Type 0} (row : X → Words) (xs : List X) → joined_rows_of (map row xs) ≡ flat_map row xs
joined_rows row xs = flat_map-map (λ ws. ws) row xs

module _ (s : ProblemShape) where
  terms_spelled : (ts : List Term) → terms_words ts ≡ (terms s).spell ts
  terms_spelled ts = sym (spelled_each (λ _. result_term s) (term_words (letter_code F)) (λ _ t. refl) [] ts)

  words_spelled : (count : ℕ) (ns : List ℕ) → map decimal ns ≡ (words s count).spell ns
  unfolding number
  words_spelled count ns =
      sym (flat_map_single decimal ns) ∙ sym (spelled_each (λ _. word s) (λ n. decimal n ∷ []) (λ _ n. refl) [] ns)

  places_spelled : (count : ℕ) (ns : List ℕ) → map decimal ns ≡ (places count).spell ns
  unfolding below
  places_spelled count ns =
      sym (flat_map_single decimal ns)
      ∙ sym (spelled_each (λ before. below (place_after before) (min count (2 ^ 32))) (λ n. decimal n ∷ [])
      (λ _ n. refl) [] ns)

  example_spelled : (count : ℕ) (t : List Term) (e : Positive) (ns : List ℕ) →
      example_words t e (map decimal ns) ≡ (example s count).spell (t, (e.inputs, (e.words, ns)))
  example_spelled count t e ns =
      let all = s.inputs * s.fields in
      let own = (words s all).spell e.inputs in
      let each = (words s s.inputs).spell e.words in
      let kept = map decimal ns in
      let behind = codes "word" ∷ (map decimal e.words ++ (codes "kept" ∷ kept)) in
      ap (λ (ws : Words). ws ++ (codes "in" ∷ (map decimal e.inputs ++ behind))) (terms_spelled t)
      ∙ ap (λ (ws : Words). (terms s).spell t ++ (codes "in" ∷ ws))
      (ap (λ (ws : Words). ws ++ behind) (words_spelled all e.inputs)
      ∙ ap (λ (ws : Words). own ++ (codes "word" ∷ ws))
      (ap (λ (ws : Words). ws ++ (codes "kept" ∷ kept)) (words_spelled s.inputs e.words)
      ∙ ap (λ (ws : Words). each ++ (codes "kept" ∷ ws)) (places_spelled count ns)))

  -- ---- turns, and the query

  turn_spelled : (most : ℕ) (seen : List Turn) (t : Turn) → (turn s most seen).spell t ≡ turn_row t
  unfolding turn number
  turn_spelled most seen (PositiveTurn t e kept) =
      ap (λ (ws : Words). codes "positive" ∷ ws) (sym (example_spelled (negative_count seen) t e kept))
  turn_spelled most seen (NegativeTurn t e) =
      let all = s.inputs * s.fields in
      let out : Words = codes "out" ∷ decimal e.word ∷ [] in
      ap (λ (ws : Words). codes "negative" ∷ ws)
      (ap (λ (ws : Words). ws ++ (codes "in" ∷ ((words s all).spell e.inputs ++ out))) (sym (terms_spelled t))
      ∙ ap (λ (ws : Words). terms_words t ++ (codes "in" ∷ (ws ++ out))) (sym (words_spelled all e.inputs)))

  trace_spelled : (most : ℕ) (trace : List Turn) → joined_rows_of (map turn_row trace) ≡ (turns s most).spell trace
  unfolding turns
  trace_spelled most trace =
      joined_rows turn_row trace ∙ sym (spelled_each (turn s most) turn_row (turn_spelled most) [] trace)

  asked_spelled : (trace : List Turn) (a : Asked) → codes "query" ∷ asked_words a ≡ (asked s trace).spell a
  unfolding asked key_or
  asked_spelled trace Start = refl
  asked_spelled trace (Keep t e ns) =
      ap (λ (ws : Words). codes "query" ∷ codes "keep" ∷ ws) (example_spelled (negative_count trace) t e ns)
  asked_spelled trace (Sound t) = ap (λ (ws : Words). codes "query" ∷ codes "sound" ∷ ws) (terms_spelled t)
  asked_spelled trace (Precise t) = ap (λ (ws : Words). codes "query" ∷ codes "precise" ∷ ws) (terms_spelled t)

-- ---- logs

chain_spelled : (c : Chain) → chain.spell c ≡ chain_row c
unfolding chain number
chain_spelled c =
    ap (λ (ws : Words). codes "chain" ∷ decimal c.first ∷ ws)
    (spelled_each (λ _. step) step_words (λ _ t. refl) [] c.steps)

log_spelled : (name : Word) (chains : List Chain) → joined_rows_of (log_rows name chains) ≡ (log name).spell chains
unfolding log
log_spelled name chains =
    ap (λ (ws : Words). codes "log" ∷ name ∷ ws)
    (joined_rows chain_row chains ∙ sym (spelled_each (λ _. chain) chain_row (λ _ c. chain_spelled c) [] chains))

-- ---- hints

numbers_spelled : (ns : List ℕ) → numbers.spell ns ≡ map decimal ns
unfolding number
numbers_spelled ns =
    spelled_each (λ _. code) (λ n. decimal n ∷ []) (λ _ n. refl) [] ns ∙ flat_map_single decimal ns

hint_spelled : (h : Hint) → hint.spell h ≡ hint_row h
unfolding hint
hint_spelled h =
    ap (λ (ws : Words). codes "clause" ∷ (ws ++ (codes "by" ∷ numbers.spell h.by))) (numbers_spelled h.clause)
    ∙ ap (λ (ws : Words). codes "clause" ∷ (map decimal h.clause ++ (codes "by" ∷ ws))) (numbers_spelled h.by)

hints_spelled : (name : Word) (hs : List Hint) → joined_rows_of (hints_rows name hs) ≡ (hints name).spell hs
unfolding hints
hints_spelled name hs =
    ap (λ (ws : Words). codes "log" ∷ name ∷ ws)
    (joined_rows hint_row hs ∙ sym (spelled_each (λ _. hint) hint_row (λ _ h. hint_spelled h) [] hs))

-- ---- answers

module _ (s : ProblemShape) where
  abbrev term_lines : Piece (List Term)
  term_lines = times (λ _. keyed (codes "term") (result_term s)) s.fields

  term_lines_spelled : (ts : List Term) → joined_rows_of (map term_row ts) ≡ term_lines.spell ts
  term_lines_spelled ts =
      joined_rows term_row ts
      ∙ sym (spelled_each (λ _. keyed (codes "term") (result_term s)) term_row (λ _ t. refl) [] ts)

  -- a key word, the lines of terms, turns, and two rows of lines
  four_spelled : (t : List Term) (trace : List Turn) (third fourth : List Words) (three four : Words) →
      joined_rows_of third ≡ three → joined_rows_of fourth ≡ four →
      joined_rows_of (answer_row (codes "best") ∷ (map term_row t ++ (map turn_row trace ++ (third ++ fourth)))) ≡
      codes "answer" ∷ codes "best" ∷ (term_lines.spell t ++ ((turns s s.turns).spell trace ++ (three ++ four)))
  four_spelled t trace third fourth three four is_third is_fourth =
      let turn_rows = map turn_row trace in
      let one = term_lines.spell t in
      let two = (turns s s.turns).spell trace in
      ap (λ (ws : Words). codes "answer" ∷ codes "best" ∷ ws)
      (joined-append (map term_row t) (turn_rows ++ (third ++ fourth))
      ∙ ap (λ (ws : Words). ws ++ joined_rows_of (turn_rows ++ (third ++ fourth))) (term_lines_spelled t)
      ∙ ap (λ (ws : Words). one ++ ws) (joined-append turn_rows (third ++ fourth)
      ∙ ap (λ (ws : Words). ws ++ joined_rows_of (third ++ fourth)) (trace_spelled s s.turns trace)
      ∙ ap (λ (ws : Words). two ++ ws) (joined-append third fourth
      ∙ ap (λ (ws : Words). ws ++ joined_rows_of fourth) is_third
      ∙ ap (λ (ws : Words). three ++ ws) is_fourth)))

  -- a key word, turns, and a row of lines
  two_spelled : (trace : List Turn) (rows : List Words) (two : Words) → joined_rows_of rows ≡ two →
      joined_rows_of (answer_row (codes "none") ∷ (map turn_row trace ++ rows)) ≡
      codes "answer" ∷ codes "none" ∷ ((turns s s.turns).spell trace ++ two)
  two_spelled trace rows two is =
      ap (λ (ws : Words). codes "answer" ∷ codes "none" ∷ ws)
      (joined-append (map turn_row trace) rows
      ∙ ap (λ (ws : Words). ws ++ joined_rows_of rows) (trace_spelled s s.turns trace)
      ∙ ap (λ (ws : Words). (turns s s.turns).spell trace ++ ws) is)

  best_spelled : (t : List Term) (trace : List Turn) (sound_log best_log : List Chain) →
      joined_rows_of (outcome_rows (Best t trace sound_log best_log)) ≡
      codes "answer" ∷ (outcome s).spell (Best t trace sound_log best_log)
  unfolding outcome best
  best_spelled t trace sound_log best_log =
      four_spelled t trace (log_rows (codes "sound") sound_log) (log_rows (codes "best") best_log)
      ((log (codes "sound")).spell sound_log) ((log (codes "best")).spell best_log)
      (log_spelled (codes "sound") sound_log) (log_spelled (codes "best") best_log)

  none_spelled : (trace : List Turn) (chains : List Chain) →
      joined_rows_of (outcome_rows (Absent trace chains)) ≡ codes "answer" ∷ (outcome s).spell (Absent trace chains)
  unfolding outcome none
  none_spelled trace chains =
      two_spelled trace (log_rows (codes "fit") chains) ((log (codes "fit")).spell chains)
      (log_spelled (codes "fit") chains)

  turns_spelled : (trace : List Turn) →
      joined_rows_of (outcome_rows (Turns trace)) ≡ codes "answer" ∷ (outcome s).spell (Turns trace)
  unfolding outcome spent_turns
  turns_spelled trace =
      ap (λ (ws : Words). codes "answer" ∷ codes "turns" ∷ ws) (trace_spelled s (s.turns + 1) trace)

  conflicts_spelled : (trace : List Turn) (a : Asked) (chains : List Chain) →
      joined_rows_of (outcome_rows (Conflicts trace a chains)) ≡ codes "answer" ∷ (outcome s).spell
      (Conflicts trace a chains)
  unfolding outcome spent_conflicts
  conflicts_spelled trace a chains =
      let rows = log_rows (codes "spent") chains in
      let query = codes "query" ∷ asked_words a in
      let first = (turns s s.turns).spell trace in
      let second = (asked s trace).spell a in
      ap (λ (ws : Words). codes "answer" ∷ codes "conflicts" ∷ ws)
      (joined-append (map turn_row trace) (query ∷ rows)
      ∙ ap (λ (ws : Words). ws ++ joined_rows_of (query ∷ rows)) (trace_spelled s s.turns trace)
      ∙ ap (λ (ws : Words). first ++ (ws ++ joined_rows_of rows)) (asked_spelled s trace a)
      ∙ ap (λ (ws : Words). first ++ (second ++ ws)) (log_spelled (codes "spent") chains))

  outcome_spelled : (o : Outcome) → joined_rows_of (outcome_rows o) ≡ codes "answer" ∷ (outcome s).spell o
  outcome_spelled (Best t trace sound_log best_log) = best_spelled t trace sound_log best_log
  outcome_spelled (Absent trace chains) = none_spelled trace chains
  outcome_spelled (Turns trace) = turns_spelled trace
  outcome_spelled (Conflicts trace a chains) = conflicts_spelled trace a chains

  hinted_spelled : (o : Outcome) (first second : List Hint) → AreHintsOf o first second →
      joined_rows_of (hinted_rows o first second) ≡
      codes "answer" ∷ (answer true s).spell (record { outcome = o; proofs = Hinted first second })
  unfolding answer hinted_best hinted_none
  hinted_spelled (Best t trace [] []) first second are =
      four_spelled t trace (hints_rows (codes "sound") first) (hints_rows (codes "best") second)
      ((hints (codes "sound")).spell first) ((hints (codes "best")).spell second)
      (hints_spelled (codes "sound") first) (hints_spelled (codes "best") second)
  hinted_spelled (Absent trace []) first [] are =
      two_spelled trace (hints_rows (codes "fit") first) ((hints (codes "fit")).spell first)
      (hints_spelled (codes "fit") first)
  hinted_spelled (Best t trace [] (c ∷ best_log)) first second are = absurd are
  hinted_spelled (Best t trace (c ∷ sound_log) best_log) first second are = absurd are
  hinted_spelled (Absent trace []) first (h ∷ second) are = absurd are
  hinted_spelled (Absent trace (c ∷ chains)) first second are = absurd are
  hinted_spelled (Turns trace) first second are = absurd are
  hinted_spelled (Conflicts trace asked chains) first second are = absurd are

  proved_spelled : (v : Version) (by_hints : Bool) → has_hints v ≡ by_hints → (o : Outcome) (proofs : Proofs) →
      AreProofsOf v o proofs →
      joined_rows_of (answer_rows o proofs)
      ≡ codes "answer" ∷ (answer by_hints s).spell (record { outcome = o; proofs = proofs })
  unfolding answer
  proved_spelled v false is o Chains are = outcome_spelled o
  proved_spelled v true is o Chains are = absurd (both_ways (has_hints v) are is)
  proved_spelled v true is o (Hinted first second) are = hinted_spelled o first second are.1
  proved_spelled v false is o (Hinted first second) are = absurd (both_ways (has_hints v) is are.0)

-- ---- the whole

certificate_spelled : (c : Certificate) → IsCertificate c → joined_rows_of (certificate_rows c) ≡ certificate_words c
certificate_spelled c is =
    let lines = named c.problem in
    let end : List Words = (codes "end" ∷ []) ∷ [] in
    let proved = answer_rows c.outcome c.proofs in
    let rest = proved ++ end in
    ap (λ (ws : Words). codes "certificate" ∷ version_word c.version ∷ ws)
    (joined-append (problem_rows lines) rest
    ∙ ap (λ (ws : Words). ws ++ joined_rows_of rest) (rows_spelled lines)
    ∙ ap (λ (ws : Words). problem.spell lines ++ ws) (joined-append proved end
    ∙ ap (λ (ws : Words). ws ++ codes "end" ∷ [])
    (proved_spelled (shape_of lines) c.version (has_hints c.version) refl c.outcome c.proofs is.proofs)))

-- what was printed reads back
pub printed_certificates_read : (c : Certificate) → IsCertificate c → ReadsAsCertificate (certificate_text c) c
unfolding certificate_text
printed_certificates_read c is =
    let rows = certificate_rows c in
    let tokens = rows_are_tokens c is in
    record {
      allowed = lines_is_text rows tokens;
      spelled = lines_words rows tokens ∙ certificate_spelled c is;
      limits = is;
    }
