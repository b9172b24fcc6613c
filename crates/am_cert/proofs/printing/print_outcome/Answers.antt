use Rattle.std.proofs.Common.{◌∷◌, codes, map}
use Rattle.am_syntax.proofs.Laws.{appends_last, grew_first, grew_next, handed_on}
use Rattle.am_syntax.specs.Canonical.{line, lines}
use Rattle.am_cert.specs.Printing.{answer_row, asked_words, log_rows, term_row, turn_row}
use Rattle.am_cert.proofs.PrintedTexts.{best_text, conflicts_text}
use Rattle.am_cert.proofs.printing.print_outcome.Goals as goal

pub returns-in_err-print_terms-in-Best : goal.returns-in_err-print_terms-in-Best
returns-in_err-print_terms-in-Best c =
    let first = line (answer_row (codes "best")) in
    let terms = rw c.as_slice.ensures at c.in_err-print_terms-in-Best.ensures in
    rw c.in-Best.is (rw (best_text c.in-Best.term c.in-Best.trace c.in-Best.sound_log c.in-Best.best_log)
    (handed_on _ _ _ _ _ c.from_residual-in_err-print_terms-in-Best.ensures.1
    (grew_next first c.in_ok-print_answer-in-Best.ensures (grew_first _ terms))))

pub returns-in_err-print_turns-in-Best : goal.returns-in_err-print_turns-in-Best
returns-in_err-print_turns-in-Best c =
    let first = line (answer_row (codes "best")) in
    let second = lines (map term_row c.in-Best.term) in
    let terms = rw c.as_slice.ensures at c.in_ok-print_terms-in-Best.ensures in
    let turns = rw c.as_slice-in-Best.ensures at c.in_err-print_turns-in-Best.ensures in
    rw c.in-Best.is (rw (best_text c.in-Best.term c.in-Best.trace c.in-Best.sound_log c.in-Best.best_log)
    (handed_on _ _ _ _ _ c.from_residual-in_err-print_turns-in-Best.ensures.1
    (grew_next first c.in_ok-print_answer-in-Best.ensures (grew_next second terms (grew_first _ turns)))))

pub returns-in_err-print_log-in-Best : goal.returns-in_err-print_log-in-Best
returns-in_err-print_log-in-Best c =
    let first = line (answer_row (codes "best")) in
    let second = lines (map term_row c.in-Best.term) in
    let third = lines (map turn_row c.in-Best.trace) in
    let last = lines (log_rows (codes "best") c.in-Best.best_log) in
    let terms = rw c.as_slice.ensures at c.in_ok-print_terms-in-Best.ensures in
    let turns = rw c.as_slice-in-Best.ensures at c.in_ok-print_turns-in-Best.ensures in
    rw c.in-Best.is (rw (best_text c.in-Best.term c.in-Best.trace c.in-Best.sound_log c.in-Best.best_log)
    (handed_on _ _ _ _ _ c.from_residual-in_err-print_log-in-Best.ensures.1
    (grew_next first c.in_ok-print_answer-in-Best.ensures
    (grew_next second terms (grew_next third turns (grew_first last c.in_err-print_log-in-Best.ensures))))))

pub returns-in_err-print_turns-in-Conflicts : goal.returns-in_err-print_turns-in-Conflicts
returns-in_err-print_turns-in-Conflicts c =
    let first = line (answer_row (codes "conflicts")) in
    let turns = rw c.as_slice-in-Conflicts.ensures at c.in_err-print_turns-in-Conflicts.ensures in
    rw c.in-Conflicts.is (rw (conflicts_text c.in-Conflicts.trace c.in-Conflicts.asked c.in-Conflicts.log)
    (handed_on _ _ _ _ _ c.from_residual-in_err-print_turns-in-Conflicts.ensures.1
    (grew_next first c.in_ok-print_answer-in-Conflicts.ensures (grew_first _ turns))))

pub returns-in_err-print_asked-in-Conflicts : goal.returns-in_err-print_asked-in-Conflicts
returns-in_err-print_asked-in-Conflicts c =
    let first = line (answer_row (codes "conflicts")) in
    let second = lines (map turn_row c.in-Conflicts.trace) in
    let turns = rw c.as_slice-in-Conflicts.ensures at c.in_ok-print_turns-in-Conflicts.ensures in
    rw c.in-Conflicts.is (rw (conflicts_text c.in-Conflicts.trace c.in-Conflicts.asked c.in-Conflicts.log)
    (handed_on _ _ _ _ _ c.from_residual-in_err-print_asked-in-Conflicts.ensures.1
    (grew_next first c.in_ok-print_answer-in-Conflicts.ensures
    (grew_next second turns (grew_first _ c.in_err-print_asked-in-Conflicts.ensures)))))

pub returns-in_ok-print_asked-in-Conflicts : goal.returns-in_ok-print_asked-in-Conflicts
returns-in_ok-print_asked-in-Conflicts c =
    let first = line (answer_row (codes "conflicts")) in
    let second = lines (map turn_row c.in-Conflicts.trace) in
    let turns = rw c.as_slice-in-Conflicts.ensures at c.in_ok-print_turns-in-Conflicts.ensures in
    rw c.in-Conflicts.is (rw (conflicts_text c.in-Conflicts.trace c.in-Conflicts.asked c.in-Conflicts.log)
    (appends_last _ _ c.print_answer-in-Conflicts.new.out _ first _ c.in_ok-print_answer-in-Conflicts.ensures
    (appends_last _ _ c.print_turns-in-Conflicts.new.out _ second _ turns
    (appends_last _ _ c.print_asked.new.out _ (line (codes "query" ∷ asked_words c.in-Conflicts.asked)) _
    c.in_ok-print_asked-in-Conflicts.ensures c.print_log-in-Conflicts.ensures))))
