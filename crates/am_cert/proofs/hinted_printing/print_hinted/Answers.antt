use Rattle.std.proofs.Common.{codes, map}
use Rattle.am_syntax.proofs.Laws.{grew_first, grew_next, handed_on}
use Rattle.am_syntax.specs.Canonical.{line, lines}
use Rattle.am_cert.specs.Printing.{answer_row, hints_rows, term_row, turn_row}
use Rattle.am_cert.proofs.PrintedTexts.{hinted_best_text, hinted_none_text}
use Rattle.am_cert.proofs.hinted_printing.print_hinted.Goals as goal

pub returns-in_err-print_terms-in-Best : goal.returns-in_err-print_terms-in-Best
returns-in_err-print_terms-in-Best c =
    let b = c.in-Best in
    let first = line (answer_row (codes "best")) in
    let terms = rw c.as_slice.ensures at c.in_err-print_terms-in-Best.ensures in
    rw b.is (rw (hinted_best_text b.term b.trace b.sound_log b.best_log c.args.first.now c.args.second.now)
    (handed_on _ _ _ _ _ c.from_residual-in_err-print_terms-in-Best.ensures.1
    (grew_next first c.in_ok-print_answer-in-Best.ensures (grew_first _ terms))))

pub returns-in_err-print_turns-in-Best : goal.returns-in_err-print_turns-in-Best
returns-in_err-print_turns-in-Best c =
    let b = c.in-Best in
    let first = line (answer_row (codes "best")) in
    let second = lines (map term_row b.term) in
    let terms = rw c.as_slice.ensures at c.in_ok-print_terms-in-Best.ensures in
    let turns = rw c.as_slice-in-Best.ensures at c.in_err-print_turns-in-Best.ensures in
    rw b.is (rw (hinted_best_text b.term b.trace b.sound_log b.best_log c.args.first.now c.args.second.now)
    (handed_on _ _ _ _ _ c.from_residual-in_err-print_turns-in-Best.ensures.1
    (grew_next first c.in_ok-print_answer-in-Best.ensures (grew_next second terms (grew_first _ turns)))))

pub returns-in_err-print_hints-in-Best : goal.returns-in_err-print_hints-in-Best
returns-in_err-print_hints-in-Best c =
    let b = c.in-Best in
    let first = line (answer_row (codes "best")) in
    let second = lines (map term_row b.term) in
    let third = lines (map turn_row b.trace) in
    let last = lines (hints_rows (codes "best") c.args.second.now) in
    let terms = rw c.as_slice.ensures at c.in_ok-print_terms-in-Best.ensures in
    let turns = rw c.as_slice-in-Best.ensures at c.in_ok-print_turns-in-Best.ensures in
    rw b.is (rw (hinted_best_text b.term b.trace b.sound_log b.best_log c.args.first.now c.args.second.now)
    (handed_on _ _ _ _ _ c.from_residual-in_err-print_hints-in-Best.ensures.1
    (grew_next first c.in_ok-print_answer-in-Best.ensures
    (grew_next second terms (grew_next third turns (grew_first last c.in_err-print_hints-in-Best.ensures))))))

pub returns-in_err-print_turns-in-Absent : goal.returns-in_err-print_turns-in-Absent
returns-in_err-print_turns-in-Absent c =
    let a = c.in-Absent in
    let first = line (answer_row (codes "none")) in
    let turns = rw c.as_slice-in-Absent.ensures at c.in_err-print_turns-in-Absent.ensures in
    rw a.is (rw (hinted_none_text a.trace a.log c.args.first.now c.args.second.now)
    (handed_on _ _ _ _ _ c.from_residual-in_err-print_turns-in-Absent.ensures.1
    (grew_next first c.in_ok-print_answer-in-Absent.ensures (grew_first _ turns))))
