use Rattle.std.proofs.Common.{◌++◌, flat_map, ap, ◌∙◌}
use Rattle.std.proofs.lemmas.List.{take_all}
use Rattle.am_syntax.proofs.Laws.{grew_item, handed_on}
use Rattle.am_syntax.specs.Canonical.{line}
use Rattle.am_cert.specs.Printing.{turn_row}
use Rattle.am_cert.proofs.PrintedTexts.{each_line}
use Rattle.am_cert.proofs.printing.print_turns.Goals as goal

pub returns-in_err-print_turn : goal.returns-in_err-print_turn
returns-in_err-print_turn c =
    let turns = c.args.turns.now in
    rw (each_line turn_row turns)
    (handed_on _ _ _ _ _ c.from_residual.ensures.1
    (grew_item (λ t. line (turn_row t)) turns c.turns.turn-index c.turn-item.result _ c.turns.out _ c.turns-test.true
    c.turn-item.is c.turns.invariant c.in_err-print_turn.ensures))

pub returns : goal.returns
returns c =
    let turns = c.args.turns.now in
    rw (each_line turn_row turns)
    (c.turns.invariant ∙ ap (λ ts. c.args.out.now ++ flat_map (λ t. line (turn_row t)) ts)
    (take_all c.turns.turn-index turns c.turns-test.false))
