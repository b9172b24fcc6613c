use Rattle.std.proofs.Common.{[], ◌∷◌, codes}
use Rattle.am_syntax.proofs.Laws.{appends_last, appends_whole, grew_first, grew_next, handed_on}
use Rattle.am_problem.proofs.Lists.{all_items}
use Rattle.am_problem.proofs.Printed.{start_text}
use Rattle.am_problem.proofs.printing.print_starts.Goals as goal

pub returns-in_err-print_names : goal.returns-in_err-print_names
returns-in_err-print_names c =
    let below = all_items _ c.args.starts.now c.requires.known in
    rw (start_text c.args.p.now.names c.requires.limits.formed.names.names c.args.starts.now below)
    (handed_on _ _ _ _ _ c.from_residual-in_err-print_names.ensures.1
    (grew_next (codes "start") c.in_ok-word.ensures.ok (grew_first (10 ∷ []) c.in_err-print_names.ensures)))

pub returns : goal.returns
returns c =
    let below = all_items _ c.args.starts.now c.requires.known in
    rw (start_text c.args.p.now.names c.requires.limits.formed.names.names c.args.starts.now below)
    (appends_last _ _ c.word.new.self _ (codes "start") _ c.in_ok-word.ensures.ok
    (appends_last _ _ c.print_names.new.out _ _ (10 ∷ []) c.in_ok-print_names.ensures
    (appends_whole _ _ _ _ c.newline.ensures.ok c.newline.ensures.err)))
