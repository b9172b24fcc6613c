use Rattle.std.proofs.Common.{◌++◌, codes, ap, ◌∙◌}
use Rattle.am_syntax.specs.Names.{op_name}
use Rattle.am_syntax.proofs.Laws.{appends_last, appends_whole, grew_first, grew_next, handed_on}
use Rattle.am_problem.proofs.Lists.{all_items}
use Rattle.am_problem.proofs.Printed.{call_text}
use Rattle.am_problem.proofs.printing.print_call.Goals as goal

pub returns-in_err-print_names : goal.returns-in_err-print_names
returns-in_err-print_names c =
    let below = all_items _ c.args.symbols.now c.requires.known in
    let called = c.in_ok-word-2.ensures.ok ∙ ap (λ bs. c.word.new.self ++ bs) c.op_name.ensures in
    rw (call_text c.args.p.now.names c.requires.limits.formed.names.names c.args.op c.args.symbols.now below)
    (handed_on _ _ _ _ _ c.from_residual-in_err-print_names.ensures.1
    (grew_next (codes "(") c.in_ok-word.ensures.ok
    (grew_next (op_name c.args.op) called (grew_first (codes ")") c.in_err-print_names.ensures))))

pub returns : goal.returns
returns c =
    let below = all_items _ c.args.symbols.now c.requires.known in
    let called = c.in_ok-word-2.ensures.ok ∙ ap (λ bs. c.word.new.self ++ bs) c.op_name.ensures in
    rw (call_text c.args.p.now.names c.requires.limits.formed.names.names c.args.op c.args.symbols.now below)
    (appends_last _ _ c.word.new.self _ (codes "(") _ c.in_ok-word.ensures.ok
    (appends_last _ _ c.word-2.new.self _ (op_name c.args.op) _ called
    (appends_last _ _ c.print_names.new.out _ _ (codes ")") c.in_ok-print_names.ensures
    (appends_whole _ _ _ _ c.word-3.ensures.ok c.word-3.ensures.err))))
