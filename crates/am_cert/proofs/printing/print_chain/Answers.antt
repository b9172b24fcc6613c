use Rattle.std.proofs.Common.{[], ◌∷◌, codes, decimal}
use Rattle.am_syntax.proofs.Laws.{appends_last, appends_whole, each_text, grew_first, grew_next, handed_on}
use Rattle.am_cert.specs.Printing.{step_words}
use Rattle.am_cert.proofs.PrintedTexts.{chain_text}
use Rattle.am_cert.proofs.printing.print_chain.Goals as goal

pub returns-in_err-print_number : goal.returns-in_err-print_number
returns-in_err-print_number c =
    rw (chain_text c.args.chain.now)
    (handed_on _ _ _ _ _ c.from_residual-in_err-print_number.ensures.1
    (grew_next (codes "chain") c.in_ok-word.ensures.ok (grew_first _ c.in_err-print_number.ensures)))

pub returns-in_err-print_steps : goal.returns-in_err-print_steps
returns-in_err-print_steps c =
    let chain = c.args.chain.now in
    let steps = rw c.as_slice.ensures at c.in_err-print_steps.ensures in
    rw (chain_text chain)
    (handed_on _ _ _ _ _ c.from_residual-in_err-print_steps.ensures.1
    (grew_next (codes "chain") c.in_ok-word.ensures.ok
    (grew_next (32 ∷ decimal chain.first) c.in_ok-print_number.ensures (grew_first (10 ∷ []) steps))))

pub returns : goal.returns
returns c =
    let chain = c.args.chain.now in
    let steps = rw c.as_slice.ensures at c.in_ok-print_steps.ensures in
    rw (chain_text chain)
    (appends_last _ _ c.word.new.self _ (codes "chain") _ c.in_ok-word.ensures.ok
    (appends_last _ _ c.print_number.new.out _ (32 ∷ decimal chain.first) _ c.in_ok-print_number.ensures
    (appends_last _ _ c.print_steps.new.out _ (each_text step_words chain.steps) (10 ∷ []) steps
    (appends_whole _ _ _ _ c.newline.ensures.ok c.newline.ensures.err))))
