use Rattle.std.proofs.Common.{◌++◌, ◌≤◌, flat_map, length, ap, arith, sym, ◌∙◌}
use Rattle.std.proofs.lemmas.List.{take_all}
use Rattle.std.proofs.lemmas.Option.{get_or_from_slice_get, slice_get_within}
use Rattle.am_syntax.proofs.Laws.{grew_item, handed_on, wrote_item}
use Rattle.am_syntax.specs.Canonical.{line}
use Rattle.am_cert.specs.Printing.{chain_row}
use Rattle.am_cert.proofs.PrintedTexts.{each_line}
use Rattle.am_cert.proofs.printing.print_chains.Goals as goal

pub returns-in_err-print_chain : goal.returns-in_err-print_chain
returns-in_err-print_chain c =
    let log = c.args.log.now in
    let i = c.chains.i in
    let chain = c.get.result.now in
    rw (each_line chain_row log)
    (handed_on _ _ _ _ _ c.from_residual.ensures.1
    (grew_item (λ x. line (chain_row x)) log i chain _ c.chains.out _ (slice_get_within log i chain c.get.ensures)
    (sym (get_or_from_slice_get log i chain chain c.get.ensures)) c.chains.invariant c.in_err-print_chain.ensures))

pub chains-preserved : goal.chains-preserved
chains-preserved c =
    let log = c.args.log.now in
    let i = c.chains.i in
    let chain = c.get.result.now in
    wrote_item (λ x. line (chain_row x)) log i chain _ c.chains.out _ (slice_get_within log i chain c.get.ensures)
    (sym (get_or_from_slice_get log i chain chain c.get.ensures)) c.chains.invariant c.in_ok-print_chain.ensures

pub returns : goal.returns
returns c =
    let log = c.args.log.now in
    let all : length log ≤ c.chains.i = omega (arith, c.len-i-end.ensures, c.chains-test.false) in
    rw (each_line chain_row log)
    (c.chains.invariant ∙ ap (λ xs. c.args.out.now ++ flat_map (λ x. line (chain_row x)) xs)
    (take_all c.chains.i log all))
