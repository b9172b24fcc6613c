use Rattle.std.proofs.Common.{List, Err, codes, ap, sym, ◌∙◌}
use Rattle.std.proofs.lemmas.Result.{err_from_is_err_and}
use Rattle.am_chain.specs.declared.chain.Chain.{Chain}
use Rattle.am_syntax.specs.Pieces.{MovesOn, next_is, repeat}
use Rattle.am_syntax.specs.Readers.{Reader}
use Rattle.am_syntax.proofs.Laws.{makes_err, moves_on, so_far_done, so_far_fails, so_far_more}
use Rattle.am_cert.specs.Grammar.{chain}
use Rattle.am_cert.proofs.ChainLaws.{chain_law, chain_moves}
use Rattle.am_cert.proofs.chains.read_chains.Goals as goal

abbrev reads : List Chain → Reader Chain
reads _ = chain.read

moves : MovesOn reads
moves = moves_on chain_law chain_moves

pub returns-in_err-read_chain : goal.returns-in_err-read_chain
returns-in_err-read_chain c =
    let p = err_from_is_err_and c.from_residual.result c.from_residual.ensures.1 in
    let left = c.read_chain.new.text in
    makes_err (λ xs. xs) c.args.text.now left (repeat (next_is (codes "chain")) (λ _. chain)).read
    c.in_err-read_chain.field-0.0
    c.from_residual.result (p.1 ∙ ap Err p.2) (λ cause is.
    so_far_fails (next_is (codes "chain")) reads moves c.chains.log c.chains.text (cause, left) _
    (sym c.is_next.ensures ∙ c.chains-test.true) (c.in_err-read_chain.ensures cause is) c.chains.invariant)

pub chains-smaller : goal.chains-smaller
chains-smaller c =
    moves c.chains.log c.chains.text c.in_ok-read_chain.field-0 c.read_chain.new.text c.in_ok-read_chain.ensures

pub chains-preserved : goal.chains-preserved
chains-preserved c =
    rw c.in_ok-push.ensures.ok
    (so_far_more (next_is (codes "chain")) reads moves c.chains.log c.chains.text c.in_ok-read_chain.field-0
    c.read_chain.new.text _
    (sym c.is_next.ensures ∙ c.chains-test.true) c.in_ok-read_chain.ensures c.chains.invariant)

pub returns : goal.returns
returns c =
    so_far_done (next_is (codes "chain")) reads moves c.chains.log c.chains.text _
    (sym c.is_next.ensures ∙ c.chains-test.false)
    c.chains.invariant
