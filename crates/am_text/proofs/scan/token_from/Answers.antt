use Rattle.std.proofs.Common.{◌<◌, length, ◌∙◌, sym, arith}
use Rattle.std.proofs.lemmas.Bool.{eqb-true, eqb-false}
use Rattle.am_text.proofs.Front.{tokens_at-next, tokens_at-none}
use Rattle.am_text.proofs.scan.token_from.Goals as goal

pub returns-then-is_empty-clause-none : goal.returns-then-is_empty-clause-none
returns-then-is_empty-clause-none c =
    tokens_at-none c.args.at c.spaces.result c.args.bytes.now c.split_at.result.1.now
    (c.spaces.ensures.value, c.split_at.ensures.back)
    (eqb-true _ _ (sym c.is_empty.ensures ∙ c.if-is_empty.true))

pub returns-clause-some : goal.returns-clause-some
returns-clause-some c =
    let apart = eqb-false _ _ (sym c.is_empty.ensures ∙ c.if-is_empty.false) in
    let long : 0 < length c.split_at.result.1.now = omega arith in
    let law = tokens_at-next c.args.at c.spaces.result c.args.bytes.now c.split_at.result.1.now
    (c.spaces.ensures.value, c.split_at.ensures.back) long in
    cc
