use Rattle.std.proofs.Common.{[], ◌∷◌, ◌++◌, codes, ap, ◌∙◌}
use Rattle.std.proofs.lemmas.List.{take_all}
use Rattle.am_syntax.proofs.Laws.{appends_last, appends_whole, each_text, grew_first, grew_item, grew_next, handed_on}
use Rattle.am_syntax.specs.Canonical.{spaced}
use Rattle.am_syntax.specs.Readers.{Words}
use Rattle.am_tree.specs.declared.grammar.Production.{Production}
use Rattle.am_problem.specs.Printing.{production_words}
use Rattle.am_problem.specs.Texts.{named_production}
use Rattle.am_problem.proofs.Printed.{rule_text}
use Rattle.am_problem.proofs.printing.print_rule.Goals as goal

pub returns-in_err-print_word : goal.returns-in_err-print_word
returns-in_err-print_word c =
    let is = c.requires in
    rw (rule_text c.args.p.now is.limits.formed c.args.name.now c.args.productions.now is.name is.known)
    (handed_on _ _ _ _ _ c.from_residual-in_err-print_word.ensures.1
    (grew_next (codes "rule") c.in_ok-word.ensures.ok (grew_first _ c.in_err-print_word.ensures)))

pub returns-in_err-print_production : goal.returns-in_err-print_production
returns-in_err-print_production c =
    let is = c.requires in
    let words : Production → Words = λ q. production_words (named_production c.args.p.now.names q) in
    let grew =
    grew_item (λ q. 32 ∷ spaced (words q)) c.args.productions.now c.productions.production-index
    c.production-item.result _ c.productions.out _ c.productions-test.true c.production-item.is
    c.productions.invariant c.in_err-print_production.ensures in
    rw (rule_text c.args.p.now is.limits.formed c.args.name.now c.args.productions.now is.name is.known)
    (handed_on _ _ _ _ _ c.from_residual-in_err-print_production.ensures.1
    (grew_next (codes "rule") c.in_ok-word.ensures.ok
    (grew_next (32 ∷ c.args.name.now) c.in_ok-print_word.ensures (grew_first (10 ∷ []) grew))))

pub returns : goal.returns
returns c =
    let is = c.requires in
    let words : Production → Words = λ q. production_words (named_production c.args.p.now.names q) in
    let all = take_all c.productions.production-index c.args.productions.now c.productions-test.false in
    let wrote = c.productions.invariant ∙ ap (λ qs. c.print_word.new.out ++ each_text words qs) all in
    rw (rule_text c.args.p.now is.limits.formed c.args.name.now c.args.productions.now is.name is.known)
    (appends_last _ _ c.word.new.self _ (codes "rule") _ c.in_ok-word.ensures.ok
    (appends_last _ _ c.print_word.new.out _ (32 ∷ c.args.name.now) _ c.in_ok-print_word.ensures
    (appends_last _ _ c.productions.out _ _ (10 ∷ []) wrote
    (appends_whole _ _ _ _ c.newline.ensures.ok c.newline.ensures.err))))
