use Rattle.std.proofs.Common.{◌≡◌, ◌∷◌, [], ◌<◌, length, get_or, ap, ◌∙◌}
use Rattle.std.proofs.lemmas.List.{get_or_default, get_or_read}
use Rattle.am_syntax.proofs.Laws.{grew_item, handed_on}
use Rattle.am_problem.specs.Texts.{name_at}
use Rattle.am_problem.proofs.printing.print_names.Goals as goal

pub returns-in_err-print_word : goal.returns-in_err-print_word
returns-in_err-print_word c =
    let names = c.args.p.now.names in
    let i = c.symbols.n-index in
    let n = get_or c.args.symbols.now i 0 in
    let below : n < length names = c.requires.known i 0 c.symbols-test.true in
    let read = c.index-names-n.is ∙ ap (λ vs. get_or vs n c.index-names-n.result) c.names-names.ensures in
    let same : c.as_slice.result.now ≡ name_at names n =
    c.as_slice.ensures ∙ get_or_read names n c.index-names-n.result below read [] in
    handed_on _ _ _ _ _ c.from_residual.ensures.1
    (grew_item (λ n. 32 ∷ name_at names n) c.args.symbols.now i n _ c.symbols.out _ c.symbols-test.true
    (get_or_default c.args.symbols.now i 0 n c.symbols-test.true) c.symbols.invariant
    (rw same at c.in_err-print_word.ensures))
