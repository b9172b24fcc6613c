use Rattle.std.proofs.Common.{◌≡◌, ℕ, suc, true, List, [], ◌∷◌, ◌++◌, codes, decimal, drop, flat_map, get_or, take, ap}
use Rattle.std.proofs.Common.{subst, sym, refl, ◌∙◌, rules, append_assoc}
use Rattle.std.proofs.lemmas.List.{take_all}
use Rattle.std.proofs.lemmas.Result.{err_from_is_err_and}
use Rattle.am_bv.specs.Terms.{fits}
use Rattle.am_bv.specs.declared.op.Op.{Op}
use Rattle.am_bv.specs.declared.term.Term.{Term, the_lemmas}
use Rattle.am_bv.specs.declared.term.Term.TheVariants.{Node}
use Rattle.am_bv.proofs.Laws.{fits_child}
use Rattle.am_syntax.specs.declared.limits.Letter.{Letter}
use Rattle.am_syntax.specs.Canonical.{term_text}
use Rattle.am_syntax.specs.Names.{op_name}
use Rattle.am_syntax.specs.Spelling.{FitsSomewhere, letter_code}
use Rattle.am_syntax.proofs.SpacedLaws.{text-Const, text-Field, text-Node}
use Rattle.am_syntax.proofs.Growing.{appends_err, held_at, regrouped_end, regrouped_space, text_at, toward}
use Rattle.am_syntax.proofs.Growing.{toward_stopped}
use Rattle.am_syntax.proofs.print.+print_term.Goals as goal

abbrev args_text : Letter → List Term → List ℕ
args_text l ts = flat_map (λ t. 32 ∷ term_text (letter_code l) t) ts

-- the text of an operator at terms, whose list is had under another name
text_of_node : (l : Letter) (t : Term) (op : Op) (args items : List Term) → FitsSomewhere t → t ≡ Node op args →
    items ≡ args →
    term_text (letter_code l) t ≡ codes "(" ++ (op_name op ++ (args_text l items ++ codes ")"))
text_of_node l t op args items fit is same =
    ap (term_text (letter_code l)) is
    ∙ text-Node l fit.scope fit.is op args (subst (λ x. fits fit.scope.width fit.scope.variables x ≡ true) is fit.fit)
    ∙ ap (λ ts. codes "(" ++ (op_name op ++ (args_text l ts ++ codes ")"))) (sym same)

pub returns-in_err-number-in-Field : goal.returns-in_err-number-in-Field
returns-in_err-number-in-Field t c =
    let p =
    err_from_is_err_and c.from_residual-in_err-number-in-Field.result
    c.from_residual-in_err-number-in-Field.ensures.1 in
    let letter = letter_code c.args.letter in
    appends_err c.from_residual-in_err-number-in-Field.result p.0 c.args.out.now c.number-in-Field.new.self _ p.1
    (toward_stopped c.args.out.now c.number-in-Field.new.self (letter ∷ []) (decimal c.in-Field.i) _
    (c.in_err-number-in-Field.ensures.err ∙ c.in_ok-word-in-Field.ensures.ok
    ∙ ap (λ b. c.args.out.now ++ b ∷ []) c.code.ensures)
    (ap (term_text letter) c.in-Field.is ∙ text-Field letter c.in-Field.i))

pub returns-in_err-word-in-Node-2 : goal.returns-in_err-word-in-Node-2
returns-in_err-word-in-Node-2 t c =
    let p =
    err_from_is_err_and c.from_residual-in_err-word-in-Node-2.result c.from_residual-in_err-word-in-Node-2.ensures.1 in
    let args = c.in-Node.arguments in
    appends_err c.from_residual-in_err-word-in-Node-2.result p.0 c.args.out.now c.word-in-Node-2.new.self _ p.1
    (toward_stopped c.args.out.now c.word-in-Node-2.new.self
    (codes "(") (op_name c.in-Node.op ++ (args_text c.args.letter args ++ codes ")")) _
    (c.in_err-word-in-Node-2.ensures.err ∙ c.in_ok-word-in-Node.ensures.ok)
    (text_of_node c.args.letter c.args.t.now c.in-Node.op args args c.requires c.in-Node.is refl))

pub returns-in_err-space-in-Node : goal.returns-in_err-space-in-Node
returns-in_err-space-in-Node t c =
    let p =
    err_from_is_err_and c.from_residual-in_err-space-in-Node.result c.from_residual-in_err-space-in-Node.ensures.1 in
    let items = c.as_slice-argument-items.result.now in
    let i = c.arguments.argument-index in
    let op = op_name c.in-Node.op in
    let front = args_text c.args.letter (take i items) in
    let x = c.argument-item.result in
    let at : x ≡ get_or items i x = cc in
    let rest = term_text (letter_code c.args.letter) x ++ (args_text c.args.letter (drop (suc i) items) ++ codes ")") in
    appends_err c.from_residual-in_err-space-in-Node.result p.0 c.args.out.now c.space.new.self _ p.1
    (toward_stopped c.args.out.now c.space.new.self ((codes "(" ++ op) ++ front) (32 ∷ [] ++ rest) _
    (c.in_err-space-in-Node.ensures.err ∙ held_at c.args.out.now c.word-in-Node.new.self c.word-in-Node-2.new.self
    c.arguments.out (codes "(") op front c.in_ok-word-in-Node.ensures.ok
    (c.in_ok-word-in-Node-2.ensures.ok ∙ ap (λ bs. c.word-in-Node.new.self ++ bs) c.op_name.ensures)
    c.arguments.invariant)
    (text_of_node c.args.letter c.args.t.now c.in-Node.op c.in-Node.arguments items c.requires c.in-Node.is
    c.as_slice-argument-items.ensures
    ∙ text_at (term_text (letter_code c.args.letter)) items i x (codes "(") op (codes ")") c.arguments-test.true at
    ∙ regrouped_space (codes "(") op front (32 ∷ []) rest))

pub print_term-requires : goal.print_term-requires
print_term-requires t c =
    let scope = c.requires.scope in
    let node = subst (λ x. fits scope.width scope.variables x ≡ true) c.in-Node.is c.requires.fit in
    let at : c.argument-item.result ≡ get_or c.in-Node.arguments c.arguments.argument-index c.argument-item.result =
    cc in
    let child =
    fits_child scope.width scope.variables c.in-Node.op c.in-Node.arguments node c.arguments.argument-index
    c.argument-item.result (rw c.as_slice-argument-items.ensures at c.arguments-test.true) at in
    (search (rules, the_lemmas), record { scope = scope; is = c.requires.is; fit = child })

pub returns-in_err-print_term-in-Node : goal.returns-in_err-print_term-in-Node
returns-in_err-print_term-in-Node t c =
    let p =
    err_from_is_err_and c.from_residual-in_err-print_term-in-Node.result
    c.from_residual-in_err-print_term-in-Node.ensures.1 in
    let items = c.as_slice-argument-items.result.now in
    let i = c.arguments.argument-index in
    let op = op_name c.in-Node.op in
    let front = args_text c.args.letter (take i items) in
    let x = c.argument-item.result in
    let at : x ≡ get_or items i x = cc in
    let held =
    held_at c.args.out.now c.word-in-Node.new.self c.word-in-Node-2.new.self c.arguments.out
    (codes "(") op front c.in_ok-word-in-Node.ensures.ok
    (c.in_ok-word-in-Node-2.ensures.ok ∙ ap (λ bs. c.word-in-Node.new.self ++ bs) c.op_name.ensures)
    c.arguments.invariant in
    appends_err c.from_residual-in_err-print_term-in-Node.result p.0 c.args.out.now c.print_term.new.out _ p.1
    (toward c.args.out.now c.space.new.self c.print_term.new.out
    (((codes "(" ++ op) ++ front) ++ 32 ∷ []) (term_text (letter_code c.args.letter) x)
    (args_text c.args.letter (drop (suc i) items) ++ codes ")") _
    (c.in_ok-space-in-Node.ensures.ok ∙ ap (λ bs. bs ++ 32 ∷ []) held
    ∙ append_assoc c.args.out.now ((codes "(" ++ op) ++ front) (32 ∷ []))
    c.in_err-print_term-in-Node.ensures
    (text_of_node c.args.letter c.args.t.now c.in-Node.op c.in-Node.arguments items c.requires c.in-Node.is
    c.as_slice-argument-items.ensures
    ∙ text_at (term_text (letter_code c.args.letter)) items i x (codes "(") op (codes ")") c.arguments-test.true at))

pub returns-in_err-word-in-Node-3 : goal.returns-in_err-word-in-Node-3
returns-in_err-word-in-Node-3 t c =
    let p =
    err_from_is_err_and c.from_residual-in_err-word-in-Node-3.result c.from_residual-in_err-word-in-Node-3.ensures.1 in
    let items = c.as_slice-argument-items.result.now in
    let op = op_name c.in-Node.op in
    let all : take c.arguments.argument-index items ≡ items = take_all _ _ c.arguments-test.false in
    appends_err c.from_residual-in_err-word-in-Node-3.result p.0 c.args.out.now c.word-in-Node-3.new.self _ p.1
    (toward_stopped c.args.out.now c.word-in-Node-3.new.self
    ((codes "(" ++ op) ++ args_text c.args.letter items) (codes ")") _
    (c.in_err-word-in-Node-3.ensures.err ∙ held_at c.args.out.now c.word-in-Node.new.self c.word-in-Node-2.new.self
    c.arguments.out (codes "(") op (args_text c.args.letter items) c.in_ok-word-in-Node.ensures.ok
    (c.in_ok-word-in-Node-2.ensures.ok ∙ ap (λ bs. c.word-in-Node.new.self ++ bs) c.op_name.ensures)
    (c.arguments.invariant ∙ ap (λ ts. c.word-in-Node-2.new.self ++ args_text c.args.letter ts) all))
    (text_of_node c.args.letter c.args.t.now c.in-Node.op c.in-Node.arguments items c.requires c.in-Node.is
    c.as_slice-argument-items.ensures
    ∙ regrouped_end (codes "(") op (args_text c.args.letter items) (codes ")")))

pub returns-in_ok-number-in-Const : goal.returns-in_ok-number-in-Const
returns-in_ok-number-in-Const t c =
    let letter = letter_code c.args.letter in
    c.in_ok-number-in-Const.ensures.ok ∙ ap (λ n. c.args.out.now ++ decimal n) c.from.ensures
    ∙ ap (λ bs. c.args.out.now ++ bs) (sym (ap (term_text letter) c.in-Const.is ∙ text-Const letter c.in-Const.c))

pub returns-in_ok-number-in-Field : goal.returns-in_ok-number-in-Field
returns-in_ok-number-in-Field t c =
    let letter = letter_code c.args.letter in
    c.in_ok-number-in-Field.ensures.ok
    ∙ ap (λ n. c.word.new.self ++ decimal n) c.from-in-Field.ensures
    ∙ ap (λ bs. bs ++ decimal c.in-Field.i) (c.in_ok-word-in-Field.ensures.ok
    ∙ ap (λ b. c.args.out.now ++ b ∷ []) c.code.ensures)
    ∙ append_assoc c.args.out.now (letter ∷ []) (decimal c.in-Field.i)
    ∙ ap (λ bs. c.args.out.now ++ bs) (sym (ap (term_text letter) c.in-Field.is ∙ text-Field letter c.in-Field.i))

pub returns-in_ok-word-in-Node-3 : goal.returns-in_ok-word-in-Node-3
returns-in_ok-word-in-Node-3 t c =
    let items = c.as_slice-argument-items.result.now in
    let op = op_name c.in-Node.op in
    let all : take c.arguments.argument-index items ≡ items = take_all _ _ c.arguments-test.false in
    let held =
    held_at c.args.out.now c.word-in-Node.new.self c.word-in-Node-2.new.self c.arguments.out
    (codes "(") op (args_text c.args.letter items) c.in_ok-word-in-Node.ensures.ok
    (c.in_ok-word-in-Node-2.ensures.ok ∙ ap (λ bs. c.word-in-Node.new.self ++ bs) c.op_name.ensures)
    (c.arguments.invariant ∙ ap (λ ts. c.word-in-Node-2.new.self ++ args_text c.args.letter ts) all) in
    c.in_ok-word-in-Node-3.ensures.ok
    ∙ ap (λ bs. bs ++ codes ")") held
    ∙ append_assoc c.args.out.now ((codes "(" ++ op) ++ args_text c.args.letter items) (codes ")")
    ∙ ap (λ bs. c.args.out.now ++ bs) (sym (text_of_node c.args.letter c.args.t.now c.in-Node.op c.in-Node.arguments
    items c.requires c.in-Node.is c.as_slice-argument-items.ensures
    ∙ regrouped_end (codes "(") op (args_text c.args.letter items) (codes ")")))
