use Rattle.std.proofs.Common.{◌≡◌, ◌-◌, [], ◌∷◌, true, sym, Ok, Err, ap, ◌∙◌, rules, arith, sum_by}
use Rattle.std.proofs.lemmas.Result.{err_from_is_err_and}
use Rattle.std.proofs.lemmas.List.Sums.{sum_by-append}
use Rattle.am_bv.specs.Terms.{nodes}
use Rattle.am_bv.specs.declared.term.Term.TheVariants.{Node}
use Rattle.am_bv.proofs.Laws.{nodes-Node}
use Rattle.am_syntax.specs.Pieces.{times_from}
use Rattle.am_syntax.specs.Readers.{done, onward}
use Rattle.am_syntax.specs.Spelling.{scope_of}
use Rattle.am_syntax.specs.Terms.{term_at}
use Rattle.am_syntax.proofs.Loops.{makes_err, makes_refused, times_done, times_fails, times_more}
use Rattle.am_syntax.proofs.TermSteps.{argument, head_is_one, sum_by-one, after_operator, close_node, term_after}
use Rattle.am_syntax.proofs.TermSteps.{term_leaf}
use Rattle.am_syntax.proofs.TermSteps.{term_node, term_refused}
use Rattle.am_syntax.proofs.terms.+read_node.Goals as goal

pub returns-in_err-head-clause-term : goal.returns-in_err-head-clause-term
returns-in_err-head-clause-term t c =
    let p = err_from_is_err_and c.from_residual.result c.from_residual.ensures.1 in
    makes_refused (λ t. t) c.args.text.now c.take_head.new.text _ c.in_err-head.field-0.0 c.from_residual.result
    (p.1 ∙ ap Err p.2)
    (term_refused (scope_of c.args.w c.args.limits.now) c.args.inside c.args.depth c.args.room.now c.args.text.now
    (c.in_err-head.field-0.0, c.take_head.new.text) c.in_err-head.ensures.value)

pub returns-in_err-op-in-None-clause-term : goal.returns-in_err-op-in-None-clause-term
returns-in_err-op-in-None-clause-term t c =
    let p = err_from_is_err_and c.from_residual-in_err-op-in-None.result c.from_residual-in_err-op-in-None.ensures.1 in
    let deep = c.in_ok-head.ensures.deeper (ap Ok c.in-None.is) in
    makes_refused (λ t. t) c.args.text.now c.take_operator.new.text _ c.in_err-op-in-None.field-0.0
    c.from_residual-in_err-op-in-None.result (p.1 ∙ ap Err p.2)
    (term_node (scope_of c.args.w c.args.limits.now) c.args.inside c.args.depth c.args.room.now c.args.text.now
    c.take_head.new.text deep (c.in_ok-head.ensures.value ∙ ap (λ h. Ok (h, c.take_head.new.text)) c.in-None.is)
    ∙ ap (onward (after_operator (argument (scope_of c.args.w c.args.limits.now) (c.args.depth - 1)
    (c.args.room.now - 1))))
    c.in_err-op-in-None.ensures)

pub arguments-init : goal.arguments-init
arguments-init t c = rw c.new-arguments.ensures (record { room = omega arith; read = search rules })

pub returns-in_err-read_node-in-None-clause-term : goal.returns-in_err-read_node-in-None-clause-term
returns-in_err-read_node-in-None-clause-term t c =
    let p =
    err_from_is_err_and c.from_residual-in_err-read_node-in-None.result
    c.from_residual-in_err-read_node-in-None.ensures.1 in
    let left = c.read_node.new.text in
    let deep = c.in_ok-head.ensures.deeper (ap Ok c.in-None.is) in
    let op = c.in_ok-op-in-None.op in
    let scope = scope_of c.args.w c.args.limits.now in
    let item = argument scope (c.args.depth - 1) (c.args.room.now - 1) in
    let n = c.arity-end.result in
    let behind = c.take_operator.new.text in
    let k : c.args.room.now - 1 - sum_by nodes c.arguments.arguments ≡ c.arguments.room =
    omega (arith, c.arguments.invariant.room) in
    makes_err (λ t. t) c.args.text.now left (term_at scope c.args.inside c.args.depth c.args.room.now)
    c.in_err-read_node-in-None.field-0.0 c.from_residual-in_err-read_node-in-None.result (p.1 ∙ ap Err p.2)
    (λ cause is.
    term_after scope c.args.inside c.args.depth c.args.room.now c.args.text.now c.take_head.new.text
    c.in_ok-head.head c.in_ok-head.ensures.value c.in-None.is deep op behind c.in_ok-op-in-None.ensures n
    c.arity-end.ensures.value
    ∙ ap (onward (close_node op)) (times_fails item n c.arguments.counter c.arguments.arguments c.arguments.text
    (cause, left) (times_from item n [] behind) c.arguments-test.true
    (ap (λ m. term_at scope true (c.args.depth - 1) m c.arguments.text) k
    ∙ c.in_err-read_node-in-None.ensures.term cause is) c.arguments.invariant.read))

pub arguments-preserved : goal.arguments-preserved
arguments-preserved t c =
    let scope = scope_of c.args.w c.args.limits.now in
    let item = argument scope (c.args.depth - 1) (c.args.room.now - 1) in
    let n = c.arity-end.result in
    let k : c.arguments.room ≡ c.args.room.now - 1 - sum_by nodes c.arguments.arguments =
    omega (arith, c.arguments.invariant.room) in
    let read =
    ap (λ m. term_at scope true (c.args.depth - 1) m c.arguments.text) (sym k)
    ∙ c.in_ok-read_node-in-None.ensures.term in
    rw c.in_ok-push-in-None.ensures.ok (record {
      room =
          omega (
            arith,
            c.arguments.invariant.room,
            c.in_ok-read_node-in-None.ensures.room,
            sum_by-append nodes c.arguments.arguments (c.in_ok-read_node-in-None.field-0 ∷ []),
            sum_by-one nodes c.in_ok-read_node-in-None.field-0,
          );
      read =
          times_more item n c.arguments.counter c.arguments.arguments c.arguments.text c.in_ok-read_node-in-None.field-0
          c.read_node.new.text _ c.arguments-test.true read c.arguments.invariant.read;
    })

pub returns-in_err-take_closing-in-None-clause-term : goal.returns-in_err-take_closing-in-None-clause-term
returns-in_err-take_closing-in-None-clause-term t c =
    let p =
    err_from_is_err_and c.from_residual-in_err-take_closing-in-None.result
    c.from_residual-in_err-take_closing-in-None.ensures.1 in
    let e = c.in_err-take_closing-in-None.field-0.0 in
    let deep = c.in_ok-head.ensures.deeper (ap Ok c.in-None.is) in
    let op = c.in_ok-op-in-None.op in
    let item = argument (scope_of c.args.w c.args.limits.now) (c.args.depth - 1) (c.args.room.now - 1) in
    let n = c.arity-end.result in
    let all =
    times_done item n c.arguments.counter c.arguments.arguments c.arguments.text _ c.arguments-test.false
    c.arguments.invariant.read in
    makes_refused (λ t. t) c.args.text.now c.take_closing.new.text _
    e c.from_residual-in_err-take_closing-in-None.result (p.1 ∙ ap Err p.2)
    (term_after (scope_of c.args.w c.args.limits.now) c.args.inside c.args.depth c.args.room.now c.args.text.now
    c.take_head.new.text c.in_ok-head.head c.in_ok-head.ensures.value c.in-None.is deep op c.take_operator.new.text
    c.in_ok-op-in-None.ensures n c.arity-end.ensures.value
    ∙ ap (onward (close_node op)) all
    ∙ ap (onward (λ _. done (Node op c.arguments.arguments))) c.in_err-take_closing-in-None.ensures)

pub returns-in-Some-clause-term : goal.returns-in-Some-clause-term
returns-in-Some-clause-term t c =
    term_leaf (scope_of c.args.w c.args.limits.now) c.args.inside c.args.depth c.args.room.now c.args.text.now
    c.in-Some.leaf c.take_head.new.text (c.in_ok-head.ensures.value
    ∙ ap (λ h. Ok (h, c.take_head.new.text)) c.in-Some.is)

pub returns-in-Some-clause-room : goal.returns-in-Some-clause-room
returns-in-Some-clause-room t c =
    let one =
    head_is_one (scope_of c.args.w c.args.limits.now) c.args.inside c.args.depth c.args.room.now c.args.text.now
    c.in-Some.leaf c.take_head.new.text (c.in_ok-head.ensures.value
    ∙ ap (λ h. Ok (h, c.take_head.new.text)) c.in-Some.is) in
    omega (arith, one, c.in_ok-head.ensures.room)

pub returns-in_ok-take_closing-in-None-clause-term : goal.returns-in_ok-take_closing-in-None-clause-term
returns-in_ok-take_closing-in-None-clause-term t c =
    let deep = c.in_ok-head.ensures.deeper (ap Ok c.in-None.is) in
    let op = c.in_ok-op-in-None.op in
    let item = argument (scope_of c.args.w c.args.limits.now) (c.args.depth - 1) (c.args.room.now - 1) in
    let n = c.arity-end.result in
    let all =
    times_done item n c.arguments.counter c.arguments.arguments c.arguments.text _ c.arguments-test.false
    c.arguments.invariant.read in
    term_after (scope_of c.args.w c.args.limits.now) c.args.inside c.args.depth c.args.room.now c.args.text.now
    c.take_head.new.text c.in_ok-head.head c.in_ok-head.ensures.value c.in-None.is deep op c.take_operator.new.text
    c.in_ok-op-in-None.ensures n c.arity-end.ensures.value
    ∙ ap (onward (close_node op)) all
    ∙ ap (onward (λ _. done (Node op c.arguments.arguments))) c.in_ok-take_closing-in-None.ensures

pub returns-in_ok-take_closing-in-None-clause-room : goal.returns-in_ok-take_closing-in-None-clause-room
returns-in_ok-take_closing-in-None-clause-room t c =
    omega (
      arith,
      c.arguments.invariant.room,
      nodes-Node c.in_ok-op-in-None.op c.arguments.arguments,
      c.in_ok-head.ensures.room,
    )
