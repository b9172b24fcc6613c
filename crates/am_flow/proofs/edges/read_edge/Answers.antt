use Rattle.std.proofs.Common.{Err, length, ap, cond, le-ltb, ◌∙◌}
use Rattle.std.proofs.lemmas.Result.{err_from_is_err_and}
use Rattle.am_syntax.specs.declared.refusal.Cause.TheVariants.{Count}
use Rattle.am_syntax.specs.Readers.{Read, judged}
use Rattle.am_syntax.proofs.Laws.{makes_refused, refused_alike}
use Rattle.am_flow.specs.declared.flow.Edge.{Edge}
use Rattle.am_flow.specs.Grammar.{edge, edge_line}
use Rattle.am_flow.specs.inside.Shapes.{seen_shape}
use Rattle.am_flow.proofs.edges.read_edge.Goals as goal

pub returns-in_err-refuse_next : goal.returns-in_err-refuse_next
unfolding edge
returns-in_err-refuse_next c =
    let p = err_from_is_err_and c.from_residual.result c.from_residual.ensures.1 in
    let s = seen_shape c.args.shape.now in
    let cause = c.in_err-refuse_next.field-0.0 in
    let old = c.args.text.now in
    let left = c.refuse_next.new.text in
    let seen = c.args.seen.now in
    let refused : Read Edge = judged (λ _. Err Count) old in
    makes_refused (λ x. x) old left (edge s seen).read cause c.from_residual.result (p.1 ∙ ap Err p.2)
    (ap (λ b. cond b ((edge_line s).read old) refused) (le-ltb (length seen) 256 c.if-seen-lt-MOST_EDGES.false)
    ∙ refused_alike Count (cause, left) old c.in_err-refuse_next.ensures.value)
