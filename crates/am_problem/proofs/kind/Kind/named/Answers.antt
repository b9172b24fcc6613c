use Rattle.std.proofs.Common.{◌≡◌, get_or, bytes_eq, ap, ◌∙◌, sym, false}
use Rattle.am_problem.specs.declared.kind.Kind.TheVariants.{UInterval}
use Rattle.am_problem.specs.Kinds.{kind_name, all_kinds}
use Rattle.am_problem.proofs.Finds.{find_more}
use Rattle.am_problem.proofs.kind.Kind.named.Goals as goal

pub loop-kind-preserved : goal.loop-kind-preserved
loop-kind-preserved c =
    let i = c.loop-kind.kind-index in
    let other : bytes_eq (kind_name (get_or all_kinds i UInterval)) c.args.word.now ≡ false =
    ap (λ n. bytes_eq n c.args.word.now) (sym c.name.ensures) ∙ sym c.eq.ensures ∙ c.if-eq.false in
    c.loop-kind.invariant
    ∙ find_more (λ kind. bytes_eq (kind_name kind) c.args.word.now) all_kinds i UInterval c.loop-kind-test.true other
