use Rattle.std.proofs.Common.{ℕ, List, [], ◌∷◌, ◌++◌, ap, ◌∙◌, sym}
use Rattle.am_problem.proofs.Lists.{range_with_len-more}
use Rattle.am_problem.proofs.generator.starts_of.Goals as goal

pub loop-field-preserved : goal.loop-field-preserved
loop-field-preserved c =
    c.in_ok-push.ensures.ok
    ∙ ap (λ (ns : List ℕ). ns ++ c.loop-field.field ∷ []) c.loop-field.invariant
    ∙ sym (range_with_len-more c.loop-field.field)
