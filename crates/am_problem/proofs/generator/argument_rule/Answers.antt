use Rattle.std.proofs.Common.{List, [], ◌∷◌, ◌++◌, ap, ◌∙◌, sym, arith}
use Rattle.std.proofs.lemmas.List.FromFn.{map-range_with_len_more}
use Rattle.am_bv.specs.declared.term.Term.TheVariants.{Field}
use Rattle.am_tree.specs.declared.grammar.Production.{Production}
use Rattle.am_tree.specs.declared.grammar.Production.TheVariants.{Leaf}
use Rattle.am_problem.proofs.generator.argument_rule.Goals as goal

pub loop-field-preserved : goal.loop-field-preserved
loop-field-preserved c =
    let field = c.loop-field.field in
    c.in_ok-push.ensures.ok
    ∙ ap (λ (ps : List Production). ps ++ Leaf (Field field) ∷ []) c.loop-field.invariant
    ∙ sym (map-range_with_len_more (λ i. Leaf (Field i)) 0 field field (omega arith))
