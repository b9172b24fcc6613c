use Rattle.std.proofs.Common.{List, sym, subst, arith}
use Rattle.std.proofs.lemmas.Result.{IfOk-weaker}
use Rattle.am_lit.specs.Truth.{value_at}
use Rattle.am_tree.specs.declared.tree.Tree.{Tree}
use Rattle.am_slot.specs.Encoding.{Encoding}
use Rattle.am_slot.specs.Template.{IsDerivedTuple}
use Rattle.am_slot.proofs.Bounds.{selectors_most}
use Rattle.am_slot.proofs.Tables.{whole}
use Rattle.am_slot.proofs.Stated.{derived_by}
use Rattle.am_slot.proofs.template.Template.decode.Goals as goal

pub trees-requires-clause-whole : goal.trees-requires-clause-whole
trees-requires-clause-whole c =
    whole c.self.inside.rules c.self.inside.starts c.self.inside.depth c.self.invariant.0.grammar

pub trees-requires-clause-few : goal.trees-requires-clause-few
trees-requires-clause-few c =
    let t = c.self.inside in
    rw c.as_slice.ensures
    (omega (arith, selectors_most t.rules t.starts t.depth c.self.invariant.0.grammar c.self.invariant.1))

pub returns-clause-derived : goal.returns-clause-derived
returns-clause-derived c =
    let t = c.self.inside in
    let e : Encoding = record { rules = t.rules; starts = t.starts; depth = t.depth; width = t.width } in
    rw (← c.self.view_is)
    (λ h. IfOk-weaker c.trees.result _ _
    (λ r is. subst (λ (ts : List Tree). IsDerivedTuple e ts) (sym (rw c.as_slice.ensures at is))
    (derived_by e c.self.invariant.0 (value_at c.args.a.now.values) h))
    c.trees.ensures)
