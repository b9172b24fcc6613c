use Rattle.std.proofs.Common.{◌≡◌, ℕ, [], refl, subst}
use Rattle.std.proofs.lemmas.List.{take_all}
use Rattle.std.proofs.lemmas.List.Elements.{All-more}
use Rattle.std.specs.Prelude.{All}
use Rattle.am_tree.specs.Listed.{trees_by}
use Rattle.am_all.proofs.TreeLists.{trees_by-none}
use Rattle.am_all.proofs.levels.has_tree.Goals as goal

pub loop-production-preserved : goal.loop-production-preserved
loop-production-preserved c = λ f told.
    All-more (λ p. (i : ℕ) → trees_by f i p ≡ []) c.args.productions.now c.loop-production.production-index
    c.production-item.result
    c.loop-production-test.true (c.loop-production.invariant f told)
    (subst (λ p. (i : ℕ) → trees_by f i p ≡ []) c.production-item.is (rw c.in-Node.is
    (λ i. trees_by-none f i c.in-Node.field-0 c.in-Node.names
    (rw c.as_slice.ensures at (c.if-have_trees.ensures refl f told)))))

pub returns : goal.returns
returns c = λ said f told.
    subst (λ ps. All (λ p. (i : ℕ) → trees_by f i p ≡ []) ps)
    (take_all c.loop-production.production-index c.args.productions.now c.loop-production-test.false)
    (c.loop-production.invariant f told)
