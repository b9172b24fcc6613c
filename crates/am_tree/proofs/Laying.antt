-- The slots of a grammar's layout spell exactly the tuples of trees that derive.
use Rattle.std.proofs.Common.{◌≡◌, ℕ, zero, suc, ◌<◌, ◌≤◌, List, [], ◌∷◌, length, get_or, arith, lit≤}
use Rattle.std.specs.Prelude.{All, IsTrue, Some, slice_get}
use Rattle.std.specs.List.{AllByRecursion}
use Rattle.std.proofs.lemmas.Bool.{and_parts, eqb-true}
use Rattle.std.proofs.lemmas.List.Elements.{recursion_from_All}
use Rattle.std.proofs.lemmas.Option.{get_or_from_slice_get, slice_get_within}
use Rattle.am_bv.specs.declared.op.Op.{Op}
use Rattle.am_bv.specs.declared.op.Op.TheVariants.{Not, Neg, Ite}
use Rattle.am_bv.specs.Operators.{arity}
use Rattle.am_tree.specs.declared.grammar.Production.{Production}
use Rattle.am_tree.specs.declared.grammar.Production.TheVariants.{Node}
use Rattle.am_tree.specs.Grammars.{IsGrammar, is_production}
use Rattle.am_tree.specs.Laid.{LayoutsHaveTheTrees}
use Rattle.am_tree.specs.Trees.{Rules, production_at}
use Rattle.am_tree.proofs.Chosen.{HaveArguments, trees-spelled}
use Rattle.am_tree.proofs.Spelled.{spelled-trees}

arity-least : (op : Op) → 1 ≤ arity op
arity-least Not = lit≤ tt
arity-least Neg = lit≤ tt
arity-least Ite = lit≤ tt
arity-least _ = lit≤ tt

each-production : (P : Production → Type 0) (rules : Rules) → AllByRecursion (All P) rules →
    (n k : ℕ) (p : Production) → production_at rules n k ≡ Some p → P p
each-production P [] h n k p e = cc
each-production P (ps ∷ rules) h zero k p e =
    let here : get_or ps k p ≡ p = get_or_from_slice_get ps k p p e in
    rw here at (h.0 k p (slice_get_within ps k p e))
each-production P (ps ∷ rules) h (suc n) k p e = each-production P rules h.1 n k p e

-- each node of a grammar has an argument
have-arguments : {rules : Rules} {starts : List ℕ} {depth : ℕ} → IsGrammar rules starts depth → HaveArguments rules
have-arguments {rules = rules} g n k op names e =
    let test = λ (p : Production). IsTrue (is_production (length rules) p) in
    let one : IsTrue (is_production (length rules) (Node op names)) =
    each-production test rules (recursion_from_All (All test) rules g.productions) n k (Node op names) e in
    omega (arith, eqb-true (length names) (arity op) (and_parts _ _ one).0, arity-least op)

-- the slots of a layout spell exactly the tuples of trees that derive
pub layouts-have-the-trees : LayoutsHaveTheTrees
layouts-have-the-trees rules starts depth g ts = (
  trees-spelled rules starts depth ts (have-arguments g) g.some_depth,
  spelled-trees rules starts depth ts g.some_depth,
)
