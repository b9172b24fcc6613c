-- The productions of an encoding fit its width and the fields.
use Rattle.std.proofs.Common.{ℕ, List, [], ◌∷◌, length, arith}
use Rattle.std.specs.Prelude.{All, IsTrue}
use Rattle.std.specs.List.{AllByRecursion}
use Rattle.std.proofs.lemmas.List.Elements.{All-from_recursion, recursion_from_All}
use Rattle.am_tree.specs.declared.grammar.Production.{Production}
use Rattle.am_tree.specs.declared.grammar.Production.TheVariants.{Leaf, Node}
use Rattle.am_tree.specs.Grammars.{is_production}
use Rattle.am_tree.specs.Trees.{Rules}
use Rattle.am_tree.proofs.Laws.{leaf-small, short-production}
use Rattle.am_slot.specs.Encoding.{Encoding, IsEncoding, is_leaf_over, AreOver}
use Rattle.am_slot.specs.inside.Fits.{IsSmallLeaf, IsFit, AreFit}
use Rattle.am_slot.proofs.Premises.{suits_of}
use Rattle.am_slot.proofs.Tables.{whole}

small : (n : ℕ) (p : Production) → IsTrue (is_production n p) → IsSmallLeaf p
small n (Leaf t) h = let few = leaf-small n t h in omega (arith, few)
small n (Node op names) h = tt

module _ (w count n : ℕ) where
  fit-list : (ps : List Production) → AllByRecursion (λ p. IsTrue (is_production n p)) ps →
      AllByRecursion (λ p. IsTrue (is_leaf_over w count p)) ps →
      AllByRecursion (IsFit w count) ps
  fit-list [] h o = tt
  fit-list (p ∷ ps) h o = (
    record { suits = suits_of w count n p h.0 o.0; small = small n p h.0; short = short-production n p h.0 },
    fit-list ps h.1 o.1,
  )

  fit-rules : (rules : Rules) → AllByRecursion (λ ps. All (λ p. IsTrue (is_production n p)) ps) rules →
      AllByRecursion (λ ps. All (λ p. IsTrue (is_leaf_over w count p)) ps) rules →
      AllByRecursion (λ ps. All (IsFit w count) ps) rules
  fit-rules [] h o = tt
  fit-rules (ps ∷ rules) h o = (
    All-from_recursion (IsFit w count) ps
        (fit-list ps (recursion_from_All (λ p. IsTrue (is_production n p)) ps h.0)
        (recursion_from_All (λ p. IsTrue (is_leaf_over w count p)) ps o.0)),
    fit-rules rules h.1 o.1,
  )

-- the productions of an encoding fit its width and its fields
pub are_fit : (e : Encoding) → IsEncoding e → (count : ℕ) → AreOver e count → AreFit e.width count e.rules
are_fit e is count over =
    let w = whole e.rules e.starts e.depth is.grammar in
    let n = length e.rules in
    record {
      productions = All-from_recursion (λ ps. All (IsFit e.width count) ps) e.rules
          (fit-rules e.width count n e.rules
          (recursion_from_All (λ ps. All (λ p. IsTrue (is_production n p)) ps) e.rules w.productions)
          (recursion_from_All (λ ps. All (λ p. IsTrue (is_leaf_over e.width count p)) ps) e.rules over));
      inside = w.inside;
      few = w.few;
    }
