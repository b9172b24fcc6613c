-- What the productions of an encoding are, one by one.
use Rattle.std.proofs.Common.{◌≡◌, ℕ, zero, suc, ◌<◌, ◌≤◌, List, [], ◌∷◌, Some, length, lit≤, subst, arith}
use Rattle.std.specs.Prelude.{All, IsTrue, slice_get}
use Rattle.std.specs.List.{AllByRecursion}
use Rattle.std.proofs.lemmas.Bool.{and_parts, eqb-true}
use Rattle.std.proofs.lemmas.List.Elements.{recursion_from_All}
use Rattle.am_bv.specs.declared.op.Op.{Op}
use Rattle.am_bv.specs.declared.op.Op.TheVariants.{Not, Neg, Ite}
use Rattle.am_bv.specs.Operators.{arity}
use Rattle.am_tree.specs.declared.grammar.Production.{Production}
use Rattle.am_tree.specs.declared.grammar.Production.TheVariants.{Leaf, Node}
use Rattle.am_tree.specs.Grammars.{is_production}
use Rattle.am_tree.specs.Trees.{Rules, production_at}
use Rattle.am_slot.specs.Encoding.{Encoding, IsEncoding, is_leaf_over, AreOver}
use Rattle.am_slot.specs.inside.Fits.{SuitsArity}

module _ (P : Production → Type 0) where
  in_list : (ps : List Production) (k : ℕ) (p : Production) → AllByRecursion P ps → slice_get ps k ≡ Some p → P p
  in_list [] k p h s = cc
  in_list (q ∷ ps) zero p h s = let is : q ≡ p = cc in subst P is h.0
  in_list (q ∷ ps) (suc k) p h s = in_list ps k p h.1 s

  in_rules : (rules : Rules) (n k : ℕ) (p : Production) → AllByRecursion (λ ps. All P ps) rules
      → production_at rules n k ≡ Some p
      → P p
  in_rules [] n k p h s = cc
  in_rules (ps ∷ rules) zero k p h s = in_list ps k p (recursion_from_All P ps h.0) s
  in_rules (ps ∷ rules) (suc n) k p h s = in_rules rules n k p h.1 s

  -- what holds of all productions holds of each
  pub of_each : (rules : Rules) → All (All P) rules → (n k : ℕ) (p : Production) → production_at rules n k ≡ Some p
      → P p
  of_each rules h n k p s = in_rules rules n k p (recursion_from_All (λ ps. All P ps) rules h) s

-- each production suits the width and the fields
abbrev pub AllSuit : Rules → ℕ → ℕ → Type 0
AllSuit rules w count = (n k : ℕ) (p : Production) → production_at rules n k ≡ Some p → SuitsArity w count p

-- each operator has arguments
abbrev pub Arities : Rules → Type 0
Arities rules = (n k : ℕ) (p : Production) → production_at rules n k ≡ Some p → (op : _) (names : List ℕ)
    → p ≡ Node op names
    → 0 < length names

-- a production of a grammar whose leaf is over the fields suits them
pub suits_of : (w count n : ℕ) (p : Production) → IsTrue (is_production n p) → IsTrue (is_leaf_over w count p)
    → SuitsArity w count p
suits_of w count n (Leaf t) h o = o
suits_of w count n (Node op names) h o = eqb-true (length names) (arity op) (and_parts _ _ h).0

arity_least : (op : Op) → 1 ≤ arity op
arity_least Not = lit≤ tt
arity_least Neg = lit≤ tt
arity_least Ite = lit≤ tt
arity_least _ = lit≤ tt

has_arguments : (n : ℕ) (p : Production) → IsTrue (is_production n p) → (op : Op) (names : List ℕ) → p ≡ Node op names
    → 0 < length names
has_arguments n (Leaf t) h op names s = cc
has_arguments n (Node o ms) h op names s =
    let many : length ms ≡ arity o = eqb-true (length ms) (arity o) (and_parts _ _ h).0 in
    let same : ms ≡ names = cc in
    subst (λ (l : List ℕ). 0 < length l) same (omega (arith, many, arity_least o))

-- the productions of an encoding suit its width and its fields
pub all_suit : (e : Encoding) → IsEncoding e → (count : ℕ) → AreOver e count → AllSuit e.rules e.width count
all_suit e is count over n k p s =
    suits_of e.width count (length e.rules) p
    (of_each (λ q. IsTrue (is_production (length e.rules) q)) e.rules is.grammar.productions n k p s)
    (of_each (λ q. IsTrue (is_leaf_over e.width count q)) e.rules over n k p s)

-- each operator of an encoding has arguments
pub arities : (e : Encoding) → IsEncoding e → Arities e.rules
arities e is n k p s =
    has_arguments (length e.rules) p
    (of_each (λ q. IsTrue (is_production (length e.rules) q)) e.rules is.grammar.productions n k p s)
