-- How large the terms of a transformer of a problem are: their weights together, and their nodes.
use Rattle.std.proofs.Common.{◌≡◌, ℕ, zero, suc, ◌+◌, ◌-◌, ◌*◌, ◌^◌, ◌≤◌, ◌<◌, List, [], ◌∷◌, All, map, length, sum_by}
use Rattle.std.proofs.Common.{Some, None, lit≤, refl, sym, subst, arith}
use Rattle.std.specs.Prelude.{IsTrue, Option, slice_get}
use Rattle.std.specs.List.{AllByRecursion, AllZip}
use Rattle.std.proofs.Math.Nat.{mul-le-mul_right, one-le-pow, pow-le-pow_right, pow-succ'}
use Rattle.std.proofs.lemmas.Bool.{and_parts, eqb-true}
use Rattle.std.proofs.lemmas.List.Elements.{All-cons, All-nil, recursion_from_All}
use Rattle.std.proofs.lemmas.List.Sums.{sum_by-cons}
use Rattle.am_bv.specs.declared.op.Op.{Op}
use Rattle.am_bv.specs.declared.op.Op.TheVariants.{Not, Neg, Ite}
use Rattle.am_bv.specs.Operators.{arity}
use Rattle.am_bv.specs.Terms.{nodes, weight}
use Rattle.am_bv.specs.declared.term.Term.{Term}
use Rattle.am_bv.proofs.Laws.{arity_most, nodes-Node}
use Rattle.am_tree.specs.declared.grammar.Production.{Production}
use Rattle.am_tree.specs.declared.grammar.Production.TheVariants.{Leaf, Node}
use Rattle.am_tree.specs.declared.tree.Tree.{Tree}
use Rattle.am_tree.specs.Grammars.{is_production}
use Rattle.am_tree.specs.Trees.{AreDerived, Derives, Rules, children_of, production_at, production_of, term_by, term_of}
use Rattle.am_tree.specs.Trees.{terms_at}
use Rattle.am_tree.proofs.Laws.{leaf-small, term-by}
use Rattle.am_slot.specs.Template.{weight_of_block}
use Rattle.am_problem.specs.Limits.{IsFormed}
use Rattle.am_problem.specs.Problem.{Problem}
use Rattle.am_query.specs.Formulas.{encoding_of}
use Rattle.am_query.specs.Transformers.{IsTransformerOf}
use Rattle.am_query.proofs.Weighing.{tuple-weighs}

-- ---- what holds of all productions holds of each

module _ (P : Production → Type 0) where
  in_list : (ps : List Production) (k : ℕ) (p : Production) → AllByRecursion P ps → slice_get ps k ≡ Some p → P p
  in_list [] k p h s = cc
  in_list (q ∷ ps) zero p h s = let is : q ≡ p = cc in subst P is h.0
  in_list (q ∷ ps) (suc k) p h s = in_list ps k p h.1 s

  in_rules : (rules : Rules) (n k : ℕ) (p : Production) → AllByRecursion (λ ps. All P ps) rules →
      production_at rules n k ≡ Some p →
      P p
  in_rules [] n k p h s = cc
  in_rules (ps ∷ rules) zero k p h s = in_list ps k p (recursion_from_All P ps h.0) s
  in_rules (ps ∷ rules) (suc n) k p h s = in_rules rules n k p h.1 s

arity_least : (op : Op) → 1 ≤ arity op
arity_least Not = lit≤ tt
arity_least Neg = lit≤ tt
arity_least Ite = lit≤ tt
arity_least _ = lit≤ tt

module _ (p : Problem) (formed : IsFormed p) where
  is_formed : (n k : ℕ) (q : Production) → production_at p.rules n k ≡ Some q →
      IsTrue (is_production (length p.rules) q)
  is_formed n k q e =
      let Formed : Production → Type 0 = λ r. IsTrue (is_production (length p.rules) r) in
      in_rules Formed p.rules n k q (recursion_from_All (λ ps. All Formed ps) p.rules formed.grammar.productions) e

  as_many : (n k : ℕ) (op : Op) (names : List ℕ) → production_at p.rules n k ≡ Some (Node op names) →
      length names ≡ arity op
  as_many n k op names e = eqb-true (length names) (arity op) (and_parts _ _ (is_formed n k (Node op names) e)).0

  depth-below : suc (p.depth - 1) ≡ p.depth
  depth-below = omega (arith, formed.grammar.some_depth)

  -- the terms of a transformer weigh together no more than a block
  pub transformers_weigh : (terms : List Term) → IsTransformerOf p terms →
      sum_by (weight p.width) terms ≤ weight_of_block (encoding_of p)
  transformers_weigh terms is =
      let derive = subst (λ d. AllZip (Derives p.rules d) p.starts is.trees) (sym depth-below) is.derive in
      rw is.give
      (tuple-weighs p.rules p.width (λ n k op names e. omega (arith, as_many n k op names e, arity_least op))
      (p.depth - 1) p.starts is.trees derive)

  -- ---- nodes

  abbrev givers : List Tree → List (ℕ → Term)
  givers ts = map (λ t n. term_of p.rules n t) ts

  abbrev most : ℕ → ℕ
  most d = 64 * 4 ^ d

  IsSmall : ℕ → Type 0
  IsSmall d = (n : ℕ) (t : Tree) → Derives p.rules d n t → nodes (term_of p.rules n t) ≤ most d

  children-small : (d : ℕ) → IsSmall d → (names : List ℕ) (ts : List Tree) → AllZip (Derives p.rules d) names ts →
      sum_by nodes (terms_at names (givers ts)) ≤ length names * most d
  unfolding IsSmall
  children-small d each [] ts h = omega arith
  children-small d each (n ∷ names) [] h = absurd h
  children-small d each (n ∷ names) (t ∷ ts) h =
      omega (
        arith,
        sum_by-cons nodes (term_of p.rules n t) (terms_at names (givers ts)),
        each n t h.0,
        children-small d each names ts h.1,
      )

  at-most-three : (m : ℕ) (names : List ℕ) → length names ≤ 3 → length names * m ≤ 3 * m
  at-most-three m names l = mul-le-mul_right m l

  next-most : (d : ℕ) → 1 + 3 * most d ≤ most (suc d)
  next-most d = let four : 0 < 4 = omega arith in rw pow-succ' (omega (arith, one-le-pow d 4 four))

  production-small : (d n k : ℕ) → IsSmall d → (ts : List Tree) (o : Option Production) →
      production_at p.rules n k ≡ o → AreDerived (Derives p.rules d) o ts →
      nodes (term_by o (givers ts)) ≤ most (suc d)
  production-small d n k each ts None e h = absurd h
  production-small d n k each ts (Some (Leaf t)) e h =
      let four : 0 < 4 = omega arith in
      let few : nodes t ≤ 64 = leaf-small (length p.rules) t (is_formed n k (Leaf t) e) in
      omega (arith, few, one-le-pow (suc d) 4 four)
  production-small d n k each ts (Some (Node op names)) e h =
      let three : length names ≤ 3 = omega (arith, as_many n k op names e, arity_most op) in
      omega (
        arith,
        nodes-Node op (terms_at names (givers ts)),
        children-small d each names ts h,
        at-most-three (most d) names three,
        next-most d,
      )

  tree-small : (d : ℕ) → IsSmall d
  unfolding IsSmall
  tree-small zero n t h = absurd h
  tree-small (suc d) n t h =
      rw (term-by p.rules n t)
      (production-small d n (production_of t) (tree-small d) (children_of t) (production_at p.rules n (production_of t))
      refl h)

  few-nodes : (starts : List ℕ) (ts : List Tree) → AllZip (Derives p.rules p.depth) starts ts →
      All (λ t. nodes t < 2 ^ 32) (terms_at starts (givers ts))
  unfolding IsSmall
  few-nodes [] ts h = All-nil (λ (t : Term). nodes t < 2 ^ 32)
  few-nodes (n ∷ starts) [] h = absurd h
  few-nodes (n ∷ starts) (t ∷ ts) h =
      let four : 0 < 4 = omega arith in
      let deep : most p.depth ≤ 65536 = omega (arith, pow-le-pow_right four formed.grammar.most_depth) in
      All-cons (λ (x : Term). nodes x < 2 ^ 32) (term_of p.rules n t) (terms_at starts (givers ts))
      (omega (arith, tree-small p.depth n t h.0, deep))
      (few-nodes starts ts h.1)

  -- each term of a transformer has few nodes
  pub transformers_have_few_nodes : (terms : List Term) → IsTransformerOf p terms → All (λ t. nodes t < 2 ^ 32) terms
  transformers_have_few_nodes terms is =
      subst (λ ts. All (λ t. nodes t < 2 ^ 32) ts) (sym is.give) (few-nodes p.starts is.trees is.derive)
