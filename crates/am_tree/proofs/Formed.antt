-- What a grammar's productions are.
use Rattle.std.proofs.Common.{◌≡◌, ℕ, ◌+◌, ◌<◌, ◌≤◌, true, List, [], ◌∷◌, length, get_or, arith}
use Rattle.std.specs.Prelude.{All, IsTrue, Some, slice_get, sum_by, nat_lt}
use Rattle.std.specs.List.{AllByRecursion, list_all}
use Rattle.std.proofs.lemmas.Bool.{and_from, and_parts, eqb-true, leb-true, le-leb, ltb-true, lt-ltb}
use Rattle.std.proofs.lemmas.List.Elements.{recursion_from_All, All-from_recursion}
use Rattle.std.proofs.lemmas.Option.{get_or_from_slice_get, slice_get_within}
use Rattle.std.proofs.lemmas.List.Sums.{sum_by-cons, AllPass-from_list_all, list_all-from_AllPass}
use Rattle.am_bv.specs.declared.op.Op.{Op}
use Rattle.am_bv.specs.Operators.{arity}
use Rattle.am_bv.specs.Terms.{has_arities, nodes}
use Rattle.am_bv.specs.declared.term.Term.{Term}
use Rattle.am_bv.proofs.Laws.{arity_most}
use Rattle.am_tree.specs.declared.grammar.Production.{Production}
use Rattle.am_tree.specs.declared.grammar.Production.TheVariants.{Leaf, Node}
use Rattle.am_tree.specs.Grammars.{is_production, IsGrammar}
use Rattle.am_tree.specs.Trees.{Rules}
use Rattle.am_tree.specs.inside.Totals.{HasBounds, HasSmallLeaf}
use Rattle.am_tree.specs.Slots.{positioned, arguments, AreInside}
use Rattle.am_tree.proofs.Loops.{length-positioned}

-- a production has at most three arguments
pub short-production : (count : ℕ) (p : Production) → IsTrue (is_production count p) → length (arguments p) ≤ 3
short-production count (Leaf t) h = omega arith
short-production count (Node op names) h =
    let many : length names ≡ arity op = eqb-true (length names) (arity op) (and_parts _ _ h).0 in
    omega (arith, length-positioned 0 names, many, arity_most op)

below-positioned : (count i : ℕ) (names : List ℕ) → list_all (λ n. nat_lt n count) names ≡ true →
    AllByRecursion (λ a. a.symbol < count) (positioned i names)
below-positioned count i [] h = tt
below-positioned count i (n ∷ names) h =
    (ltb-true _ _ (and_parts _ _ h).0, below-positioned count (i + 1) names (and_parts _ _ h).1)

inside-production : (count : ℕ) (p : Production) → IsTrue (is_production count p) →
    AllByRecursion (λ a. a.symbol < count) (arguments p)
inside-production count (Leaf t) h = tt
inside-production count (Node op names) h = below-positioned count 0 names (and_parts _ _ h).1

inside-list : (count : ℕ) (ps : List Production) → AllByRecursion (λ p. IsTrue (is_production count p)) ps →
    AllByRecursion (λ p. AllByRecursion (λ a. a.symbol < count) (arguments p)) ps
inside-list count [] h = tt
inside-list count (p ∷ ps) h = (inside-production count p h.0, inside-list count ps h.1)

inside-rules : (count : ℕ) (rules : Rules) → AllByRecursion (λ ps. All (λ p. IsTrue (is_production count p)) ps) rules →
    AreInside count rules
inside-rules count [] h = tt
inside-rules count (ps ∷ rules) h = (
  inside-list count ps (recursion_from_All (λ p. IsTrue (is_production count p)) ps h.0),
  inside-rules count rules h.1,
)

-- a grammar's productions name its own nonterminals alone
pub inside : (rules : Rules) (starts : List ℕ) (depth : ℕ) → IsGrammar rules starts depth →
    AreInside (length rules) rules
inside rules starts depth g =
    inside-rules (length rules) rules
    (recursion_from_All (λ ps. All (λ p. IsTrue (is_production (length rules) p)) ps) rules g.productions)

few-each : (most : ℕ) (rules : Rules) → sum_by length rules ≤ most → AllByRecursion (λ ps. length ps ≤ most) rules
few-each most [] h = tt
few-each most (ps ∷ rules) h =
    let sum = sum_by-cons (λ (l : List Production). length l) ps rules in
    (omega (arith, sum, h), few-each most rules (omega (arith, sum, h)))

-- a grammar's nonterminals have at most 64 productions each
pub few : (rules : Rules) (starts : List ℕ) (depth : ℕ) → IsGrammar rules starts depth →
    AllByRecursion (λ ps. length ps ≤ 64) rules
few rules starts depth g = few-each 64 rules g.few_productions

-- each production of a grammar is one
pub formed-at : {rules : Rules} {starts : List ℕ} {depth : ℕ} → IsGrammar rules starts depth →
    (n p : ℕ) (ps : List Production) (q : Production) →
    slice_get rules n ≡ Some ps → slice_get ps p ≡ Some q → IsTrue (is_production (length rules) q)
formed-at {rules = rules} g n p ps q e f =
    let here : get_or rules n [] ≡ ps = get_or_from_slice_get rules n ps [] e in
    let there : get_or ps p q ≡ q = get_or_from_slice_get ps p q q f in
    let within : p < length (get_or rules n []) = rw here (slice_get_within ps p q f) in
    let one : IsTrue (is_production (length rules) (get_or (get_or rules n []) p q)) =
    g.productions n [] (slice_get_within rules n ps e) p q within in
    rw (here, there) at one

-- the nonterminals of a node are some of the grammar's
pub name-inside : (count : ℕ) (op : Op) (names : List ℕ) (i n : ℕ) → IsTrue (is_production count (Node op names)) →
    slice_get names i ≡ Some n →
    n < count
name-inside count op names i n h e =
    let within = slice_get_within names i n e in
    let here : get_or names i n ≡ n = get_or_from_slice_get names i n n e in
    let test : nat_lt (get_or names i n) count ≡ true =
    AllPass-from_list_all (λ m. nat_lt m count) names (and_parts _ _ h).1 i n within in
    ltb-true n count (rw here at test)

-- a nonterminal of a grammar has at most 64 productions
pub few-at : {rules : Rules} {starts : List ℕ} {depth : ℕ} → IsGrammar rules starts depth →
    (n : ℕ) (ps : List Production) → slice_get rules n ≡ Some ps →
    length ps ≤ 64
few-at {rules = rules} {starts = starts} {depth = depth} g n ps e =
    let here : get_or rules n [] ≡ ps = get_or_from_slice_get rules n ps [] e in
    rw here at
    (All-from_recursion (λ (ps : List Production). length ps ≤ 64) rules (few rules starts depth g) n []
    (slice_get_within rules n ps e))

-- a leaf is small, and its operators have their arguments
pub leaf-small : (count : ℕ) (t : Term) → IsTrue (is_production count (Leaf t)) → nodes t ≤ 64
leaf-small count t h = leb-true (nodes t) 64 (and_parts _ _ h).0

-- a small term whose operators have their arguments is a leaf
pub small-leaf : (count : ℕ) (t : Term) → nodes t ≤ 64 → IsTrue (has_arities t) → IsTrue (is_production count (Leaf t))
small-leaf count t few right = and_from _ _ (le-leb (nodes t) 64 few) right

small-production : (count : ℕ) (p : Production) → IsTrue (is_production count p) → HasSmallLeaf p
small-production count (Leaf t) h = leaf-small count t h
small-production count (Node op names) h = tt

-- the conditions that the loops over a grammar's productions have
pub each-short : {rules : Rules} {starts : List ℕ} {depth : ℕ} → IsGrammar rules starts depth →
    All (λ ps. All (λ p. length (arguments p) ≤ 3) ps) rules
each-short {rules = rules} g = λ k d l i e m. short-production (length rules) _ (g.productions k d l i e m)

-- the leaves of a grammar are small
pub each-small : {rules : Rules} {starts : List ℕ} {depth : ℕ} → IsGrammar rules starts depth →
    All (λ ps. All HasSmallLeaf ps) rules
each-small {rules = rules} g = λ k d l i e m. small-production (length rules) _ (g.productions k d l i e m)

-- the same, as a fact of each item of the list
pub each-few : {rules : Rules} {starts : List ℕ} {depth : ℕ} → IsGrammar rules starts depth →
    All (λ ps. length ps ≤ 64) rules
each-few {rules = rules} {starts = starts} {depth = depth} g =
    All-from_recursion (λ (ps : List Production). length ps ≤ 64) rules (few rules starts depth g)

-- the bounds of a grammar's rules
pub bounds : {rules : Rules} {starts : List ℕ} {depth : ℕ} → IsGrammar rules starts depth → HasBounds rules
bounds {rules = rules} {starts = starts} {depth = depth} g = record {
  count = g.few_rules;
  few = each-few g;
  short = each-short g;
  small = each-small g;
  inside = inside rules starts depth g;
}

-- a test of each number, and what it says

-- numbers that pass the test are below the count
pub all-below : (count : ℕ) (ns : List ℕ) → list_all (λ n. nat_lt n count) ns ≡ true → All (λ n. n < count) ns
all-below count ns h = λ k d l. ltb-true (get_or ns k d) count (AllPass-from_list_all (λ n. nat_lt n count) ns h k d l)

-- numbers below the count pass the test
pub all-tested : (count : ℕ) (ns : List ℕ) → All (λ n. n < count) ns → list_all (λ n. nat_lt n count) ns ≡ true
all-tested count ns h = list_all-from_AllPass (λ n. nat_lt n count) ns (λ k d l. lt-ltb (get_or ns k d) count (h k d l))
