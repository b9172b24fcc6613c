-- No more parentheses of a term are open than it has nodes.
use Rattle.std.proofs.Common.{◌≡◌, ℕ, ◌+◌, ◌≤◌, List, [], ◌∷◌, map, max, sum_by, arith}
use Rattle.std.specs.List.{AllByRecursion}
use Rattle.std.proofs.lemmas.List.Sums.{sum_by-cons}
use Rattle.am_bv.proofs.Laws.{by_induction, fold_at, nodes-Node}
use Rattle.am_bv.specs.Terms.{nodes}
use Rattle.am_bv.specs.declared.op.Op.{Op}
use Rattle.am_bv.specs.declared.term.Term.{Term}
use Rattle.am_bv.specs.declared.term.Term.TheOpen.{Const as Const-F, Field as Field-F, Node as Node-F}
use Rattle.am_bv.specs.declared.term.Term.TheVariants.{Const, Field, Node, outs-Const, outs-Field, outs-Node}
use Rattle.am_syntax.specs.Spelling.{greatest, nesting, nesting_step}

nesting-Const : (c : ℕ) → nesting (Const c) ≡ 0
unfolding nesting
nesting-Const c = fold_at nesting_step (Const c) (Const-F c) (outs-Const c)

nesting-Field : (i : ℕ) → nesting (Field i) ≡ 0
unfolding nesting
nesting-Field i = fold_at nesting_step (Field i) (Field-F i) (outs-Field i)

nesting-Node : (op : Op) (ts : List Term) → nesting (Node op ts) ≡ 1 + greatest (map nesting ts)
unfolding nesting
nesting-Node op ts = fold_at nesting_step (Node op ts) (Node-F op ts) (outs-Node op ts)

greater : (a b c d : ℕ) → a ≤ c → b ≤ d → max a b ≤ c + d
greater a b c d h k = omega (arith, h, k)

nests : (ts : List Term) → AllByRecursion (λ t. nesting t ≤ nodes t) ts → greatest (map nesting ts) ≤ sum_by nodes ts
nests [] h = omega arith
nests (t ∷ ts) h =
    let least : max (nesting t) (greatest (map nesting ts)) ≤ nodes t + sum_by nodes ts =
    greater (nesting t) (greatest (map nesting ts)) (nodes t) (sum_by nodes ts) h.0 (nests ts h.1) in
    omega (arith, least, sum_by-cons nodes t ts)

-- no more parentheses are open than there are nodes
pub nesting_few : (t : Term) → nesting t ≤ nodes t
nesting_few t = by_induction (λ t. nesting t ≤ nodes t) (record {
  const = λ c. omega (arith, nesting-Const c);
  field = λ i. omega (arith, nesting-Field i);
  node = λ op ts h. omega (arith, nesting-Node op ts, nodes-Node op ts, nests ts h);
}) t
