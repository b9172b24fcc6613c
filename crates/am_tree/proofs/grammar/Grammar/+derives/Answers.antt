use Rattle.std.proofs.Common.{rules, ◌≡◌, ◌-◌, ◌<◌, ◌≤◌, true, false, drop, get_or, length, refl, sym, ◌∙◌, ap, arith}
use Rattle.std.specs.List.{AllZip}
use Rattle.std.proofs.lemmas.List.{drop_all}
use Rattle.std.proofs.lemmas.Option.{get_or_from_slice_get}
use Rattle.am_tree.specs.declared.tree.Tree.{the_lemmas}
use Rattle.am_tree.specs.Trees.{Derives, children_of}
use Rattle.am_tree.proofs.Derivations.{derives-node, derives-leaf, no-items, zip-lengths, zip-head, zip-next}
use Rattle.am_tree.proofs.Formed.{formed-at, name-inside}
use Rattle.am_tree.proofs.grammar.Grammar.+derives.Goals as goal

pub returns-then-len-children : goal.returns-then-len-children
returns-then-len-children t c =
    let rules = c.args.self.now.rules in
    let d = c.args.depth in
    let tree = c.args.tree.now in
    let deep : 0 < d = omega (arith, c.if-depth-eq0.false) in
    let node =
    derives-node rules d c.args.symbol tree _ c.get.result.now c.in-Node.field-0 c.in-Node.names deep
    c.get-productions.ensures c.get.ensures c.in-Node.is in (
      λ e. let f : false ≡ true = e in cc,
      λ h. absurd
          (c.if-len-children.true
          (c.len-in-Node.ensures
          ∙ zip-lengths (Derives rules (d - 1)) c.in-Node.names (children_of tree) (node.0 h)
          ∙ ap length (sym c.as_slice-children.ensures))),
    )

pub derives-requires : goal.derives-requires
derives-requires t c = (
  search (rules, the_lemmas),
  let formed =
      formed-at c.args.self.now.well_formed c.args.symbol _ _ c.get.result.now c.get-productions.ensures
      c.get.ensures in
      name-inside _ c.in-Node.field-0 c.in-Node.names c.loop-i.i c.get-in-loop-i.result.now (rw c.in-Node.is at formed)
      c.get-in-loop-i.ensures,
)

pub returns-then-not-derives : goal.returns-then-not-derives
returns-then-not-derives t c =
    let rules = c.args.self.now.rules in
    let d = c.args.depth in
    let tree = c.args.tree.now in
    let names = c.in-Node.names in
    let children = c.as_slice-children.result.now in
    let i = c.loop-i.i in
    let deep : 0 < d = omega (arith, c.if-depth-eq0.false) in
    let node =
    derives-node rules d c.args.symbol tree _ c.get.result.now c.in-Node.field-0 names deep
    c.get-productions.ensures c.get.ensures c.in-Node.is in
    let within : i < length names =
    omega (arith, c.loop-i-test.true, c.if-len-children.false, c.len-in-Node.ensures) in (
      λ e. let f : false ≡ true = e in cc,
      λ h.
          let all : AllZip (Derives rules (d - 1)) names children = rw c.as_slice-children.ensures (node.0 h) in
          let head : Derives rules (d - 1) (get_or names i 0) (get_or children i c.index-children-i.result) =
          zip-head (Derives rules (d - 1)) names children i 0 c.index-children-i.result within c.loop-i-test.true
          (c.loop-i.invariant.1 all) in
          let name : get_or names i 0 ≡ c.get-in-loop-i.result.now =
          get_or_from_slice_get names i c.get-in-loop-i.result.now 0 c.get-in-loop-i.ensures in
          let here : Derives rules (d - 1) c.get-in-loop-i.result.now c.index-children-i.result =
          rw (name, ← c.index-children-i.is) at head in
          let yes : c.derives.result ≡ true = c.derives.ensures.1 here in
          cc,
    )

pub loop-i-preserved : goal.loop-i-preserved
loop-i-preserved t c =
    let rules = c.args.self.now.rules in
    let d = c.args.depth in
    let names = c.in-Node.names in
    let children = c.as_slice-children.result.now in
    let i = c.loop-i.i in
    let within : i < length names = omega (arith, c.loop-i-test.true, c.if-len-children.false, c.len-in-Node.ensures) in
    let name : get_or names i 0 ≡ c.get-in-loop-i.result.now =
    get_or_from_slice_get names i c.get-in-loop-i.result.now 0 c.get-in-loop-i.ensures in
    let here : Derives rules (d - 1) c.get-in-loop-i.result.now c.index-children-i.result =
    c.derives.ensures.0 c.if-not-derives.false in
    let head : Derives rules (d - 1) (get_or names i 0) (get_or children i c.index-children-i.result) =
    rw (name, ← c.index-children-i.is) here in
    let next =
    zip-next (Derives rules (d - 1)) names children i 0 c.index-children-i.result within c.loop-i-test.true head in
    (λ rest. c.loop-i.invariant.0 (next.0 rest), λ all. next.1 (c.loop-i.invariant.1 all))

pub returns-in-Leaf : goal.returns-in-Leaf
returns-in-Leaf t c =
    let deep : 0 < c.args.depth = omega (arith, c.if-depth-eq0.false) in
    let leaf =
    derives-leaf c.args.self.now.rules c.args.depth c.args.symbol c.args.tree.now _ c.get.result.now
    c.in-Leaf.field-0 deep c.get-productions.ensures c.get.ensures c.in-Leaf.is in
    let none = no-items c.as_slice-children.result.now in (
      λ e. leaf.1 (sym c.as_slice-children.ensures ∙ none.0 (rw c.is_empty.ensures at e)),
      λ h. c.is_empty.ensures ∙ none.1 (c.as_slice-children.ensures ∙ leaf.0 h),
    )

pub returns-after-loop-i : goal.returns-after-loop-i
returns-after-loop-i t c =
    let rules = c.args.self.now.rules in
    let d = c.args.depth in
    let names = c.in-Node.names in
    let children = c.as_slice-children.result.now in
    let i = c.loop-i.i in
    let deep : 0 < d = omega (arith, c.if-depth-eq0.false) in
    let node =
    derives-node rules d c.args.symbol c.args.tree.now _ c.get.result.now c.in-Node.field-0 names deep
    c.get-productions.ensures c.get.ensures c.in-Node.is in
    let past : length names ≤ i = omega (arith, c.loop-i-test.false, c.if-len-children.false, c.len-in-Node.ensures) in
    let rest : AllZip (Derives rules (d - 1)) (drop i names) (drop i children) =
    rw (drop_all i names past, drop_all i children c.loop-i-test.false) tt in
    let all : AllZip (Derives rules (d - 1)) names children = c.loop-i.invariant.0 rest in
    (λ _. node.1 (rw c.as_slice-children.ensures at all), λ _. refl)
