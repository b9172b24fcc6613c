use Rattle.std.proofs.Common.{rules, ◌≡◌, ◌-◌, ◌<◌, ◌≤◌, List, ◌++◌, get_or, length, sym, ◌∙◌, ap, arith, append_assoc}
use Rattle.std.proofs.Common.{append-nil}
use Rattle.std.specs.Prelude.{Some}
use Rattle.std.proofs.lemmas.List.{drop_all}
use Rattle.std.proofs.lemmas.Option.{get_or_from_slice_get, slice_get_within}
use Rattle.std.proofs.lemmas.Result.{IfOk-weaker}
use Rattle.am_bv.specs.declared.term.Term.{Term}
use Rattle.am_bv.specs.declared.term.Term.TheVariants.{Node as NodeTerm}
use Rattle.am_tree.specs.declared.tree.Tree.{Tree, the_lemmas}
use Rattle.am_tree.specs.declared.grammar.Production.TheVariants.{Leaf, Node}
use Rattle.am_tree.specs.Trees.{Derives, production_at, production_of, children_of, terms_at, term_of}
use Rattle.am_tree.specs.inside.Matched.{givers}
use Rattle.am_tree.proofs.Derivations.{production-found, children-derived, term-by_found, terms-next, zip-lengths}
use Rattle.am_tree.proofs.Derivations.{zip-at}
use Rattle.am_tree.proofs.grammar.Grammar.+term_of.Goals as goal

pub get-requires-in-loop-i : goal.get-requires-in-loop-i
get-requires-in-loop-i t c =
    let rules = c.args.self.now.rules in
    let tree = c.args.tree.now in
    let found : production_at rules c.args.symbol (production_of tree) ≡ Some (Node c.in-Node.op c.in-Node.names) =
    production-found rules c.args.symbol (production_of tree) _ _ c.get-productions.ensures
    (c.get.ensures ∙ ap Some c.in-Node.is) in
    let all = children-derived rules c.args.symbol tree c.in-Node.op c.in-Node.names found c.requires in
    omega (
      arith,
      zip-lengths (Derives rules (c.requires.depth - 1)) c.in-Node.names (children_of tree) all,
      ap length c.as_slice-child-items.ensures,
      c.loop-i-test.true,
    )

pub term_of-requires : goal.term_of-requires
term_of-requires t c = (
  search (rules, the_lemmas),
  let rules = c.args.self.now.rules in
      let tree = c.args.tree.now in
      let names = c.in-Node.names in
      let i = c.loop-i.i in
      let found : production_at rules c.args.symbol (production_of tree) ≡ Some (Node c.in-Node.op names) =
      production-found rules c.args.symbol (production_of tree) _ _ c.get-productions.ensures
      (c.get.ensures ∙ ap Some c.in-Node.is) in
      let all = children-derived rules c.args.symbol tree c.in-Node.op names found c.requires in
      let within : i < length names =
      omega (
        arith,
        zip-lengths (Derives rules (c.requires.depth - 1)) names (children_of tree) all,
        ap length c.as_slice-child-items.ensures,
        c.loop-i-test.true,
      ) in
      let name : get_or names i 0 ≡ c.get-in-loop-i.result.now =
      get_or_from_slice_get names i c.get-in-loop-i.result.now 0 c.get-in-loop-i.ensures in
      let here : Derives rules (c.requires.depth - 1) (get_or names i 0)
      (get_or (children_of tree) i c.child-item.result) =
      zip-at (Derives rules (c.requires.depth - 1)) names (children_of tree) i 0 c.child-item.result within all in
      let child : c.child-item.result ≡ get_or (children_of tree) i c.child-item.result =
      rw c.as_slice-child-items.ensures at c.child-item.is in
      record { depth = c.requires.depth - 1; derives = rw (name, ← child) at here },
)

pub loop-i-preserved : goal.loop-i-preserved
loop-i-preserved t c =
    let rules = c.args.self.now.rules in
    let names = c.in-Node.names in
    let items = c.as_slice-child-items.result.now in
    let i = c.loop-i.i in
    let within : i < length names = slice_get_within names i c.get-in-loop-i.result.now c.get-in-loop-i.ensures in
    let name : get_or names i 0 ≡ c.get-in-loop-i.result.now =
    get_or_from_slice_get names i c.get-in-loop-i.result.now 0 c.get-in-loop-i.ensures in
    let term : c.in_ok-term-in-Node.term ≡ term_of rules (get_or names i 0) (get_or items i c.child-item.result) =
    rw (name, ← c.child-item.is) c.in_ok-term-in-Node.ensures in
    let next = terms-next rules names items i c.child-item.result within c.loop-i-test.true in
    rw (c.in_ok-push-in-Node.ensures.ok, append_assoc, term)
    (ap (λ (xs : List Term). c.loop-i.terms ++ xs) (sym next) ∙ c.loop-i.invariant)

pub returns-in-Leaf : goal.returns-in-Leaf
returns-in-Leaf t c =
    let rules = c.args.self.now.rules in
    let tree = c.args.tree.now in
    let found : production_at rules c.args.symbol (production_of tree) ≡ Some (Leaf c.in-Leaf.term) =
    production-found rules c.args.symbol (production_of tree) _ _ c.get-productions.ensures
    (c.get.ensures ∙ ap Some c.in-Leaf.is) in
    IfOk-weaker c.copy.result (λ r. r ≡ c.in-Leaf.term) (λ r. r ≡ term_of rules c.args.symbol tree)
    (λ r e. e ∙ sym (term-by_found rules c.args.symbol tree (Leaf c.in-Leaf.term) found)) c.copy.ensures

pub returns-after-loop-i : goal.returns-after-loop-i
returns-after-loop-i t c =
    let rules = c.args.self.now.rules in
    let tree = c.args.tree.now in
    let names = c.in-Node.names in
    let items = c.as_slice-child-items.result.now in
    let i = c.loop-i.i in
    let found : production_at rules c.args.symbol (production_of tree) ≡ Some (Node c.in-Node.op names) =
    production-found rules c.args.symbol (production_of tree) _ _ c.get-productions.ensures
    (c.get.ensures ∙ ap Some c.in-Node.is) in
    let all = children-derived rules c.args.symbol tree c.in-Node.op names found c.requires in
    let past : length names ≤ i =
    omega (
      arith,
      zip-lengths (Derives rules (c.requires.depth - 1)) names (children_of tree) all,
      ap length c.as_slice-child-items.ensures,
      c.loop-i-test.false,
    ) in
    let whole : c.loop-i.terms ≡ terms_at names (givers rules items) =
    rw (drop_all i names past, append-nil) at c.loop-i.invariant in
    ap (NodeTerm c.in-Node.op)
    (whole ∙ ap (λ (ts : List Tree). terms_at names (givers rules ts)) c.as_slice-child-items.ensures)
    ∙ sym (term-by_found rules c.args.symbol tree (Node c.in-Node.op names) found)
