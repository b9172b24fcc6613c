use Rattle.std.proofs.Common.{◌≡◌, ℕ, ◌+◌, ◌<◌, ◌≤◌, List, ◌∷◌, ◌++◌, drop, get_or, length, drop-cons, add-one}
use Rattle.std.proofs.Common.{append_assoc, append-nil, refl, sym, ◌∙◌, ap, arith}
use Rattle.std.proofs.lemmas.List.{drop_all}
use Rattle.std.proofs.lemmas.Option.{get_or_from_slice_get}
use Rattle.am_bv.specs.declared.term.Term.{Term}
use Rattle.am_tree.specs.declared.tree.Tree.{Tree}
use Rattle.am_tree.specs.Trees.{Derives, Rules, term_of, terms_of}
use Rattle.am_tree.proofs.Derivations.{zip-at, zip-lengths}
use Rattle.am_tree.proofs.grammar.Grammar.terms_of.Goals as goal

-- the term at a place, and those after it
terms-next : (rules : Rules) (names : List ℕ) (ts : List Tree) (i : ℕ) (d : Tree) → i < length names → i < length ts →
    terms_of rules (drop i names) (drop i ts)
    ≡ term_of rules (get_or names i 0) (get_or ts i d) ∷ terms_of rules (drop (i + 1) names) (drop (i + 1) ts)
terms-next rules names ts i d l m = rw (drop-cons names i 0 l, drop-cons ts i d m, add-one) refl

pub get-requires : goal.get-requires
get-requires c =
    let g = c.args.self.now in
    omega (
      arith,
      zip-lengths (Derives g.rules g.depth) g.starts c.args.trees.now c.requires,
      ap length c.as_slice-tree-items.ensures,
      c.loop-i-test.true,
    )

pub term_of-requires : goal.term_of-requires
term_of-requires c =
    let g = c.args.self.now in
    let i = c.loop-i.i in
    let within : i < length g.starts =
    omega (
      arith,
      zip-lengths (Derives g.rules g.depth) g.starts c.args.trees.now c.requires,
      ap length c.as_slice-tree-items.ensures,
      c.loop-i-test.true,
    ) in
    let name : get_or g.starts i 0 ≡ c.get.result.now =
    get_or_from_slice_get g.starts i c.get.result.now 0 c.get.ensures in
    let tree : c.tree-item.result ≡ get_or c.args.trees.now i c.tree-item.result =
    rw c.as_slice-tree-items.ensures at c.tree-item.is in
    let here : Derives g.rules g.depth (get_or g.starts i 0) (get_or c.args.trees.now i c.tree-item.result) =
    zip-at (Derives g.rules g.depth) g.starts c.args.trees.now i 0 c.tree-item.result within c.requires in
    record { depth = g.depth; derives = rw (name, ← tree) at here }

pub loop-i-preserved : goal.loop-i-preserved
loop-i-preserved c =
    let g = c.args.self.now in
    let i = c.loop-i.i in
    let items = c.as_slice-tree-items.result.now in
    let within : i < length g.starts =
    omega (
      arith,
      zip-lengths (Derives g.rules g.depth) g.starts c.args.trees.now c.requires,
      ap length c.as_slice-tree-items.ensures,
      c.loop-i-test.true,
    ) in
    let name : get_or g.starts i 0 ≡ c.get.result.now =
    get_or_from_slice_get g.starts i c.get.result.now 0 c.get.ensures in
    let term : c.in_ok-term.term ≡ term_of g.rules (get_or g.starts i 0) (get_or items i c.tree-item.result) =
    rw (name, ← c.tree-item.is) c.in_ok-term.ensures in
    let next = terms-next g.rules g.starts items i c.tree-item.result within c.loop-i-test.true in
    rw (c.in_ok-push.ensures.ok, append_assoc, term)
    (ap (λ (xs : List Term). c.loop-i.terms ++ xs) (sym next) ∙ c.loop-i.invariant)

pub returns : goal.returns
returns c =
    let g = c.args.self.now in
    let items = c.as_slice-tree-items.result.now in
    let past : length g.starts ≤ c.loop-i.i =
    omega (
      arith,
      zip-lengths (Derives g.rules g.depth) g.starts c.args.trees.now c.requires,
      ap length c.as_slice-tree-items.ensures,
      c.loop-i-test.false,
    ) in
    let whole : c.loop-i.terms ≡ terms_of g.rules g.starts items =
    rw (drop_all c.loop-i.i g.starts past, append-nil) at c.loop-i.invariant in
    whole ∙ ap (terms_of g.rules g.starts) c.as_slice-tree-items.ensures
