use Rattle.std.proofs.Common.{◌≡◌, ℕ, suc, ◌<◌, ◌≤◌, [], length, refl}
use Rattle.std.specs.Prelude.{Some, slice_get, slice_index_or}
use borrow.Author.Count.{below_more}
use Rattle.std.proofs.lemmas.Option.{slice_get_read}
use Rattle.am_tree.specs.declared.tree.Tree.{Tree}
use Rattle.am_tree.specs.Trees.{production_at, production_of, children_of, IsTreeOf}
use Rattle.am_tree.specs.inside.Matched.{Produces}
use Rattle.am_tree.proofs.Matched.{made-tree, unmade-tree, unmade-past}
use Rattle.am_tree.proofs.matching.first_tree.Goals as goal

pub returns-in-Some : goal.returns-in-Some
returns-in-Some c = λ rules d n e found.
    let ps = c.args.productions.now in
    let i = c.loop-i.i in
    let p = c.index-productions-i.result in
    let read : slice_get ps i ≡ Some p =
    slice_get_read ps (length ps) i p refl c.loop-i-test.true c.index-productions-i.is in
    let at : production_at rules n i ≡ Some p = rw e read in
    let made : Produces rules d p c.args.term.now c.in-Some.children =
    rw c.in-Some.is at (c.in_ok-children.ensures rules d found) in
    made-tree rules d n i p c.args.term.now c.in-Some.children at made

pub loop-i-preserved : goal.loop-i-preserved
loop-i-preserved c = λ rules d n e found t l is.
    let ps = c.args.productions.now in
    let i = c.loop-i.i in
    let p = c.index-productions-i.result in
    let term = c.args.term.now in
    let read : slice_get ps i ≡ Some p =
    slice_get_read ps (length ps) i p refl c.loop-i-test.true c.index-productions-i.is in
    let none : (ts : _) → ¬ Produces rules d p term ts =
    rw c.in_default.is at (c.in_ok-children.ensures rules d found) in
    below_more (λ (k : ℕ). (t : Tree) → production_of t ≡ k → ¬ IsTreeOf rules (suc d) n term t) i
    (λ k m t s is. let under : production_of t < i = rw s m in c.loop-i.invariant rules d n e found t under is)
    (λ t s is.
    let at : production_at rules n (production_of t) ≡ Some p = rw (s, e) read in
    none (children_of t) (unmade-tree rules d n p term t at is))
    (production_of t) l t refl is

pub returns : goal.returns
returns c = λ rules d n e found t is.
    let past : length (slice_index_or rules n []) ≤ c.loop-i.i = rw e c.loop-i-test.false in
    unmade-past rules d n c.loop-i.i c.args.term.now past (c.loop-i.invariant rules d n e found) t is
