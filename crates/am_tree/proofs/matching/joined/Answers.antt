use Rattle.std.proofs.Common.{◌≡◌, get_or, sym, ◌∙◌, ap}
use Rattle.std.specs.Prelude.{None, Some}
use Rattle.std.specs.Option.{option_copied}
use Rattle.am_tree.specs.inside.Matched.{tree_at}
use Rattle.am_tree.proofs.Matched.{none-join, joins-more}
use Rattle.am_tree.proofs.matching.joined.Goals as goal

pub returns-in-None : goal.returns-in-None
returns-in-None c = λ rules d args found long ts.
    let i = c.loop-i.i in
    let none : tree_at c.args.tables.now i (get_or c.args.names.now i 0) ≡ None =
    sym c.tree_at.ensures ∙ ap option_copied c.in-None.is in
    none-join rules d c.args.names.now args c.args.tables.now i c.loop-i-test.true found long none ts

pub loop-i-preserved : goal.loop-i-preserved
loop-i-preserved c = λ rules d args found long.
    let i = c.loop-i.i in
    let names = c.args.names.now in
    let copy = c.in_ok-copy-in-Some.field-0 in
    let same : copy ≡ c.in-Some.tree.now = c.in_ok-copy-in-Some.ensures in
    let here : tree_at c.args.tables.now i (get_or names i 0) ≡ Some copy =
    sym c.tree_at.ensures ∙ ap option_copied c.in-Some.is ∙ ap Some (sym same) in
    rw c.in_ok-push-in-Some.ensures.ok
    (joins-more rules d names args c.args.tables.now c.loop-i.trees i copy c.loop-i-test.true found long here
    (c.loop-i.invariant rules d args found long))
