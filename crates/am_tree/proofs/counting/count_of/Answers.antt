use Rattle.std.proofs.Common.{◌<◌, All, length, subst}
use Rattle.am_tree.specs.declared.grammar.Production.{Production}
use Rattle.am_tree.specs.Slots.{arguments}
use Rattle.am_tree.proofs.Counted.{names-inside}
use Rattle.am_tree.proofs.counting.count_of.Goals as goal

pub product_of-requires : goal.product_of-requires
product_of-requires c =
    let inside =
    subst (λ (p : Production). All (λ a. a.symbol < length c.args.below.now) (arguments p)) c.in-Node.is
    c.requires in
    rw c.as_slice.ensures (names-inside (length c.args.below.now) 0 c.in-Node.names inside)
