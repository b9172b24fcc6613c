-- What proofs of other crates may cite of grammars, trees and slots.
pub use Rattle.am_tree.proofs.Terms.{out-tree, tree-out, term_of-tree, Derives-tree}
pub use Rattle.am_tree.proofs.Derivations.{production-found, derives-none, derives-by, derives-past, children-derived}
pub use Rattle.am_tree.proofs.Derivations.{term-by, term-by_found, zip-at, zip-lengths}
pub use Rattle.am_tree.proofs.Formed.{short-production, leaf-small, small-leaf, inside, few, formed-at, name-inside}
pub use Rattle.am_tree.proofs.Formed.{each-short, each-small, each-few}
pub use Rattle.am_tree.proofs.Offers.{IsOffered, Stands, are_offered, stands_each, same-refl, same-true, Rising}
pub use Rattle.am_tree.proofs.Offers.{offered_rise, offered_has}
pub use Rattle.am_tree.proofs.Inside.{next-inside, shared-inside, length-level, slots-last, slots-above, length-above}
pub use Rattle.am_tree.proofs.Loops.{drop-from}
pub use Rattle.am_tree.proofs.Listing.{derived_are_listed, tuples_are_listed, trees_are_counted, tuples_are_counted}
pub use Rattle.am_tree.proofs.Weighing.{block-weighs}
