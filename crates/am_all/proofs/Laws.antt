-- What proofs of other crates may cite of lists of trees and of best tuples.
pub use Rattle.am_all.proofs.ListLaws.{each_best, empty_where_absent, only_best}
pub use Rattle.am_all.proofs.PickLaws.{choices-are}
pub use Rattle.am_all.proofs.TreeLaws.{listed-derives, tuples-listed}
