use Rattle.am_tree.proofs.Listed.{listed_are_tuples}
use Rattle.am_tree.proofs.Listing.{tuples_are_counted, tuples_are_listed}
use Rattle.am_tree.proofs.Once.{tuples_stand_once}
use Rattle.am_tree.proofs.theorems.count_is_length.Goals as goal

pub returns : goal.returns
returns c = record {
  counted = tuples_are_counted;
  listed = λ rules starts d ts. (listed_are_tuples rules starts d ts, tuples_are_listed rules starts d ts);
  once = tuples_stand_once;
}
