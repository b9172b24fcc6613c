use Rattle.am_all.proofs.ListLaws.{each_best, empty_where_absent, only_best}
use Rattle.am_all.proofs.TreeLaws.{listed-derives, tuples-listed}
use Rattle.am_all.proofs.theorems.lists_are_whole.Goals as goal

pub returns : goal.returns
returns c = record {
  trees = listed-derives;
  tuples = tuples-listed;
  only = only_best;
  each = each_best;
  empty =
      empty_where_absent;
}
