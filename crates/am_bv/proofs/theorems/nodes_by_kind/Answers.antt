use Rattle.am_bv.proofs.ByKind.{nodes-Const, nodes-Field, nodes-Node}
use Rattle.am_bv.proofs.theorems.nodes_by_kind.Goals as goal

pub returns : goal.returns
returns c = record { constant = nodes-Const; field = nodes-Field; node = nodes-Node }
