use Rattle.std.proofs.Common.{arith, ap, length, length}
use Rattle.am_lit.proofs.Cut.{length_rows}
use Rattle.am_lit.proofs.clauses.Clauses.clause.Goals as goal

pub row-requires-clause-in_range : goal.row-requires-clause-in_range
row-requires-clause-in_range c =
    omega (
      arith,
      length_rows 0 c.self.inside.ends.items c.self.inside.lits.items,
      ap length c.self.view_is,
      ap length c.as_slice-2.ensures.value,
    )
