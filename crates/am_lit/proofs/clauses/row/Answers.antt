use Rattle.std.proofs.Common.{arith, length, sym}
use Rattle.am_lit.proofs.Cut.{AreRowEnds-at, get_or-rows}
use Rattle.am_lit.proofs.clauses.row.Goals as goal

pub between-requires-clause-ordered : goal.between-requires-clause-ordered
between-requires-clause-ordered c =
    omega (
      arith,
      (AreRowEnds-at 0 c.args.ends.now (length c.args.all.now) c.args.i c.requires.cut
          c.requires.in_range).0,
    )

pub between-requires-clause-in_range : goal.between-requires-clause-in_range
between-requires-clause-in_range c =
    (AreRowEnds-at 0 c.args.ends.now (length c.args.all.now) c.args.i c.requires.cut c.requires.in_range).1

pub returns : goal.returns
returns c =
    rw (c.between.ensures, c.start.ensures)
    (sym (get_or-rows 0 c.args.ends.now c.args.all.now c.args.i c.requires.in_range))
