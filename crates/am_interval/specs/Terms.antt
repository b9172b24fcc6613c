-- The terms for intervals, over the least word f0, the greatest word f1, and a word f2, by an operator that tells
-- whether a word is at most another.
use Rattle.am_bv.specs.Terms.{binary}
use Rattle.am_bv.specs.declared.op.Op.{Op}
use Rattle.am_bv.specs.declared.op.Op.TheVariants.{And}
use Rattle.am_bv.specs.declared.term.Term.{Term}
use Rattle.am_bv.specs.declared.term.Term.TheVariants.{Field}

-- the ends are in order
abbrev pub order_term : Op → Term
order_term at_most = binary at_most (Field 0) (Field 1)

-- the word is between the ends
abbrev pub between_term : Op → Term
between_term at_most = binary And (binary at_most (Field 0) (Field 2)) (binary at_most (Field 2) (Field 1))
