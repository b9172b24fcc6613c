use Rattle.std.proofs.Common.{arith, sym, ◌∙◌, ap}
use Rattle.am_lit.specs.Literal.{variable_of}
use Rattle.am_lit.proofs.Laws.{variable_of-opposite_of}
use Rattle.am_watch.proofs.Looking.{differ_when}
use Rattle.am_watch.proofs.looks.false_at_level.Goals as goal

pub returns-then-level_of-level : goal.returns-then-level_of-level
returns-then-level_of-level c = (
  (c.loop-l.l-index, omega arith, sym c.l-item.is),
  differ_when c.ne.result c.l-item.result c.args.other c.ne.ensures c.if-ne.true,
  λ e there is. sym c.level.ensures ∙ sym c.if-level_of-level.true
      ∙ c.level_of.ensures e there (ap variable_of is ∙ variable_of-opposite_of c.l-item.result
      ∙ sym c.variable.ensures),
)
