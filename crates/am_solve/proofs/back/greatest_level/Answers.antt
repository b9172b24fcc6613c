use Rattle.std.proofs.Common.{arith, ◌∙◌, sym, ap}
use Rattle.std.specs.Prelude.{Contains}
use Rattle.am_lit.specs.Literal.{variable_of, opposite_of}
use Rattle.am_trail.specs.Trails.{literals}
use Rattle.am_solve.proofs.Marked.{All-read, has_value}
use Rattle.am_solve.proofs.Greatest.{greater, at_end}
use Rattle.am_solve.proofs.back.greatest_level.Goals as goal
use Rattle.am_lit.proofs.Laws.{variable_of-opposite_of}

pub level_of-requires : goal.level_of-requires
level_of-requires c =
    has_value (literals c.args.trail.now.entries) c.l-item.result c.variable.result c.variable.ensures
    (All-read (λ m. Contains (literals c.args.trail.now.entries) (opposite_of m)) c.args.kept.now c.loop-l.l-index
    c.l-item.result (omega arith) c.l-item.is c.requires)

pub loop-l-preserved : goal.loop-l-preserved
loop-l-preserved c =
    greater c.args.trail.now.entries c.args.kept.now c.loop-l.l-index c.l-item.result c.level_of.result
    c.loop-l.greatest _ (omega arith) c.l-item.is
    (λ e there is. c.level_of.ensures e there
    (ap variable_of is ∙ (variable_of-opposite_of c.l-item.result) ∙ sym c.variable.ensures))
    c.larger-greatest.ensures c.loop-l.invariant

pub returns : goal.returns
returns c =
    at_end c.args.trail.now.entries c.args.kept.now c.loop-l.l-index c.loop-l.greatest (omega arith) c.loop-l.invariant
