use Rattle.std.proofs.Common.{[], below_more, arith}
use Rattle.std.specs.Prelude.{IsTrue}
use Rattle.std.proofs.lemmas.List.Elements.{All-from_get_or}
use Rattle.am_lit.specs.Truth.{clause_value, value_at}
use Rattle.am_solve.proofs.quick.satisfies.Goals as goal

pub loop-i-preserved : goal.loop-i-preserved
loop-i-preserved c =
    below_more _ _ c.loop-i.invariant (rw (← c.clause.ensures) (c.has_true.ensures c.if-not-has_true.false))

pub returns : goal.returns
returns c = λ _.
    All-from_get_or (λ x. IsTrue (clause_value (value_at c.args.assignment.now.values) x)) c.args.clauses.now []
    (λ i lt. c.loop-i.invariant i (omega arith))
