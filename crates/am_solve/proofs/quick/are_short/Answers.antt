use Rattle.std.proofs.Common.{[], below_more, arith, length}
use Rattle.std.specs.Prelude.{◌≤◌}
use Rattle.std.proofs.lemmas.List.Elements.{All-from_get_or}
use Rattle.std.proofs.lemmas.Option.{get_or_from_slice_get}
use Rattle.am_chain.specs.declared.chain.Chain.{Chain}
use Rattle.am_solve.proofs.quick.are_short.Goals as goal

pub loop-k-preserved : goal.loop-k-preserved
loop-k-preserved c = λ d.
    let e = get_or_from_slice_get c.args.log.now c.loop-k.k c.get.result.now d c.get.ensures in
    below_more _ _ (c.loop-k.invariant d) (rw e (omega arith))

pub returns : goal.returns
returns c = λ _.
    All-from_get_or (λ (chain : Chain). length chain.steps ≤ c.args.vars) c.args.log.now
    (record { first = 0; steps = [] }) (λ i lt. c.loop-k.invariant _ i (omega arith))
