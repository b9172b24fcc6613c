use Rattle.std.proofs.Common.{append_assoc}
use Rattle.am_blast.proofs.Blasted.{constant-next}
use Rattle.am_blast.proofs.terms.constant.Goals as goal

pub loop-preserved : goal.loop-preserved
loop-preserved c =
    rw (c.in_ok-push.ensures.ok, append_assoc, c.new.ensures, c.variable.ensures, c.truth-on.ensures.truth)
    (rw (constant-next c.args.w c.loop.counter c.loop.rest (rw c.bits-end.ensures.value at c.loop-test.true))
    at c.loop.invariant)
