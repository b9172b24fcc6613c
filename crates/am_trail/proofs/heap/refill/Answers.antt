use Rattle.std.proofs.Common.{arith}
use Rattle.am_trail.proofs.Held.{hole_few}
use Rattle.am_trail.proofs.heap.refill.Goals as goal

pub put-requires-clause-small : goal.put-requires-clause-small
put-requires-clause-small c = omega (
  arith,
  hole_few c.args.heap.now c.args.places.now 0 c.args.v c.requires.placed
      c.requires.some,
)
