use Rattle.std.proofs.Common.{arith}
use Rattle.am_trail.proofs.Ranking.{held_rises, held_below}
use Rattle.am_trail.proofs.order.Order.known.Goals as goal

pub returns : goal.returns
returns c =
    let places = c.self.inside.places.items in
    rw (← c.self.view_is) (record {
      rising = held_rises places;
      below = rw c.self.invariant.count (held_below places);
      small = omega (arith, c.self.invariant.count, c.self.invariant.small);
    })
