use Rattle.std.proofs.Common.{arith}
use Rattle.am_trail.proofs.Entries.{few}
use Rattle.am_trail.proofs.trail.Trail.len.Goals as goal

pub overflow_cast-result : goal.overflow_cast-result
overflow_cast-result c =
    let f = c.self.inside in
    let short = few f.entries.items f.places.items c.self.invariant.0 in
    omega (arith, short, f.places.ok.0, f.entries.ok.0)
