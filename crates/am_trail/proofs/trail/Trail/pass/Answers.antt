use Rattle.std.proofs.Common.{arith, length, ap}
use Rattle.am_trail.specs.Trails.{Assigned}
use Rattle.am_trail.proofs.Entries.{few}
use Rattle.am_trail.proofs.trail.Trail.pass.Goals as goal

pub overflow_add-self : goal.overflow_add-self
overflow_add-self c =
    let f = c.self.inside in
    let short = few f.entries.items f.places.items c.self.invariant.0 in
    omega (
      arith,
      short,
      f.places.ok.0,
      ap (λ (v : Assigned). length v.entries) c.self.view_is,
      ap (λ (v : Assigned). v.head) c.self.view_is,
    )
