use Rattle.std.proofs.Common.{◌≡◌, arith, length, length-take, ap, ◌∙◌}
use Rattle.am_trail.specs.Trails.{Assigned, upto}
use Rattle.am_trail.proofs.Entries.{few}
use Rattle.am_trail.proofs.Leading.{Leads_upto}
use Rattle.am_trail.proofs.trail.Trail.back_to.Goals as goal

pub overflow_cast-len : goal.overflow_cast-len
overflow_cast-len c =
    let f = c.self.inside in
    let short = few f.entries.items f.places.items c.self.invariant.0 in
    omega (arith, short, f.places.ok.0, ap length c.as_slice.ensures.value)

pub invariant_of-self : goal.invariant_of-self
invariant_of-self c =
    let f = c.self.inside in
    let kept : c.keep_first.new.entries.items ≡ upto c.args.level f.entries.items = c.keep_first.ensures.entries
    ∙ rw c.as_slice.ensures.value at c.count_upto-len.ensures.prefix in (
      c.keep_first.ensures.placed,
      rw kept (Leads_upto c.args.level 0 f.entries.items f.level c.self.invariant.1 (omega arith)
          (omega (arith, ap (λ (v : Assigned). v.level) c.self.view_is))),
      omega arith,
      omega arith,
      omega (
        arith,
        ap length c.keep_first.ensures.entries,
        length-take c.count_upto-len.result f.entries.items,
        ap length c.as_slice.ensures.value,
      ),
      c.keep_first.ensures.values,
      omega arith,
    )
