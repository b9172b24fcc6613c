use Rattle.std.proofs.Common.{◌+◌, arith, length, length-append, ap, refl, inl, [], ◌∷◌}
use Rattle.std.specs.Prelude.{None}
use Rattle.am_trail.specs.declared.entry.Entry.{Entry}
use Rattle.am_trail.specs.Trails.{literals}
use Rattle.am_trail.proofs.Entries.{free_place, literals-push, put_room}
use Rattle.am_trail.proofs.Leading.{Leads_push, Leads_le}
use Rattle.am_trail.proofs.trail.Trail.decide.Goals as goal

pub put-requires-clause-free : goal.put-requires-clause-free
put-requires-clause-free c =
    let f = c.self.inside in
    free_place f.entries.items f.places.items c.self.invariant.0 c.args.l (rw (← c.self.view_is) at c.requires.variable)
    (rw (← c.self.view_is) at c.requires.free)

pub overflow_add-self : goal.overflow_add-self
overflow_add-self c =
    let f = c.self.inside in
    let free = free_place f.entries.items f.places.items c.self.invariant.0 c.args.l
    (rw (← c.self.view_is) at c.requires.variable) (rw (← c.self.view_is) at c.requires.free) in
    let entry : Entry = record { literal = c.args.l; level = 0; reason = None } in
    let room = put_room f.entries.items f.places.items c.self.invariant.0 entry
    (rw (← c.self.view_is) at c.requires.variable) free in
    omega (arith, room, Leads_le 0 f.entries.items f.level c.self.invariant.1, f.places.ok.0)

pub invariant_of-self : goal.invariant_of-self
invariant_of-self c =
    let f = c.self.inside in
    let entry : Entry = record { literal = c.args.l; level = f.level + 1; reason = None } in (
      c.put.ensures.placed,
      rw c.put.ensures.entries (Leads_push 0 f.entries.items f.level entry c.self.invariant.1 (inl (refl, refl))),
      omega arith,
      omega arith,
      omega (arith, ap length c.put.ensures.entries, length-append f.entries.items (entry ∷ [])),
      rw (c.put.ensures.entries, literals-push f.entries.items entry)
          (c.set_true.ensures.values (literals f.entries.items) c.self.invariant.5),
      omega arith,
    )
