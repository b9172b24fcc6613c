use Rattle.std.proofs.Common.{◌+◌, ◌*◌, ◌≤◌, ap, length, arith}
use Rattle.am_lit.specs.Literal.{variable_of}
use Rattle.am_trail.specs.Trails.{Assigned, literals}
use Rattle.am_trail.proofs.Valuing.{value_there}
use Rattle.am_trail.proofs.trail.Trail.value.Goals as goal

pub returns-in-True-clause-some : goal.returns-in-True-clause-some
returns-in-True-clause-some c =
    let f = c.self.inside in
    let vars = ap (λ (v : Assigned). v.vars) c.self.view_is in
    let room : 2 * variable_of c.args.l + 2 ≤ length f.values.items =
    omega (arith, vars, c.requires, c.self.invariant.6, f.values.ok.0, f.places.ok.0) in
    rw (← c.self.view_is) (rw c.in-True.is
    at (value_there (literals f.entries.items) f.values.items c.args.l c.code.result c.index.result.now room
    c.self.invariant.5 c.code.ensures c.index.ensures))

pub returns-in-False-clause-some : goal.returns-in-False-clause-some
returns-in-False-clause-some c =
    let f = c.self.inside in
    let vars = ap (λ (v : Assigned). v.vars) c.self.view_is in
    let room : 2 * variable_of c.args.l + 2 ≤ length f.values.items =
    omega (arith, vars, c.requires, c.self.invariant.6, f.values.ok.0, f.places.ok.0) in
    rw (← c.self.view_is) (rw c.in-False.is
    at (value_there (literals f.entries.items) f.values.items c.args.l c.code.result c.index.result.now room
    c.self.invariant.5 c.code.ensures c.index.ensures))
