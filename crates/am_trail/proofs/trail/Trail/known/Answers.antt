use Rattle.std.proofs.Common.{◌∙◌, arith, sym}
use Rattle.am_trail.specs.inside.Places.{variables}
use Rattle.am_trail.proofs.Entries.{few, length-variables, variable_at}
use Rattle.am_trail.proofs.Placing.{apart}
use Rattle.am_trail.proofs.trail.Trail.known.Goals as goal

pub returns : goal.returns
returns c =
    let f = c.self.inside in
    let es = f.entries.items in
    let short = few es f.places.items c.self.invariant.0 in
    let long = length-variables es in
    rw (← c.self.view_is) (record {
      apart = λ i j li lj e. apart (variables es) f.places.items c.self.invariant.0 i j (omega arith) (omega arith)
          (variable_at es i li ∙ e ∙ sym (variable_at es j lj));
      below = λ i li. rw (variable_at es i li) at (c.self.invariant.0.each i (omega arith)).0;
      few = omega arith;
      leads = c.self.invariant.1;
      passed = omega arith;
      small = omega (arith, f.places.ok.0);
    })
