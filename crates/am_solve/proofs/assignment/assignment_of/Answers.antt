use Rattle.std.proofs.Common.{arith, ◌≡◌, ◌∷◌, [], length, length-append}
use Rattle.am_trail.specs.Trails.{literals}
use Rattle.am_trail.proofs.Laws.{consistent}
use Rattle.am_solve.proofs.Marked.{variable_below}
use Rattle.am_solve.proofs.Valuing.{all_hold, values_more}
use Rattle.am_solve.proofs.assignment.assignment_of.Goals as goal

pub loop-variable-preserved : goal.loop-variable-preserved
loop-variable-preserved c =
    let i = c.loop-variable.invariant in
    let row = literals c.args.trail.now.entries in
    rw c.in_ok-push.ensures.ok (record {
      long = omega (arith, i.long, length-append c.loop-variable.values (c.value_of.result ∷ []));
      values =
          values_more row c.loop-variable.values c.loop-variable.variable c.value_of.result i.long
          (λ v lt. i.values v (omega (arith, i.long))) c.value_of.ensures;
    })

pub returns-clause-len : goal.returns-clause-len
returns-clause-len c = omega (arith, c.loop-variable.invariant.long)

pub returns-clause-holds : goal.returns-clause-holds
returns-clause-holds c =
    let t = c.args.trail.now in
    let i = c.loop-variable.invariant in
    let long : length c.loop-variable.values ≡ t.vars = omega (arith, i.long) in
    all_hold (literals t.entries) c.loop-variable.values (consistent t c.known.ensures)
    (λ v lt. i.values v (omega (arith, i.long)))
    (λ l there. let low = variable_below t c.known.ensures l there in omega arith)
