use Rattle.std.proofs.Common.{◌≡◌, suc, ◌+◌, ◌-◌, ◌*◌, ◌<◌, take, drop, arith}
use Rattle.am_gate.proofs.Laws.{Grows-trans}
use Rattle.am_problem.specs.Kinds.{fields_of}
use Rattle.am_query.proofs.Calls.{Follows-split, Follows-split_end, GivesStep-forced}
use Rattle.am_query.proofs.Tuples.{AreWordsIn-later, other-words}
use Rattle.am_query.proofs.statements.Statements.valid_inputs.Goals as goal

pub loop-preserved : goal.loop-preserved
loop-preserved c =
    let p = c.args.self.now in
    let k = fields_of p.kind in
    let i = c.loop.counter in
    let m = p.inputs - (i + 1) in
    let row = c.loop.rest.now in
    let inv = c.loop.invariant in
    let count : c.fields-count.result ≡ k = rw (c.kind.ensures, c.self.view_is) at c.fields-count.ensures.value in
    let end : c.inputs-end.result ≡ p.inputs = rw c.self.view_is at c.inputs-end.ensures in
    let here : i < p.inputs = omega (arith, c.loop-test.true, end) in
    let step : p.inputs - i ≡ suc m = omega (arith, here) in
    let rest = rw step at inv.rest in
    let front : c.split_at.result.0.now ≡ take k row = rw count at c.split_at.ensures.front in
    let back : c.split_at.result.1.now ≡ drop k row = rw count at c.split_at.ensures.back in
    let tested = rw (c.width.ensures, c.valid.ensures.term, front) at c.in_ok-l.ensures in
    let stated = GivesStep-forced tested c.in_ok-force.ensures.ok c.in_ok-force.ensures.grows in
    record {
      place = omega (arith, here);
      follows = λ last h. inv.follows last (rw step (Follows-split _ k m row stated.follows (rw back at h)));
      rest =
          rw back
          (AreWordsIn-later p.width (m * k) _ _ (drop k row) stated.grows.not_less
          (other-words p.width k m _ row rest));
      grows = Grows-trans _ inv.grows stated.grows (omega arith);
    }

pub returns : goal.returns
returns c =
    let p = c.args.self.now in
    let i = c.loop.counter in
    let inv = c.loop.invariant in
    let end : c.inputs-end.result ≡ p.inputs = rw c.self.view_is at c.inputs-end.ensures in
    let done : i ≡ p.inputs = omega (arith, c.loop-test.false, end, inv.place) in
    let none : p.inputs - i ≡ 0 = omega (arith, done) in
    record {
      follows = inv.follows c.loop.circuit (rw none (Follows-split_end _ (fields_of p.kind) c.loop.rest.now));
      given = tt;
      grows = rw done at inv.grows;
    }
