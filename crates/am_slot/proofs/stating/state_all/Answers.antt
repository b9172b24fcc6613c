use Rattle.std.proofs.Common.{◌<◌, ◌≤◌, [], length, drop-cons, add-one, arith}
use Rattle.std.proofs.lemmas.List.{drop_all}
use Rattle.am_gate.proofs.Laws.{Grows-trans, Begins-trans}
use Rattle.am_slot.proofs.Told.{Follows-clause, Follows-no_clause}
use Rattle.am_slot.proofs.stating.state_all.Goals as goal

pub loop-i-preserved : goal.loop-i-preserved
loop-i-preserved c =
    let inv = c.loop-i.invariant in
    let i = c.loop-i.i in
    let cs = c.args.clauses.now in
    let here : i < length cs = omega (arith, c.loop-i-test.true, c.len-i-end.ensures) in
    let stated = rw c.clause.ensures at c.in_ok-clause.ensures.ok in
    record {
      follows = λ end h.
          inv.follows end (rw (drop-cons cs i [] here) (Follows-clause _ _ _ _ _ stated (rw add-one at h)));
      grows = Grows-trans _ inv.grows c.in_ok-clause.ensures.grows (omega arith);
      begins = Begins-trans inv.begins c.in_ok-clause.ensures.begins;
    }

pub returns-clause-ok : goal.returns-clause-ok
returns-clause-ok c =
    let inv = c.loop-i.invariant in
    let past : length c.args.clauses.now ≤ c.loop-i.i = omega (arith, c.loop-i-test.false, c.len-i-end.ensures) in
    inv.follows _ (rw (drop_all c.loop-i.i c.args.clauses.now past) (Follows-no_clause c.loop-i.circuit))
