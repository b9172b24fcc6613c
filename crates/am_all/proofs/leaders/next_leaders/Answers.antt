use Rattle.std.proofs.Common.{◌++◌, ◌∷◌, [], ℕ, List}
use Rattle.std.proofs.lemmas.Result.{IfOk-weaker}
use Rattle.am_all.specs.inside.Leaders.{AreJoinedLeaders, AreLeaders}
use Rattle.am_all.proofs.LeaderLaws.{leaders-joined, leaders-led, leaders-unsound, missing-uncovered}
use Rattle.am_all.proofs.leaders.next_leaders.Goals as goal
use Rattle.am_all.proofs.leaders.next_leaders.Goals.{then-not-is_covering-via-then-not-is_covering}
use Rattle.am_all.proofs.leaders.next_leaders.Goals.{then-not-is_covering-via-else-not-is_covering+then-is_led}

pub returns-then-not-is_covering : goal.returns-then-not-is_covering
returns-then-not-is_covering c = λ listed lead.
    let cases = c.args.cases.now in
    let sets = c.args.sets.now in
    let numbers = c.args.numbers in
    elim c.then-not-is_covering.branch [
      | then-not-is_covering-via-then-not-is_covering w ↦
          leaders-unsound cases sets listed c.args.leaders.items numbers lead
          (missing-uncovered cases sets numbers (rw c.as_slice.ensures at w.if-not-is_covering.ensures))
      | then-not-is_covering-via-else-not-is_covering+then-is_led w ↦
          leaders-led cases sets listed c.args.leaders.items numbers lead
          (rw (w.as_slice-else-not-is_covering.ensures.value, w.as_slice-else-not-is_covering-2.ensures) at
          w.if-is_led.ensures)
    ]

pub returns : goal.returns
returns c =
    let cases = c.args.cases.now in
    let sets = c.args.sets.now in
    let numbers = c.args.numbers in
    IfOk-weaker c.with_leader.result (λ joined. AreJoinedLeaders sets c.args.leaders.items numbers joined.items)
    (λ next. (listed : List (List ℕ)) → AreLeaders cases sets listed c.args.leaders.items →
    AreLeaders cases sets (listed ++ numbers ∷ []) next.items)
    (λ joined are listed lead.
    leaders-joined cases sets listed c.args.leaders.items numbers lead joined.items c.requires.result
    (rw c.as_slice.ensures at c.if-not-is_covering.ensures) are)
    c.with_leader.ensures
