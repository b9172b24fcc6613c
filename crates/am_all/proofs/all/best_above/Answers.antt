use Rattle.std.proofs.Common.{map}
use Rattle.am_all.specs.inside.Leaders.{AreTuples}
use Rattle.am_all.proofs.TupleLaws.{choices-tuples}
use Rattle.am_all.proofs.all.best_above.Goals as goal
use Rattle.am_all.proofs.all.best_above.Goals.{After-as_slice-tuples}

-- the choices from the candidates are all tuples
all-tuples : (c : After-as_slice-tuples) →
    AreTuples c.args.p.now c.as_slice-cases.result.now
    (map (λ tuple. map (λ d. d.now) tuple) c.as_slice-tuples.result.now)
all-tuples c =
    let p = c.args.p.now in
    let cases = c.as_slice-cases.result.now in
    let lists = c.in_ok-lists.lists in
    let tuples = rw (c.as_slice-5.ensures, c.in_ok-slices.ensures, c.as_slice-4.ensures) at c.in_ok-tuples.ensures in
    let candidates = rw (c.as_slice-3.ensures, ← c.as_slice-cases.ensures) at c.in_ok-lists.ensures in
    rw (c.as_slice-tuples.ensures, tuples) (choices-tuples p cases lists candidates)

pub leaders-requires : goal.leaders-requires
leaders-requires c = record {
  facts = record {
    few = c.requires.few;
    all_members = rw c.as_slice-sets.ensures c.in_ok-sets.ensures;
    all_cases = rw c.as_slice-cases.ensures c.in_ok-cases.ensures;
  };
  tuples = all-tuples (goal.at.leaders-requires c).After-as_slice-tuples;
}

pub best-requires-clause-tuples : goal.best-requires-clause-tuples
best-requires-clause-tuples c = all-tuples (goal.at.best-requires-clause-tuples c).After-as_slice-tuples
