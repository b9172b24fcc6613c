use Rattle.std.proofs.Common.{◌≡◌, true, false, append-nil, map, refl, sym, ◌∙◌}
use Rattle.std.specs.List.Sorted.{IsStrictlyIncreasing}
use Rattle.am_lit.specs.Clause.{sorted_literals}
use Rattle.am_lit.specs.Literal.{variable_of}
use Rattle.am_gate.proofs.Rows.{added_as_they_stand, added_nothing, added_sorted}
use Rattle.am_gate.proofs.sorted.SortedClauses.add.Goals as goal

pub returns-then-variables_rise-clause-ok : goal.returns-then-variables_rise-clause-ok
returns-then-variables_rise-clause-ok c =
    rw (added_as_they_stand c.args.literals.now (c.variables_rise.ensures.0 c.if-variables_rise.true), ← c.self.view_is)
    c.push.ensures.ok

pub returns-in_ok-push-clause-ok : goal.returns-in_ok-push-clause-ok
returns-in_ok-push-clause-ok c =
    let sorted = c.deref.ensures.value ∙ c.in_ok-sort.ensures in
    let rise = rw sorted at (c.variables_rise-2.ensures.0 c.if-variables_rise-2.true) in
    rw (
      c.in_ok-push.ensures.ok,
      added_sorted c.args.literals.now rise,
      c.deref-then-variables_rise-2.ensures.value,
      c.in_ok-sort.ensures,
      c.self.view_is,
    )
    refl

pub returns-else-variables_rise-2-clause-ok : goal.returns-else-variables_rise-2-clause-ok
returns-else-variables_rise-2-clause-ok c =
    rw (added_nothing c.args.literals.now falls, append-nil) c.self.view_is
  where
    falls : ¬ (IsStrictlyIncreasing (map variable_of (sorted_literals c.args.literals.now)))
    falls rise =
        let sorted = c.deref.ensures.value ∙ c.in_ok-sort.ensures in
        let clash : true ≡ false = sym (c.variables_rise-2.ensures.1 (rw sorted rise)) ∙ c.if-variables_rise-2.false in
        cc clash
