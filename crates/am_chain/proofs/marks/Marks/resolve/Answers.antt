use Rattle.std.proofs.Common.{sym}
use Rattle.am_chain.proofs.Marking.{clash, no_literal, no_partner, pivot_found, resolved}
use Rattle.am_chain.proofs.marks.Marks.resolve.Goals as goal

pub returns-in_default-clause-pivot : goal.returns-in_default-clause-pivot
returns-in_default-clause-pivot c = λ clause are.
    sym (no_literal c.args.variable clause c.args.other.now c.args.self.now are c.requires c.in_default.ensures)

pub returns-then-not-branch-clause-pivot : goal.returns-then-not-branch-clause-pivot
returns-then-not-branch-clause-pivot c = λ clause are.
    let pivot = c.in-Some.ensures in
    let alone = rw c.opposite.ensures at c.in_ok-put_others.ensures.alone in
    sym
    (no_partner c.args.variable clause c.args.other.now c.args.self.now are c.requires c.in-Some.pivot pivot.0 pivot.1
    pivot.2 (λ h. clash _ (alone.1 h) c.if-not-branch.true))

pub returns-clause-pivot : goal.returns-clause-pivot
returns-clause-pivot c = λ clause are.
    let pivot = c.in-Some.ensures in
    let alone = rw c.opposite.ensures at c.in_ok-put_others.ensures.alone in
    sym
    (pivot_found c.args.variable clause c.args.other.now c.args.self.now are c.requires c.in-Some.pivot pivot.0 pivot.1
    pivot.2 (alone.0 c.if-not-branch.false))

pub returns-clause-resolvent : goal.returns-clause-resolvent
returns-clause-resolvent c = λ t clause are.
    let pivot = c.in-Some.ensures in
    let alone = rw c.opposite.ensures at c.in_ok-put_others.ensures.alone in
    let others = rw c.opposite.ensures at (c.in_ok-put_others.ensures.others c.if-not-branch.false) in
    resolved c.args.variable clause c.args.other.now c.args.self.now are c.requires c.in-Some.pivot pivot.0 pivot.1
    pivot.2 (alone.0 c.if-not-branch.false) c.put_others.new.self c.take_out.new.self others c.take_out.ensures
