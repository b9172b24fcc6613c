use Rattle.std.proofs.Common.{◌≡◌, ◌+◌, ◌*◌, ◌≤◌, length, subst, arith}
use Rattle.am_gate.specs.Build.{place_of}
use Rattle.am_gate.proofs.Laws.{HasRoom-grown}
use Rattle.am_slot.specs.Template.{selectors_of}
use Rattle.am_problem.specs.Examples.{IsNegative, IsPositive}
use Rattle.am_problem.specs.Limits.{IsProblem}
use Rattle.am_query.specs.Formulas.{covered, encoding_of, uncovered}
use Rattle.am_query.specs.inside.Weights.{example_weight}
use Rattle.am_query.proofs.Calls.{Follows-fit, HasInputs-quiet}
use Rattle.am_query.proofs.Covering.{Builds-covered, Builds-uncovered}
use Rattle.am_query.proofs.Loads.{examples-load}
use Rattle.am_query.proofs.Steps.{Builds-each}
use Rattle.am_query.proofs.statements.Statements.fit.Goals as goal

pub uncover_all-requires-clause-room : goal.uncover_all-requires-clause-room
uncover_all-requires-clause-room c =
    let p = c.args.self.now in
    let is = subst IsProblem c.self.view_is c.keeps_limits.ensures in
    let load = examples-load p is (length c.args.pos.now + length c.args.neg.now) c.requires.examples.few in
    rw c.as_slice-2.ensures
    (HasRoom-grown (length c.args.neg.now * (example_weight p + 1))
    (rw c.as_slice.ensures at c.in_ok-cover_all.ensures.grows) c.in_ok-template.ensures.room
    (omega (arith, load, is.load)))

pub returns-clause-ok : goal.returns-clause-ok
returns-clause-ok c =
    let p = c.args.self.now in
    let encodes : c.in_ok-template.template ≡ encoding_of p =
    rw (
      c.grammar-grammar.ensures.rules,
      c.grammar-grammar.ensures.starts,
      c.grammar-grammar.ensures.depth,
      c.width.ensures,
      c.self.view_is,
    ) at c.in_ok-template.ensures.encodes in
    Follows-fit p c.args.pos.now c.args.neg.now (rw encodes at c.in_ok-template.ensures.circuit)
    (rw c.as_slice.ensures at c.in_ok-cover_all.ensures.follows)
    (rw c.as_slice-2.ensures at c.in_ok-uncover_all.ensures.follows)

pub returns-clause-room : goal.returns-clause-room
returns-clause-room c =
    let p = c.args.self.now in
    let is = subst IsProblem c.self.view_is c.keeps_limits.ensures in
    let load = examples-load p is (length c.args.pos.now + length c.args.neg.now) c.requires.examples.few in
    let covers = rw c.as_slice.ensures at c.in_ok-cover_all.ensures.grows in
    let excludes = rw c.as_slice-2.ensures at c.in_ok-uncover_all.ensures.grows in
    let room = c.in_ok-template.ensures.room in
    record {
      vars = omega (arith, load, is.load, covers.vars, excludes.vars, room.vars);
      clauses = omega (arith, load, is.load, covers.clauses, excludes.clauses, room.clauses);
    }

pub returns-clause-inputs : goal.returns-clause-inputs
returns-clause-inputs c =
    let p = c.args.self.now in
    let is = subst IsProblem c.self.view_is c.keeps_limits.ensures in
    let n = 1 + selectors_of (encoding_of p) in
    let encodes : c.in_ok-template.template ≡ encoding_of p =
    rw (
      c.grammar-grammar.ensures.rules,
      c.grammar-grammar.ensures.starts,
      c.grammar-grammar.ensures.depth,
      c.width.ensures,
      c.self.view_is,
    ) at c.in_ok-template.ensures.encodes in
    let some : n ≤ c.new.new.circuit.vars = omega (arith, rw encodes at c.in_ok-template.ensures.selectors) in
    let covers = rw c.as_slice.ensures at c.in_ok-cover_all.ensures in
    let excludes = rw c.as_slice-2.ensures at c.in_ok-uncover_all.ensures in
    HasInputs-quiet
    (HasInputs-quiet (rw encodes at c.in_ok-template.ensures.inputs) covers.follows
    (Builds-each (covered p) (IsPositive p) (example_weight p) n (Builds-covered p is.formed) c.args.pos.now
    c.requires.examples.positives (place_of c.new.new.circuit) some))
    excludes.follows
    (Builds-each (uncovered p) (IsNegative p) (example_weight p) n (Builds-uncovered p is.formed) c.args.neg.now
    c.requires.examples.negatives (place_of c.cover_all.new.circuit)
    (omega (arith, some, covers.grows.not_less)))
