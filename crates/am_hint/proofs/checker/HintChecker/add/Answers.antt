use Rattle.std.proofs.Common.{◌≡◌, ◌++◌, ◌∷◌, [], sym, ap, ◌∙◌}
use Rattle.std.proofs.lemmas.List.Elements.{All-append, All-push}
use Rattle.am_lit.specs.Clause.{IsNormal}
use Rattle.am_lit.specs.Truth.{Implies}
use Rattle.am_chain.proofs.Laws.{implied_by_given}
use Rattle.am_hint.specs.inside.Rows.{TrueRow}
use Rattle.am_hint.proofs.NormalTests.{normal_tests_are_right}
use Rattle.am_hint.proofs.Sound.{hints_are_sound, passes_where}
use Rattle.am_hint.proofs.checker.HintChecker.add.Goals as goal

pub deny-requires-clause-below : goal.deny-requires-clause-below
deny-requires-clause-below c =
    let test = sym c.is_normal.ensures ∙ c.if-not-is_normal.false in
    let normal = (normal_tests_are_right c.self.inside.formula.now.vars c.as_slice-codes.result.now).0 test in
    rw (c.as_slice.ensures.value, c.in_ok-read.ensures, c.clear-2.ensures, c.self.invariant.0) normal.below

pub propagate-requires-clause-normal : goal.propagate-requires-clause-normal
propagate-requires-clause-normal c =
    let f = c.self.inside.formula.now in
    let cleared = ap (λ (r : TrueRow). r.vars) c.clear-2.ensures ∙ c.self.invariant.0 in
    let vars : c.deny.new.row.vars ≡ f.vars = c.deny.ensures.vars ∙ cleared in
    rw vars (All-append (IsNormal f.vars) f.clauses c.self.inside.added f.normal c.self.invariant.1)

pub invariant_of-self-in_err-push : goal.invariant_of-self-in_err-push
invariant_of-self-in_err-push c =
    let cleared = ap (λ (r : TrueRow). r.vars) c.clear-2.ensures ∙ c.self.invariant.0 in
    let vars = c.propagate.ensures.vars ∙ c.deny.ensures.vars ∙ cleared in
    rw c.in_err-push.ensures.err (vars, c.self.invariant.1, c.self.invariant.2)

pub invariant_of-self-2 : goal.invariant_of-self-2
invariant_of-self-2 c =
    let f = c.self.inside.formula.now in
    let added = c.self.inside.added in
    let hint = c.args.hint.now in
    let cleared = ap (λ (r : TrueRow). r.vars) c.clear-2.ensures ∙ c.self.invariant.0 in
    let vars = c.propagate.ensures.vars ∙ c.deny.ensures.vars ∙ cleared in
    let codes = c.as_slice-codes.ensures in
    let test = rw codes at (sym c.is_normal.ensures ∙ c.if-not-is_normal.false) in
    let clause : c.read.new.clause.items ≡ hint.clause = c.in_ok-read.ensures ∙ codes in
    let row = c.in_ok-deny.ensures.row in
    let led = rw (row, c.as_slice.ensures.value, clause, c.as_slice-2.ensures) at c.in_ok-propagate.ensures.ok in
    let passes = passes_where f.vars (f.clauses ++ added) hint test led in
    let follows = hints_are_sound f.vars (f.clauses ++ added) hint passes in
    let implied = implied_by_given f.clauses added hint.clause c.self.invariant.2 follows in
    let pushed : c.push.new.self ≡ added ++ hint.clause ∷ [] =
    c.in_ok-push.ensures.ok ∙ ap (λ x. added ++ x ∷ []) (c.as_slice-3.ensures.value ∙ clause) in
    rw pushed (
      vars,
      All-push (IsNormal f.vars) added hint.clause c.self.invariant.1
          ((normal_tests_are_right f.vars hint.clause).0 test),
      All-push (Implies f.clauses) added hint.clause c.self.invariant.2 implied,
    )
