use Rattle.std.proofs.Common.{◌≡◌, ◌-◌, length, [], arith, sym, ◌∙◌}
use Rattle.std.specs.Prelude.{Contains}
use Rattle.std.proofs.lemmas.Bool.{eqb-true}
use Rattle.std.proofs.lemmas.List.{nil_from_length}
use Rattle.am_chain.proofs.Laws.{none_satisfies}
use Rattle.am_hint.proofs.checker.HintChecker.refuted.Goals as goal

pub returns-then-len-gt0-clause-unsatisfiable : goal.returns-then-len-gt0-clause-unsatisfiable
returns-then-len-gt0-clause-unsatisfiable c = λ empty.
    let added = c.self.inside.added in
    let none : c.clause.result.now ≡ [] = nil_from_length _ (eqb-true _ 0 (sym c.is_empty.ensures ∙ empty)) in
    let at : c.clause.result.now ≡ _ = rw c.len-len.ensures at c.clause.ensures in
    let last : Contains added [] = (length added - 1, omega arith, sym at ∙ none) in
    rw (← c.self.view_is) (none_satisfies c.self.inside.formula.now.clauses added c.self.invariant.2 last)
