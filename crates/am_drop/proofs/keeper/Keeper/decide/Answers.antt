use Rattle.std.proofs.Common.{refl}
use Rattle.am_problem.proofs.Laws.{derivable_terms_fit}
use Rattle.am_drop.proofs.Selecting.{example, fitted_further, not_selected, selected_further, suits_further}
use Rattle.am_drop.proofs.keeper.Keeper.decide.Goals as goal

pub satisfies_negative-requires-clause-transformer : goal.satisfies_negative-requires-clause-transformer
satisfies_negative-requires-clause-transformer c =
    derivable_terms_fit c.args.self.now.problem.now c.keeps_limits.ensures.formed _ c.requires.selection.derivable

pub satisfies_negative-requires-clause-example : goal.satisfies_negative-requires-clause-example
satisfies_negative-requires-clause-example c =
    example c.args.self.now c.requires.keeper c.args.place c.get-example.result.now c.get-example.ensures

pub returns-then-satisfies_negative-clause-answer : goal.returns-then-satisfies_negative-clause-answer
returns-then-satisfies_negative-clause-answer c =
    let k = c.args.self.now in
    let s = c.args.selection.now in
    let e = c.get-example.result.now in
    let suits = suits_further k c.args.place e c.get-example.ensures s c.requires.selection
    (c.if-satisfies_negative.ensures.0 refl) in
    rw c.in_ok-push.ensures.ok
    (selected_further k c.requires.keeper c.args.place e c.get-example.ensures s c.requires.selection
    s.term c.requires.selection.derivable suits)

pub fit_further-requires-clause-examples : goal.fit_further-requires-clause-examples
fit_further-requires-clause-examples c =
    fitted_further c.args.self.now c.requires.keeper c.args.place c.get-example.result.now c.get-example.ensures
    c.args.selection.now c.requires.selection c.requires.place

pub returns-in-Found-clause-answer : goal.returns-in-Found-clause-answer
returns-in-Found-clause-answer c =
    let found = rw c.in-Found.is at c.in_ok-term.ensures.answer in
    rw c.in_ok-push-in-Found.ensures.ok (selected_further c.args.self.now c.requires.keeper c.args.place
    c.get-example.result.now c.get-example.ensures c.args.selection.now c.requires.selection c.in-Found.term found.0
    found.1)

pub returns-in-Refuted-clause-answer : goal.returns-in-Refuted-clause-answer
returns-in-Refuted-clause-answer c =
    let nothing = rw c.in-Refuted.is at c.in_ok-term.ensures.answer in
    not_selected c.args.self.now c.args.place c.args.selection.now c.requires.selection nothing.0
