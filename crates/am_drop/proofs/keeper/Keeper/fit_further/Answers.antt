use Rattle.am_query.proofs.Laws.{places_grow}
use Rattle.am_drop.proofs.keeper.Keeper.fit_further.Goals as goal

pub fit-requires-clause-examples : goal.fit-requires-clause-examples
fit-requires-clause-examples c =
    let grown = places_grow c.args.self.now.neg.now c.args.places.now c.args.place c.get.result.now c.get.ensures in
    rw (c.in_ok-push.ensures.ok, c.copy.ensures, c.in_ok-examples.ensures, ← grown) c.requires.examples

pub returns-clause-answer : goal.returns-clause-answer
returns-clause-answer c =
    let grown = places_grow c.args.self.now.neg.now c.args.places.now c.args.place c.get.result.now c.get.ensures in
    rw (c.in_ok-push.ensures.ok, c.copy.ensures, c.in_ok-examples.ensures, ← grown) at c.in_ok-answer.ensures.answer
