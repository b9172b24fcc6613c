use Rattle.am_drop.proofs.keeper.keep.Goals as goal

pub returns-in-Refuted-clause-answer : goal.returns-in-Refuted-clause-answer
returns-in-Refuted-clause-answer c = rw (c.new.ensures, c.in-Refuted.is) at c.in_ok-term.ensures.answer
