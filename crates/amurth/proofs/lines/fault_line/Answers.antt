use Rattle.amurth.proofs.lines.fault_line.Goals as goal

pub returns-in-Unfinished : goal.returns-in-Unfinished
returns-in-Unfinished c = rw c.in-Unfinished.is c.unfinished.ensures

pub returns-in-TermOutside : goal.returns-in-TermOutside
returns-in-TermOutside c = rw c.in-TermOutside.is c.rejected.ensures

pub returns-in-PositiveFalse : goal.returns-in-PositiveFalse
returns-in-PositiveFalse c = rw c.in-PositiveFalse.is c.rejected-in-PositiveFalse.ensures

pub returns-in-NegativeFalse : goal.returns-in-NegativeFalse
returns-in-NegativeFalse c = rw c.in-NegativeFalse.is c.rejected-in-NegativeFalse.ensures

pub returns-in-BadChain : goal.returns-in-BadChain
returns-in-BadChain c = rw c.in-BadChain.is (rw c.why_word.ensures.word at c.within.ensures)

pub returns-in-BadHint : goal.returns-in-BadHint
returns-in-BadHint c = rw c.in-BadHint.is (rw c.hint_why_word.ensures.word at c.within-in-BadHint.ensures)

pub returns-in-NotEmpty : goal.returns-in-NotEmpty
returns-in-NotEmpty c = rw c.in-NotEmpty.is c.rejected-in-NotEmpty.ensures
