use Rattle.am_syntax.specs.Pieces.{syntax}
use Rattle.am_syntax.proofs.TokenLaws.{name_law, number_law, operator_law}
use Rattle.am_syntax.proofs.theorems.tokens_are_exact.Goals as goal

pub returns-clause-numbers : goal.returns-clause-numbers
returns-clause-numbers c = number_law

pub returns-clause-names : goal.returns-clause-names
returns-clause-names c = name_law syntax

pub returns-clause-operators : goal.returns-clause-operators
returns-clause-operators c = operator_law
