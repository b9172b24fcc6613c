use Rattle.am_syntax.proofs.TermLaws.{term_law}
use Rattle.am_syntax.proofs.TextLaws.{text_once, text_refused, text_settled}
use Rattle.am_syntax.proofs.theorems.terms_are_exact.Goals as goal

pub returns-clause-exact : goal.returns-clause-exact
returns-clause-exact c = term_law

pub returns-clause-settled : goal.returns-clause-settled
returns-clause-settled c = λ w limits is text. text_settled (term_law w limits is) tt text

pub returns-clause-once : goal.returns-clause-once
returns-clause-once c = λ w limits is text. text_once (term_law w limits is) tt text

pub returns-clause-for_good : goal.returns-clause-for_good
returns-clause-for_good c = λ w limits is. text_refused (term_law w limits is) tt
