use Rattle.std.proofs.Common.{◌≡◌, ◌++◌, take}
use Rattle.am_syntax.proofs.Laws.{each_text}
use Rattle.am_problem.specs.Printing.{production_words}
use Rattle.am_problem.specs.Texts.{named_production}
use Rattle.am_problem.proofs.printing.print_rule.Given as goal

abbrev pub invariant-productions : goal.invariant-productions
invariant-productions l =
    let written = take l.production-index l.productions in
    l.out ≡ l.initial.out ++ each_text (λ q. production_words (named_production l.p.names q)) written
