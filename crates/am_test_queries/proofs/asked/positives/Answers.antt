use Rattle.std.proofs.Common.{List, subst, sym}
use Rattle.std.specs.Prelude.{All}
use Rattle.std.proofs.lemmas.List.Elements.{All-push}
use Rattle.am_problem.specs.Examples.{IsPositive}
use Rattle.am_problem.specs.declared.examples.Positive.{Positive}
use Rattle.am_test_queries.proofs.asked.positives.Goals as goal

pub loop-word-preserved-in-Continue-1 : goal.loop-word-preserved-in-Continue-1
loop-word-preserved-in-Continue-1 g c =
    let P : Positive → Type 0 = IsPositive c.args.p.now in
    subst (λ (xs : List Positive). All P xs) (sym c.in_ok-push.ensures.ok)
    (All-push P c.loop-word.positives c.positive.result c.loop-word.invariant c.positive.ensures)
