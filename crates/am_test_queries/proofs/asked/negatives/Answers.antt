use Rattle.std.proofs.Common.{List, subst, sym}
use Rattle.std.specs.Prelude.{All}
use Rattle.std.proofs.lemmas.List.Elements.{All-push}
use Rattle.am_problem.specs.Examples.{IsNegative}
use Rattle.am_problem.specs.declared.examples.Negative.{Negative}
use Rattle.am_test_queries.proofs.asked.negatives.Goals as goal

pub loop-word-preserved-in-Continue-1 : goal.loop-word-preserved-in-Continue-1
loop-word-preserved-in-Continue-1 g c =
    let P : Negative → Type 0 = IsNegative c.args.p.now in
    subst (λ (xs : List Negative). All P xs) (sym c.in_ok-push.ensures.ok)
    (All-push P c.loop-word.negatives c.negative.result c.loop-word.invariant c.negative.ensures)
