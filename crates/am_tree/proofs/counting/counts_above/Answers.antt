use Rattle.std.proofs.Common.{◌≡◌, ℕ, ◌+◌, List, [], get_or, length, subst, sum_by, ◌∙◌, arith}
use Rattle.std.specs.Prelude.{Option, None}
use Rattle.std.proofs.lemmas.List.{get_or_default}
use Rattle.am_tree.specs.declared.grammar.Production.{Production}
use Rattle.am_tree.specs.Counts.{production_count}
use Rattle.am_tree.specs.inside.Counted.{IsCount}
use Rattle.am_tree.proofs.Loops.{each-push}
use Rattle.am_tree.proofs.counting.counts_above.Goals as goal

pub loop-productions-preserved : goal.loop-productions-preserved
loop-productions-preserved c =
    let rules = c.args.rules.now in
    let i = c.loop-productions.productions-index in
    let counts = c.loop-productions.counts.items in
    let ps = c.productions-item.result in
    let len : length c.push.new.self.items ≡ i + 1 =
    omega (arith, c.push.ensures.len, c.loop-productions.invariant.len) in
    record {
      len = len;
      counts = λ f known n below.
          let here : IsCount (sum_by (production_count f) (get_or rules i [])) c.sum_of.result =
          subst (λ (xs : List Production). IsCount (sum_by (production_count f) xs) c.sum_of.result)
          (c.as_slice.ensures ∙ c.productions-item.is ∙ get_or_default rules i ps [] c.loop-productions-test.true)
          (c.sum_of.ensures f known) in
          rw c.push.ensures.items
          (each-push (λ n (o : Option ℕ). IsCount (sum_by (production_count f) (get_or rules n [])) o) counts
          c.sum_of.result None i c.loop-productions.invariant.len
          (λ m l. c.loop-productions.invariant.counts f known m
          (omega (arith, l, c.loop-productions.invariant.len)))
          here n (omega (arith, below, len)));
    }
