use Rattle.std.proofs.Common.{ap, get_or, length, arith}
use Rattle.std.specs.Prelude.{All, IsTrue}
use Rattle.std.proofs.lemmas.List.Elements.{All-more}
use Rattle.std.proofs.lemmas.List.Sums.{sum_by_more}
use Rattle.am_tree.specs.Grammars.{is_production}
use Rattle.am_tree.proofs.grammar.are_rules.Goals as goal

pub loop-productions-preserved : goal.loop-productions-preserved
loop-productions-preserved c =
    let rules = c.args.rules.now in
    let i = c.loop-productions.productions-index in
    let ps = c.productions-item.result in
    let below = c.loop-productions-test.true in
    let here : All (λ p. IsTrue (is_production (length rules) p)) (get_or rules i ps) =
    rw (← c.productions-item.is, ← c.as_slice.ensures) (c.are_productions.ensures.0 c.if-not-are_productions.false) in
    record {
      each =
          All-more (All (λ p. IsTrue (is_production (length rules) p))) rules i ps below
          c.loop-productions.invariant.each here;
      total =
          omega (
            arith,
            c.loop-productions.invariant.total,
            c.len-total.ensures,
            sum_by_more length rules i ps below,
            ap length c.productions-item.is,
          );
      most = omega (arith, c.if-len-total.false, c.len.ensures, c.len-total.ensures, c.loop-productions.invariant.most);
    }
