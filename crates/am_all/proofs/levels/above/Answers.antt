use Rattle.std.proofs.Common.{◌≡◌, ℕ, suc, [], length-append, arith, subst}
use Rattle.std.specs.Prelude.{All, false, true}
use Rattle.am_tree.specs.Listed.{trees_by, trees_of}
use Rattle.std.proofs.lemmas.List.{get_or_read}
use Rattle.am_all.proofs.Lists.{each-push}
use Rattle.am_all.proofs.TreeLists.{trees_of-none}
use Rattle.am_all.proofs.levels.above.Goals as goal

pub loop-productions-preserved : goal.loop-productions-preserved
loop-productions-preserved c =
    let pushed = c.in_ok-push.ensures.ok in
    record {
      pushed = rw pushed (simp length-append (omega (arith, c.loop-productions.invariant.pushed)));
      told = λ d n told below said.
          each-push (λ n b. b ≡ false → trees_of c.args.rules.now (suc d) n ≡ []) c.loop-productions.level
          c.has_tree.result true c.loop-productions.productions-index
          c.loop-productions.invariant.pushed (λ n l. c.loop-productions.invariant.told d n told l)
          (λ said. trees_of-none c.args.rules.now d c.loop-productions.productions-index
          (subst (All (λ p. (k : ℕ) → trees_by (trees_of c.args.rules.now d) k p ≡ []))
          (get_or_read c.args.rules.now c.loop-productions.productions-index c.productions-item.result
          c.loop-productions-test.true c.productions-item.is [])
          (rw c.as_slice.ensures at (c.has_tree.ensures said (trees_of c.args.rules.now d) told)))) n below
          (rw pushed at said);
    }
