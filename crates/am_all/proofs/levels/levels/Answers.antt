use Rattle.std.proofs.Common.{ℕ, suc, ◌+◌, ◌<◌, [], length, get_or, length-append, ap, sym, subst, add-one, arith}
use Rattle.am_tree.specs.Listed.{trees_of}
use Rattle.am_all.specs.inside.Levels.{IsToldLevel}
use Rattle.am_all.proofs.Lists.{each-push}
use Rattle.am_all.proofs.levels.levels.Goals as goal

pub loop-preserved : goal.loop-preserved
loop-preserved c =
    let rules = c.args.grammar.now.rules in
    let pushed = c.in_ok-push.ensures.ok in
    let above : (d : ℕ) → IsToldLevel (trees_of rules d) c.loop.level → IsToldLevel (trees_of rules (suc d))
    c.in_ok-above.above =
    rw (c.as_slice-rules.ensures, c.as_slice.ensures) at c.in_ok-above.ensures in
    record {
      pushed = rw pushed (simp length-append (omega (arith, c.loop.invariant.pushed)));
      each = λ d below.
          let l : d < c.loop.counter + 1 =
          omega (arith, c.loop.invariant.pushed, below, simp length-append at (ap length pushed)) in
          subst (λ levels. IsToldLevel (trees_of rules d) (get_or levels d [])) (sym pushed)
          (each-push (λ d level. IsToldLevel (trees_of rules d) level) c.loop.levels c.loop.level [] c.loop.counter
          c.loop.invariant.pushed
          (λ d l. c.loop.invariant.each d (omega (arith, l, c.loop.invariant.pushed))) c.loop.invariant.next d l);
      next = rw add-one (above c.loop.counter c.loop.invariant.next);
    }
