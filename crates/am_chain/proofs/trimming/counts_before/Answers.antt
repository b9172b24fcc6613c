use Rattle.std.proofs.Common.{◌≡◌, ap, length, ◌∙◌, arith, length-append, [], ◌∷◌, ◌+◌}
use Rattle.am_chain.specs.Trimmed.{kept_below}
use Rattle.am_chain.proofs.KeptChains.{kept_le}
use Rattle.am_chain.specs.inside.Marks.{mark_at}
use Rattle.am_chain.proofs.Needing.{count_more, counts_more}
use Rattle.am_chain.proofs.trimming.counts_before.Goals as goal

pub loop-is_needed-preserved : goal.loop-is_needed-preserved
loop-is_needed-preserved c =
    let inv = c.loop-is_needed.invariant in
    let i = c.loop-is_needed.is_needed-index in
    let keeps = mark_at c.args.needed.now in
    record {
      len =
          ap length c.in_ok-push.ensures.items
          ∙ length-append c.loop-is_needed.before.items (c.loop-is_needed.count ∷ []) ∙ ap (λ n. n + 1) inv.len;
      count =
          ap (λ n. c.loop-is_needed.count + n) c.from-count.ensures
          ∙ count_more keeps i c.loop-is_needed.count inv.count;
      counts =
          counts_more keeps i c.loop-is_needed.count c.loop-is_needed.before.items c.push.new.self.items inv.len
          c.in_ok-push.ensures.items inv.count inv.counts;
    }

pub returns-clause-counts : goal.returns-clause-counts
returns-clause-counts c = λ k lt. c.loop-is_needed.invariant.counts k (omega (arith, lt, c.loop-is_needed-test.false))

pub overflow_add-count : goal.overflow_add-count
overflow_add-count c =
    let inv = c.loop-is_needed.invariant in
    let i = c.loop-is_needed.is_needed-index in
    let keeps = mark_at c.args.needed.now in
    let total : c.loop-is_needed.count + c.from-count.result ≡ kept_below keeps (i + 1) =
    ap (λ n. c.loop-is_needed.count + n) c.from-count.ensures ∙ count_more keeps i c.loop-is_needed.count inv.count in
    omega (arith, total, kept_le keeps (i + 1), c.loop-is_needed-test.true, c.requires)
