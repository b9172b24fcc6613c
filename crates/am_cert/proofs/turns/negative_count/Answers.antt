use Rattle.std.proofs.Common.{◌≡◌, ◌+◌, [], ◌∷◌, length, ap, arith, length-append, ◌∙◌}
use Rattle.am_cert.specs.Grammar.{negative_count, negatives_after}
use Rattle.am_cert.proofs.Counting.{count_after}
use Rattle.am_cert.proofs.turns.negative_count.Goals as goal

pub loop-turn-preserved : goal.loop-turn-preserved
loop-turn-preserved c =
    let front = c.next.new.self.iter.rest.now in
    let turn = c.in-Some.turn.now in
    let shorter = ap length c.in-Some.ensures.steps ∙ length-append front (turn ∷ []) in
    let fewer : negative_count c.loop-turn.turn-iterator.iter.rest.now ≡ negative_count front + 1 =
    ap negative_count c.in-Some.ensures.steps
    ∙ count_after front turn
    ∙ ap (negatives_after (negative_count front)) c.in-Negative.is in
    record {
      so_many = omega (arith, c.loop-turn.invariant.so_many, shorter);
      count = omega (arith, c.loop-turn.invariant.count, fewer);
    }

pub returns-in-Positive : goal.returns-in-Positive
returns-in-Positive c =
    let front = c.next.new.self.iter.rest.now in
    let kept : negative_count c.loop-turn.turn-iterator.iter.rest.now ≡ length c.in-Positive.kept =
    ap negative_count c.in-Some.ensures.steps
    ∙ count_after front c.in-Some.turn.now
    ∙ ap (negatives_after (negative_count front)) c.in-Positive.is in
    omega (arith, c.loop-turn.invariant.count, kept, c.length.ensures.value, ap length c.as_slice.ensures)
