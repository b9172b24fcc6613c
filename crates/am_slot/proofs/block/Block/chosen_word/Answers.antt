use Rattle.std.proofs.Common.{arith}
use Rattle.std.proofs.lemmas.Result.{IfOk-weaker}
use Rattle.am_gate.proofs.Laws.{Follows-bind, Grows-trans}
use Rattle.am_slot.specs.Blocks.{chosen_word}
use Rattle.am_slot.proofs.block.Block.chosen_word.Goals as goal

pub returns-clause-ok : goal.returns-clause-ok
unfolding chosen_word
returns-clause-ok c =
    let first = c.in_ok-word.ensures.ok in
    IfOk-weaker c.at_each_bit.result _ _
    (λ r g.
    let h = rw (c.as_slice.ensures, c.as_slice-2.ensures, c.new.ensures, first.given.bits) at g in
    record {
      follows = Follows-bind _ first.follows h.follows;
      given = h.given;
      grows = Grows-trans _ first.grows h.grows (omega arith);
    })
    c.at_each_bit.ensures.ok
