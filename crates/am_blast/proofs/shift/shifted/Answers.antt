use Rattle.std.proofs.Common.{◌≡◌, ◌/◌, ◌<◌, ◌^◌, length, ◌∙◌, arith}
use Rattle.am_gate.specs.Build.{place_of}
use Rattle.am_gate.proofs.Laws.{Grows-trans, Begins-trans, GivesStep-Follows}
use Rattle.am_blast.specs.Shifts.{moved}
use Rattle.am_blast.proofs.Words.{AreWordPair-alike}
use Rattle.am_blast.proofs.Shifts.{IsWord-moved, Makes-shifted_from, Follows-shifted_from_at, Follows-shifted_from_end}
use Rattle.am_blast.proofs.Shifts.{length-moved, one_shifted}
use Rattle.am_blast.proofs.shift.shifted.Goals as goal

pub at_each_bit-requires-clause-words : goal.at_each_bit-requires-clause-words
at_each_bit-requires-clause-words c =
    let vars = c.loop-k.circuit.vars in
    let word = c.loop-k.invariant.word in
    let fill : c.args.fill / 2 < vars = omega (arith, c.requires.fill, c.loop-k.invariant.begins.vars) in
    rw (c.as_slice-in-loop-k.ensures, c.as_slice-in-loop-k-2.ensures, c.in_ok-from.ensures, c.as_slice.ensures)
    (AreWordPair-alike (length c.args.a.now) vars _ c.loop-k.word
    (IsWord-moved c.args.direction vars c.args.fill _ (length c.args.a.now) c.loop-k.word fill word) word)

pub loop-k-preserved : goal.loop-k-preserved
loop-k-preserved c =
    let from = moved c.args.direction c.args.fill (2 ^ c.loop-k.k) c.loop-k.word in
    let long : length from ≡ length c.args.a.now =
    length-moved c.args.direction c.args.fill (2 ^ c.loop-k.k) c.loop-k.word ∙ c.loop-k.invariant.word.bits in
    let few : c.loop-k.k < 8 = omega (arith, c.requires.few, c.requires.words.lengths) in
    let made =
    rw (
      c.as_slice-in-loop-k.ensures,
      c.as_slice-in-loop-k-2.ensures,
      c.in_ok-from.ensures,
      c.as_slice.ensures,
      one_shifted c.loop-k.k few,
      long,
    )
    at c.in_ok-word-2.ensures.ok in
    record {
      follows = λ r end h. c.loop-k.invariant.follows r end
          (Follows-shifted_from_at (moved c.args.direction c.args.fill) c.loop-k.k c.index-by-k.result c.loop-k.word
          c.in_ok-word-2.word c.args.by.now _ _ _ _
          (omega arith) c.index-by-k.is made.follows h);
      word = made.given;
      grows = Grows-trans _ c.loop-k.invariant.grows made.grows (omega arith);
      begins = Begins-trans c.loop-k.invariant.begins c.in_ok-word-2.ensures.begins;
    }

pub returns-clause-ok : goal.returns-clause-ok
returns-clause-ok c =
    GivesStep-Follows
    (rw c.requires.words.lengths at
    (Makes-shifted_from c.args.direction (length c.args.a.now) c.args.fill 0 c.args.a.now c.args.by.now
    (place_of c.args.circuit.now) c.requires.fill
    (record { bits = omega arith; inside = c.requires.words.first }) c.requires.words.second))
    (c.loop-k.invariant.follows _ c.loop-k.circuit
    (Follows-shifted_from_end (moved c.args.direction c.args.fill) c.loop-k.k c.loop-k.word c.args.by.now
    c.loop-k.circuit (omega arith)))
