use Rattle.std.proofs.Common.{◌+◌, ◌-◌, ◌*◌, ◌<◌, ◌≤◌, length, arith, refl, sym, ◌∙◌}
use Rattle.std.proofs.lemmas.List.{length-take-le}
use Rattle.std.proofs.lemmas.List.Elements.{All-append}
use Rattle.am_gate.specs.Build.{place_of}
use Rattle.am_gate.proofs.Laws.{Grows-same, HasRoom-grown, Begins-trans, GivesStep-Follows}
use Rattle.am_gate.specs.Circuit.{IsLiteral}
use Rattle.am_blast.specs.Words.{zeros}
use Rattle.am_blast.proofs.Words.{All-zeros, All-later}
use Rattle.am_blast.proofs.Products.{row_gates, row-length, room-row, Makes-product, Follows-product_from_at}
use Rattle.am_blast.proofs.Products.{Follows-product_from_end}
use Rattle.am_blast.proofs.product.product.Goals as goal

pub sum-requires-clause-room : goal.sum-requires-clause-room
sum-requires-clause-room c =
    let inside : c.loop-i.i < length c.args.a.now = omega (arith, c.requires.words.lengths) in
    rw (c.as_slice-in-loop-i.ensures, c.loop-i.invariant.word.bits)
    (HasRoom-grown (3 * length c.args.a.now) (Grows-same _)
    (room-row (length c.args.a.now) c.loop-i.i _ inside (length-take-le _ c.args.a.now (omega arith))
    c.in_ok-row.ensures.ok.grows c.loop-i.invariant.room)
    (omega arith))

pub sum-requires-clause-words : goal.sum-requires-clause-words
sum-requires-clause-words c =
    let some : 0 < c.args.circuit.now.vars = rw c.truth.ensures.truth at c.truth.ensures.inside in
    let vars = c.each_and.new.circuit.vars in
    let more : c.args.circuit.now.vars ≤ vars =
    omega (arith, c.loop-i.invariant.begins.vars, c.in_ok-row.ensures.begins.vars) in
    let row = c.in_ok-row.ensures.ok.given in
    let within : c.loop-i.i < length c.args.a.now = omega (arith, c.requires.words.lengths) in
    rw (
      c.as_slice-in-loop-i.ensures,
      c.as_slice-in-loop-i-2.ensures,
      c.in_ok-moved.ensures,
      c.as_slice.ensures,
      c.opposite-falsity.ensures,
      c.truth.ensures.truth,
    )
    (record {
      lengths =
          row-length (length c.args.a.now) c.loop-i.i c.args.a.now c.in_ok-row.row refl (omega arith) row.bits
          ∙ sym c.loop-i.invariant.word.bits;
      first =
          All-later c.loop-i.circuit.vars vars c.loop-i.acc c.in_ok-row.ensures.begins.vars
          c.loop-i.invariant.word.inside;
      second =
          All-append (IsLiteral vars) (zeros c.loop-i.i) c.in_ok-row.row
          (All-zeros vars c.loop-i.i (omega (arith, some, more))) row.inside;
    })

pub loop-i-preserved : goal.loop-i-preserved
loop-i-preserved c =
    let inside : c.loop-i.i < length c.args.a.now = omega (arith, c.requires.words.lengths) in
    record {
      follows = λ r end h. c.loop-i.invariant.follows r end
          (Follows-product_from_at c.loop-i.i c.index-b-i.result c.loop-i.acc c.args.a.now c.args.b.now c.in_ok-row.row
          c.in_ok-acc-2.acc _ _ _ _ _
          (omega arith) c.index-b-i.is c.in_ok-row.ensures.ok.follows
          (rw (
            c.as_slice-in-loop-i.ensures,
            c.as_slice-in-loop-i-2.ensures,
            c.in_ok-moved.ensures,
            c.as_slice.ensures,
            c.opposite-falsity.ensures,
            c.truth.ensures.truth,
          )
          at c.in_ok-acc-2.ensures.ok.follows)
          h);
      word = rw (c.as_slice-in-loop-i.ensures, c.loop-i.invariant.word.bits) at c.in_ok-acc-2.ensures.ok.given;
      room = HasRoom-grown (row_gates (length c.args.a.now) (length c.args.a.now - (c.loop-i.i + 1)))
          (rw (c.as_slice-in-loop-i.ensures, c.loop-i.invariant.word.bits) at c.in_ok-acc-2.ensures.ok.grows)
          (room-row (length c.args.a.now) c.loop-i.i _ inside (length-take-le _ c.args.a.now (omega arith))
          c.in_ok-row.ensures.ok.grows c.loop-i.invariant.room)
          (omega arith);
      begins =
          Begins-trans c.loop-i.invariant.begins (Begins-trans c.in_ok-row.ensures.begins c.in_ok-acc-2.ensures.begins);
    }

pub returns-clause-ok : goal.returns-clause-ok
returns-clause-ok c =
    GivesStep-Follows
    (Makes-product (length c.args.a.now) c.args.a.now c.args.b.now (place_of c.args.circuit.now)
    (rw c.truth.ensures.truth at c.truth.ensures.inside)
    (record { bits = refl; inside = c.requires.words.first })
    (record { bits = c.requires.words.lengths; inside = c.requires.words.second }))
    (c.loop-i.invariant.follows _ c.loop-i.circuit
    (Follows-product_from_end c.loop-i.i c.loop-i.acc c.args.a.now c.args.b.now c.loop-i.circuit (omega arith)))
