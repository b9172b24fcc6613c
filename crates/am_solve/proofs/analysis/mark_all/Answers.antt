use Rattle.std.proofs.Common.{arith, ◌≢◌, ◌<◌, ◌∙◌, length}
use Rattle.std.specs.Prelude.{Contains}
use Rattle.std.proofs.lemmas.List.{length-map}
use Rattle.am_lit.specs.Literal.{opposite_of}
use Rattle.am_trail.specs.Trails.{literals}
use Rattle.am_solve.proofs.Marked.{differ_when, same_when, All-read, has_value, apart_of, opposite_at, more_besides}
use Rattle.am_solve.proofs.Marked.{more_place}
use Rattle.am_solve.proofs.analysis.mark_all.Goals as goal
use Rattle.am_solve.proofs.analysis.mark_all.Goals.{then-ne+in_ok-mark, else-ne}

pub place-place-requires : goal.place-place-requires
place-place-requires c =
    let row = literals c.args.trail.now.entries in
    has_value row c.l-item.result c.variable.result c.variable.ensures
    (All-read (λ m. m ≢ c.args.besides → Contains row (opposite_of m)) c.args.clause.now c.loop-l.l-index
    c.l-item.result (omega arith) c.l-item.is c.requires.untrue
    (differ_when c.ne.result c.l-item.result c.args.besides c.ne.ensures c.if-ne.true))

pub mark-requires-clause-literal : goal.mark-requires-clause-literal
mark-requires-clause-literal c =
    let row = literals c.args.trail.now.entries in
    opposite_at row (apart_of c.args.trail.now c.known.ensures) c.l-item.result c.place-place.result
    (All-read (λ m. m ≢ c.args.besides → Contains row (opposite_of m)) c.args.clause.now c.loop-l.l-index
    c.l-item.result (omega arith) c.l-item.is c.requires.untrue
    (differ_when c.ne.result c.l-item.result c.args.besides c.ne.ensures c.if-ne.true))
    (omega (arith, c.place-place.ensures.within, length-map c.args.trail.now.entries (λ e. e.literal)))
    (c.place-place.ensures.at ∙ c.variable.ensures)

pub loop-l-preserved : goal.loop-l-preserved
loop-l-preserved c =
    let row = literals c.args.trail.now.entries in
    let i = c.loop-l.invariant in
    elim c.if-ne.branch [
      | then-ne+in_ok-mark w ↦
          let differs : c.l-item.result ≢ c.args.besides =
          differ_when c.ne.result c.l-item.result c.args.besides c.ne.ensures w.if-ne.true in
          let lp : w.place-place.result < length row =
          omega (arith, w.place-place.ensures.within, length-map c.args.trail.now.entries (λ e. e.literal)) in
          let ln : w.place-place.result < length c.loop-l.marks.places.items =
          omega (arith, w.place-place.ensures.within, i.more.count, c.requires.len) in
          let false' =
          All-read (λ m. m ≢ c.args.besides → Contains row (opposite_of m)) c.args.clause.now c.loop-l.l-index
          c.l-item.result (omega arith) c.l-item.is c.requires.untrue differs in
          let at =
          opposite_at row (apart_of c.args.trail.now c.known.ensures) c.l-item.result w.place-place.result false' lp
          (w.place-place.ensures.at ∙ w.variable.ensures) in
          rw w.marks-is (record {
            more =
                rw w.in_ok-mark.ensures.places
                (more_place row c.args.marks.now.places.items c.loop-l.marks.places.items c.args.clause.now
                c.loop-l.l-index c.l-item.result c.args.besides (omega arith) c.l-item.is i.more
                w.place-place.result differs lp ln at);
            start = w.mark.ensures.start ∙ i.start;
            counted = w.in_ok-mark.ensures.counted;
            grows = omega (arith, i.grows, w.in_ok-mark.ensures.grows);
          })
      | else-ne w ↦ rw w.marks-is (record {
        more =
            more_besides row c.args.marks.now.places.items c.loop-l.marks.places.items c.args.clause.now
            c.loop-l.l-index c.l-item.result c.args.besides (omega arith) c.l-item.is i.more
            (same_when c.ne.result c.l-item.result c.args.besides c.ne.ensures w.if-ne.false);
        start = i.start;
        counted = i.counted;
        grows = i.grows;
      })
    ]
