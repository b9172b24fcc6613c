use Rattle.std.proofs.Common.{[], ◌≡◌, ◌+◌, ◌*◌, ◌<◌, ◌≤◌, ◌∷◌, ◌++◌, length, length-append, reverse, refl}
use Rattle.std.proofs.lemmas.List.{length-reverse}
use Rattle.am_gate.specs.Circuit.{falsity}
use Rattle.am_gate.specs.Build.{place_of}
use Rattle.am_gate.proofs.Laws.{Begins-trans, GivesStep-Follows}
use Rattle.am_blast.proofs.Division.{room-round, Makes-division, Follows-division_from_at, Follows-division_from_end}
use Rattle.am_blast.proofs.divide.division.Goals as goal

pub loop-l-preserved : goal.loop-l-preserved
loop-l-preserved c =
    let divisor : c.as_slice-in-loop-l.result.now ≡ c.args.b.now ++ falsity ∷ [] =
    rw (
      c.as_slice-in-loop-l.ensures,
      c.in_ok-push.ensures.ok,
      c.in_ok-divisor.ensures,
      c.opposite-falsity.ensures,
      c.truth.ensures.truth,
    )
    refl in
    let more : length (c.args.b.now ++ falsity ∷ []) ≡ length c.args.b.now + 1 =
    length-append c.args.b.now (falsity ∷ []) in
    let within : c.loop-l.l-index < length (reverse c.args.a.now) =
    rw (c.as_slice-l-items.ensures, c.in_ok-dividend.ensures) at c.loop-l-test.true in
    record {
      follows = λ o end h. c.loop-l.invariant.follows o end
          (Follows-division_from_at c.loop-l.l-index c.l-item.result (reverse c.args.a.now) c.loop-l.from_top
          c.loop-l.remainder (c.args.b.now ++ falsity ∷ []) (c.in_ok-bit.bit, c.in_ok-bit.next) _ _ _ _
          within (rw (c.as_slice-l-items.ensures, c.in_ok-dividend.ensures) at c.l-item.is)
          (rw (c.as_slice.ensures, divisor) at c.in_ok-bit.ensures.ok.follows)
          (rw c.in_ok-push-2.ensures.ok at h));
      word = rw (divisor, more) at c.in_ok-bit.ensures.ok.given.1;
      room =
          room-round (length c.args.a.now) c.loop-l.l-index (4 * (length c.args.b.now + 1))
          (rw length-reverse at within) (rw (divisor, more) at c.in_ok-bit.ensures.ok.grows)
          c.loop-l.invariant.room;
      begins = Begins-trans c.loop-l.invariant.begins c.in_ok-bit.ensures.begins;
    }

pub returns-clause-ok : goal.returns-clause-ok
returns-clause-ok c =
    let past : length (reverse c.args.a.now) ≤ c.loop-l.l-index =
    rw (c.as_slice-l-items.ensures, c.in_ok-dividend.ensures) at c.loop-l-test.false in
    GivesStep-Follows
    (Makes-division (length c.args.a.now) c.args.a.now c.args.b.now (place_of c.args.circuit.now)
    (rw c.truth.ensures.truth at c.truth.ensures.inside)
    (record { bits = refl; inside = c.requires.words.first })
    (record { bits = c.requires.words.lengths; inside = c.requires.words.second }))
    (rw (c.in_ok-quotient.ensures, c.as_slice-2.ensures)
    (c.loop-l.invariant.follows _ c.loop-l.circuit
    (Follows-division_from_end c.loop-l.l-index (reverse c.args.a.now) (reverse c.loop-l.from_top) c.loop-l.remainder
    (c.args.b.now ++ falsity ∷ []) c.loop-l.circuit past)))
