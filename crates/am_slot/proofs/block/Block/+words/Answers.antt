use Rattle.std.proofs.Common.{◌≡◌, ◌-◌, ◌<◌, length, sym, ◌∙◌, ap, arith}
use Rattle.std.proofs.lemmas.Result.{IfOk-weaker}
use Rattle.am_gate.proofs.Laws.{Grows-trans, HasRoom-grown, Grows-same}
use Rattle.am_slot.specs.Selectors.{widths}
use Rattle.am_tree.specs.Weights.{block_weight}
use Rattle.am_slot.proofs.Levels.{room-widths, weight-level, room-above, weight-above, next-last, Follows-last}
use Rattle.am_slot.proofs.Levels.{Follows-above}
use Rattle.am_tree.proofs.Laws.{next-inside}
use Rattle.am_slot.proofs.block.Block.+words.Goals as goal

pub end_of-end-requires-clause-room : goal.end_of-end-requires-clause-room
end_of-end-requires-clause-room t c =
    omega (
      arith,
      room-widths c.args.self.now.rules.now c.args.below c.args.symbols.now,
      c.requires.selectors,
      c.requires.room.vars,
    )

pub level_words-requires-clause-count : goal.level_words-requires-clause-count
level_words-requires-clause-count t c = sym (ap length (next-last c.args.self.now.rules.now c.args.symbols.now))

pub level_words-requires-clause-selectors : goal.level_words-requires-clause-selectors
level_words-requires-clause-selectors t c =
    omega (
      arith,
      room-widths c.args.self.now.rules.now c.args.below c.args.symbols.now,
      c.requires.selectors,
      c.end_of-end.ensures,
    )

pub level_words-requires-clause-room : goal.level_words-requires-clause-room
level_words-requires-clause-room t c =
    let last =
    ap (λ b. block_weight c.args.self.now.rules.now c.args.self.now.width b c.args.symbols.now)
    c.if-below-eq0.true in
    HasRoom-grown _ (Grows-same c.args.circuit.now) c.requires.room
    (omega (arith, last, weight-level c.args.self.now.rules.now c.args.self.now.width 0 c.args.symbols.now))

pub words-requires : goal.words-requires
words-requires t c =
    let rules = c.args.self.now.rules.now in
    let ns = c.args.symbols.now in
    let pos : 0 < c.args.below = omega arith in
    let same = c.as_slice.ensures.value ∙ c.in_ok-level.ensures in (
      omega arith,
      (
        c.requires.fit,
        (
          rw same (next-inside (length rules) rules c.args.below ns c.requires.fit.inside),
          (
            c.requires.truth,
            (
              c.requires.fields,
              (
                rw same
                    (omega (arith, room-above rules c.args.below ns pos, c.end_of-end.ensures, c.requires.selectors)),
                rw same
                    (HasRoom-grown _ (Grows-same c.args.circuit.now) c.requires.room
                    (omega (arith, weight-above rules c.args.self.now.width c.args.below ns pos))),
              ),
            ),
          ),
        ),
      ),
    )

pub level_words-requires-2-clause-selectors : goal.level_words-requires-2-clause-selectors
level_words-requires-2-clause-selectors t c =
    omega (
      arith,
      room-widths c.args.self.now.rules.now c.args.below c.args.symbols.now,
      c.requires.selectors,
      c.end_of-end.ensures,
      c.in_ok-next.ensures.ok.grows.not_less,
    )

pub level_words-requires-2-clause-room : goal.level_words-requires-2-clause-room
level_words-requires-2-clause-room t c =
    let rules = c.args.self.now.rules.now in
    let ns = c.args.symbols.now in
    let pos : 0 < c.args.below = omega arith in
    let same = c.as_slice.ensures.value ∙ c.in_ok-level.ensures in
    let grows = rw same at c.in_ok-next.ensures.ok.grows in
    HasRoom-grown _ grows c.requires.room (omega (arith, weight-above rules c.args.self.now.width c.args.below ns pos))

pub returns-then-below-eq0-clause-ok : goal.returns-then-below-eq0-clause-ok
returns-then-below-eq0-clause-ok t c =
    let rules = c.args.self.now.rules.now in
    let ns = c.args.symbols.now in
    let last = ap (λ b. widths rules b ns) c.if-below-eq0.true in
    let first : c.end_of-end.result - widths rules 0 ns ≡ c.args.x = omega (arith, last, c.end_of-end.ensures) in
    rw c.if-below-eq0.true
    (IfOk-weaker c.level_words.result _ _
    (λ r g. record {
      follows =
          Follows-last rules c.args.self.now.width c.args.self.now.fields.now c.args.x ns _ _ _ (rw first at g.follows);
      given = g.given;
      grows =
          Grows-trans _ (Grows-same c.args.circuit.now) g.grows
          (omega (arith, weight-level rules c.args.self.now.width 0 ns));
    })
    c.level_words.ensures.ok)

pub returns-clause-ok : goal.returns-clause-ok
returns-clause-ok t c =
    let rules = c.args.self.now.rules.now in
    let ns = c.args.symbols.now in
    let pos : 0 < c.args.below = omega arith in
    let same = c.as_slice.ensures.value ∙ c.in_ok-level.ensures in
    let one = rw (same, c.end_of-end.ensures) at c.in_ok-next.ensures.ok.follows in
    let grows = rw same at c.in_ok-next.ensures.ok.grows in
    let first : c.end_of-end.result - widths rules c.args.below ns ≡ c.args.x = omega (arith, c.end_of-end.ensures) in
    IfOk-weaker c.level_words-2.result _ _
    (λ r g. record {
      follows =
          Follows-above rules c.args.self.now.width c.args.self.now.fields.now c.args.below c.args.x ns _ _ _ _ _ pos
          one (rw (first, c.as_slice-2.ensures.value) at g.follows);
      given = g.given;
      grows = Grows-trans _ grows g.grows (omega (arith, weight-above rules c.args.self.now.width c.args.below ns pos));
    })
    c.level_words-2.ensures.ok
