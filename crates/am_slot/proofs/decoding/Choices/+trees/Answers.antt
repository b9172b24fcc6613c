use Rattle.std.proofs.Common.{◌-◌, ◌<◌, length, sym, ◌∙◌, ap, arith}
use Rattle.std.proofs.lemmas.Result.{IfOk-weaker}
use Rattle.am_lit.specs.Truth.{value_at}
use Rattle.am_slot.specs.Selectors.{room}
use Rattle.am_slot.proofs.Choosing.{length-trees, trees-zero, trees-above}
use Rattle.am_slot.proofs.Levels.{room-widths, room-above, next-last}
use Rattle.am_slot.proofs.Tables.{next-whole}
use Rattle.am_slot.proofs.decoding.Choices.+trees.Goals as goal

pub level_trees-requires-clause-count : goal.level_trees-requires-clause-count
level_trees-requires-clause-count t c = sym (ap length (next-last c.args.self.now.rules.now c.args.symbols.now))

pub level_trees-requires-clause-values : goal.level_trees-requires-clause-values
level_trees-requires-clause-values t c =
    let zero = ap (λ b. room c.args.self.now.rules.now b c.args.symbols.now) c.if-below-eq0.true in
    omega (arith, zero, room-widths c.args.self.now.rules.now 0 c.args.symbols.now, c.requires.values)

pub level_trees-requires-clause-few : goal.level_trees-requires-clause-few
level_trees-requires-clause-few t c =
    let zero = ap (λ b. room c.args.self.now.rules.now b c.args.symbols.now) c.if-below-eq0.true in
    omega (arith, zero, room-widths c.args.self.now.rules.now 0 c.args.symbols.now, c.requires.few)

pub end_of-end-requires-clause-room : goal.end_of-end-requires-clause-room
end_of-end-requires-clause-room t c =
    omega (arith, room-widths c.args.self.now.rules.now c.args.below c.args.symbols.now, c.requires.few)

pub trees-requires : goal.trees-requires
trees-requires t c =
    let rules = c.args.self.now.rules.now in
    let ns = c.args.symbols.now in
    let pos : 0 < c.args.below = omega arith in
    let same = c.as_slice.ensures.value ∙ c.in_ok-level.ensures in (
      omega arith,
      (
        c.requires.whole,
        (
          rw same (next-whole rules c.args.below ns c.requires.whole),
          (
            rw same (omega (arith, room-above rules c.args.below ns pos, c.end_of-end.ensures, c.requires.values)),
            rw same (omega (arith, room-above rules c.args.below ns pos, c.end_of-end.ensures, c.requires.few)),
          ),
        ),
      ),
    )

pub level_trees-requires-2-clause-count : goal.level_trees-requires-2-clause-count
level_trees-requires-2-clause-count t c =
    let same = c.as_slice.ensures.value ∙ c.in_ok-level.ensures in
    let deeper = rw same at (c.as_slice-2.ensures ∙ c.in_ok-next.ensures) in
    rw deeper
    (length-trees c.args.self.now.rules.now (value_at c.args.self.now.assignment.now.values) (c.args.below - 1)
    c.end_of-end.result _)

pub level_trees-requires-2-clause-values : goal.level_trees-requires-2-clause-values
level_trees-requires-2-clause-values t c =
    omega (arith, room-widths c.args.self.now.rules.now c.args.below c.args.symbols.now, c.requires.values)

pub level_trees-requires-2-clause-few : goal.level_trees-requires-2-clause-few
level_trees-requires-2-clause-few t c =
    omega (arith, room-widths c.args.self.now.rules.now c.args.below c.args.symbols.now, c.requires.few)

pub returns-then-below-eq0 : goal.returns-then-below-eq0
returns-then-below-eq0 t c =
    IfOk-weaker c.level_trees.result _ _
    (λ r e. e
    ∙ sym
    (trees-zero c.args.self.now.rules.now (value_at c.args.self.now.assignment.now.values) c.args.below c.args.x
    c.args.symbols.now c.if-below-eq0.true))
    c.level_trees.ensures

pub returns : goal.returns
returns t c =
    let pos : 0 < c.args.below = omega arith in
    let same = c.as_slice.ensures.value ∙ c.in_ok-level.ensures in
    let deeper = rw (same, c.end_of-end.ensures) at (c.as_slice-2.ensures ∙ c.in_ok-next.ensures) in
    IfOk-weaker c.level_trees-2.result _ _
    (λ r e. (rw deeper at e)
    ∙ sym
    (trees-above c.args.self.now.rules.now (value_at c.args.self.now.assignment.now.values) c.args.below
    c.args.x c.args.symbols.now pos))
    c.level_trees-2.ensures
