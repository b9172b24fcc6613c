use Rattle.std.proofs.Common.{◌∙◌, ◌≤◌, ap, length, arith, subst}
use Rattle.am_tree.specs.declared.grammar.Production.{Production}
use Rattle.am_tree.specs.Slots.{arguments}
use Rattle.am_tree.proofs.Loops.{length-positioned, distinct-name}
use Rattle.am_tree.proofs.slots.add_arguments.Goals as goal

pub overflow_cast-position : goal.overflow_cast-position
overflow_cast-position c =
    let short = subst (λ (p : Production). length (arguments p) ≤ 3) c.in-Node.is c.requires.short in
    let same = ap length c.as_slice-name-items.ensures in
    omega (arith, short, same, length-positioned 0 c.in-Node.names, c.loop-position-test.true)

pub add_argument-requires : goal.add_argument-requires
add_argument-requires c =
    let short = subst (λ (p : Production). length (arguments p) ≤ 3) c.in-Node.is c.requires.short in
    let same = ap length c.as_slice-name-items.ensures in
    omega (
      arith,
      short,
      same,
      length-positioned 0 c.in-Node.names,
      c.loop-position-test.true,
      c.loop-position.invariant.len,
      c.requires.room,
    )

pub loop-position-preserved : goal.loop-position-preserved
loop-position-preserved c = record {
  items = rw c.add_argument.ensures.items
      (distinct-name c.loop-position.seen.items c.loop-position.position c.as_slice-name-items.result.now
      c.loop-position-test.true
      ∙ c.loop-position.invariant.items);
  len = omega (arith, c.add_argument.ensures.len, c.loop-position.invariant.len);
}

pub returns-after-loop-position-clause-len : goal.returns-after-loop-position-clause-len
returns-after-loop-position-clause-len c =
    let short = subst (λ (p : Production). length (arguments p) ≤ 3) c.in-Node.is c.requires.short in
    let same = ap length c.as_slice-name-items.ensures in
    omega (
      arith,
      short,
      same,
      length-positioned 0 c.in-Node.names,
      c.loop-position.invariant.len,
      c.loop-position.auto.position-end,
    )
