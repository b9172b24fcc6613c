use Rattle.std.proofs.Common.{suc, ◌+◌, ◌-◌, ◌%◌, ◌^◌, ◌<◌, slice_index, refl, ◌∙◌, ap, rules, arith}
use Rattle.std.proofs.Math.Nat.{mod-lt}
use Rattle.std.proofs.lemmas.Nat.{pow_pos}
use Rattle.am_bv.specs.Words.{IsWidth}
use Rattle.am_domain.specs.Walk.{steps}
use Rattle.am_pair.specs.lemmas.Parts.{paired}
use Rattle.am_pair.proofs.Hulls.{are-hulled, hull-known, hull-taken, hull-passed, hull-whole, first-word, next-word}
use Rattle.am_pair.proofs.Hulls.{steps-span}
use Rattle.am_pair.proofs.pair.Pair.hull_of_common.Goals.{then-contains, else-contains}
use Rattle.am_pair.proofs.pair.Pair.hull_of_common.Goals as goal

pub contains-requires-clause-word : goal.contains-requires-clause-word
contains-requires-clause-word g c = rw c.loop-i.invariant.0 (mod-lt _ (pow_pos c.args.w))

pub with_word-requires-clause-word : goal.with_word-requires-clause-word
with_word-requires-clause-word g c = rw c.loop-i.invariant.0 (mod-lt _ (pow_pos c.args.w))

pub with_word-requires-clause-hull : goal.with_word-requires-clause-hull
with_word-requires-clause-hull g c =
    let d = c.args.self.now in
    let width : IsWidth c.args.w = search rules in
    let laws = paired (g.met.A.Anchored.is_anchored d.a) (g.met.A.Domain.keeps_laws d.a)
    (g.met.B.Domain.keeps_laws d.b) d.few in
    let known = are-hulled laws c.args.w width c.args.x.now c.args.y.now c.requires.first c.requires.second in
    hull-known known c.loop-i._i c.loop-i.hull c.loop-i.invariant.1

pub loop-i-init : goal.loop-i-init
loop-i-init g c =
    (first-word c.args.w c.args.x.now c.get-c.result c.get-c.ensures (c.requires.first.tuple.words 0), refl)

pub loop-i-preserved : goal.loop-i-preserved
loop-i-preserved g c =
    let d = c.args.self.now in
    let width : IsWidth c.args.w = search rules in
    let laws = paired (g.met.A.Anchored.is_anchored d.a) (g.met.A.Domain.keeps_laws d.a)
    (g.met.B.Domain.keeps_laws d.b) d.few in
    let known = are-hulled laws c.args.w width c.args.x.now c.args.y.now c.requires.first c.requires.second in
    let span = steps-span c.args.w c.args.x.now c.get-2.result c.get.result c.difference.result c.get-2.ensures
    c.get.ensures c.difference.ensures.value in
    let next = next-word known c.loop-i._i c.loop-i.c c.loop-i.invariant.0 in
    let reach : c.loop-i._i < suc (steps c.args.w (slice_index c.args.x.now 0) (slice_index c.args.x.now 1)) =
    omega (arith, c.loop-i-test.true, c.from-count.ensures, span) in (
      c.difference-c.ensures.value
          ∙ ap (λ m. (c.loop-i.c + (2 ^ c.args.w - m)) % 2 ^ c.args.w) c.mask-mask.ensures.value ∙ next,
      elim c.if-contains.branch [
        | then-contains b ↦
            b.hull-is ∙ hull-taken known c.loop-i._i c.loop-i.c c.contains.result c.loop-i.hull b.with_word.result
            reach c.loop-i.invariant.0 c.contains.ensures b.if-contains.true c.loop-i.invariant.1 b.with_word.ensures
        | else-contains b ↦ b.hull-is ∙ hull-passed known c.loop-i._i c.loop-i.c c.contains.result c.loop-i.hull
            reach c.loop-i.invariant.0 c.contains.ensures b.if-contains.false c.loop-i.invariant.1
      ],
    )

pub returns : goal.returns
returns g c =
    let d = c.args.self.now in
    let width : IsWidth c.args.w = search rules in
    let laws = paired (g.met.A.Anchored.is_anchored d.a) (g.met.A.Domain.keeps_laws d.a)
    (g.met.B.Domain.keeps_laws d.b) d.few in
    let known = are-hulled laws c.args.w width c.args.x.now c.args.y.now c.requires.first c.requires.second in
    let span = steps-span c.args.w c.args.x.now c.get-2.result c.get.result c.difference.result c.get-2.ensures
    c.get.ensures c.difference.ensures.value in
    c.loop-i.invariant.1 ∙ hull-whole known c.loop-i._i (omega (arith, c.loop-i-test.false, span, c.from-count.ensures))
