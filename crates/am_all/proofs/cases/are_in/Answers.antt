use Rattle.std.proofs.Common.{map, refl, arith}
use Rattle.std.proofs.lemmas.List.{length-map, take_all}
use Rattle.am_all.proofs.CaseLaws.{in-more, not_in-at, in-lengths}
use Rattle.am_all.proofs.cases.are_in.Goals as goal

pub returns-then-values-words : goal.returns-then-values-words
returns-then-values-words c = (
  λ no. absurd (cc),
  λ all. absurd (c.if-values-words.true (in-lengths (λ v. v.now) c.args.values.now c.args.words.now all)),
)

pub returns-then-not-contains : goal.returns-then-not-contains
returns-then-not-contains c = (
  λ no. absurd (cc),
  λ all. absurd (not_in-at (λ v. v.now) c.args.values.now c.args.words.now c.loop-i.i c.index-values-i.result
      c.loop-i-test.true c.index-values-i.is
      (λ has. let no = c.if-not-contains.ensures.1 has in cc) all),
)

pub loop-i-preserved : goal.loop-i-preserved
loop-i-preserved c =
    in-more (λ v. v.now) c.args.values.now c.args.words.now c.loop-i.i c.index-values-i.result
    c.if-values-words.false c.loop-i-test.true c.index-values-i.is
    (c.if-not-contains.ensures.0 refl) c.loop-i.invariant

pub returns : goal.returns
returns c =
    let all = take_all c.loop-i.i (map (λ v. v.now) c.args.values.now) (simp length-map c.loop-i-test.false) in
    let every = take_all c.loop-i.i c.args.words.now (omega (arith, c.loop-i-test.false, c.if-values-words.false)) in
    (λ yes. rw (all, every) at c.loop-i.invariant, λ is. refl)
