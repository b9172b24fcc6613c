use Rattle.std.proofs.Common.{◌≡◌, ℕ, ◌+◌, ◌↔◌, map, take, refl, sym, subst}
use Rattle.std.specs.List.{Any}
use Rattle.std.proofs.lemmas.List.{take_all}
use Rattle.am_all.specs.declared.cases.Outcome.{Outcome}
use Rattle.am_all.specs.declared.word_set.WordSet.{WordSet}
use Rattle.am_all.specs.inside.Cases.{AreIn}
use Rattle.am_all.specs.inside.Sets.{Has}
use Rattle.am_all.proofs.CaseLaws.{image-more, image-same}
use Rattle.am_all.proofs.cases.images.Goals as goal
use Rattle.am_all.proofs.cases.images.Goals.{then-are_in, else-are_in}

pub loop-outcome-preserved : goal.loop-outcome-preserved
loop-outcome-preserved c =
    let os = c.args.outcomes.now in
    let i = c.loop-outcome.outcome-index in
    let o = c.outcome-item.result in
    let In : Outcome → Type 0 = λ o. AreIn (map (λ v. v.now) c.args.values.now) o.words in
    let Images : WordSet → Type 0 = λ set. (c : ℕ) → Has set c ↔ Any (λ o. In o × (c ≡ o.image)) (take (i + 1) os) in
    elim c.if-are_in.branch [
      | then-are_in w ↦
          subst Images (sym w.images-is)
          (image-more In os i o c.loop-outcome-test.true c.outcome-item.is (Has c.loop-outcome.images)
          (Has w.insert.new.self)
          (rw c.as_slice.ensures at (w.if-are_in.ensures.0 refl)) w.insert.ensures c.loop-outcome.invariant)
      | else-are_in w ↦
          subst Images (sym w.images-is)
          (image-same In os i o c.loop-outcome-test.true c.outcome-item.is (Has c.loop-outcome.images)
          (λ all. let no = w.if-are_in.ensures.1 (rw c.as_slice.ensures all) in cc) c.loop-outcome.invariant)
    ]

pub returns : goal.returns
returns c = rw (take_all c.loop-outcome.outcome-index c.args.outcomes.now c.loop-outcome-test.false) at
    c.loop-outcome.invariant
