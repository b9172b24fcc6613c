use Rattle.std.proofs.Common.{◌≡◌, ℕ, ◌+◌, ◌^◌, ◌<◌, ◌↔◌, List, sym, subst, arith}
use Rattle.std.specs.Prelude.{Contains}
use Rattle.am_all.proofs.CaseLaws.{words-more}
use Rattle.am_all.proofs.cases.all_words.Goals as goal
use Rattle.am_all.proofs.cases.all_words.Goals.{else-loop-c-test, then-loop-c-test+in_ok-push+else-c-c-end}

pub loop-c-preserved : goal.loop-c-preserved
loop-c-preserved c = rw c.in_ok-push.ensures.ok (words-more c.loop-c.words c.loop-c.c c.loop-c.invariant)

pub returns : goal.returns
returns c =
    let Words : List ℕ → Type 0 = λ words. (d : ℕ) → Contains words d ↔ (d < 2 ^ c.args.w) in
    elim c.loop-c-test.branch [
      | else-loop-c-test w ↦ absurd (omega (arith, w.loop-c-test.false))
      | then-loop-c-test+in_ok-push+else-c-c-end w ↦
          let all : c.loop-c.c + 1 ≡ 2 ^ c.args.w =
          omega (arith, w.loop-c-test.true, c.mask-c-end.ensures.value, c.mask-c-end.ensures.least) in
          subst Words (sym w.words-is) (rw (w.in_ok-push.ensures.ok, ← all)
          (words-more c.loop-c.words c.loop-c.c c.loop-c.invariant))
    ]
