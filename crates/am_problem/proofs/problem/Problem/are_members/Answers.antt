use Rattle.std.proofs.Common.{◌≡◌, ◌<◌, length, below_more, refl, ap, sym, ◌∙◌, arith}
use Rattle.std.proofs.lemmas.Bool.{false≢true}
use Rattle.am_problem.proofs.Inputs.{inputs_are_tuples, words_are_members}
use Rattle.am_problem.proofs.problem.Problem.are_members.Goals as goal

pub returns-then-not-contains : goal.returns-then-not-contains
returns-then-not-contains c =
    let p = c.args.self.now in
    let words = c.as_slice-word-items in
    let told = rw (c.kind.ensures, c.width.ensures, c.input.ensures.value, words.ensures.value) at c.contains.ensures in
    let counted = (inputs_are_tuples p c.args.inputs.now c.requires.row).0 in
    let each = (words_are_members p _ c.args.words.now counted c.requires.words).0 in
    let many : length words.result.now ≡ p.inputs = ap length words.ensures.value ∙ c.requires.words.counted in
    let place : c.loop-i.i < p.inputs = omega arith in
    (λ e. absurd (false≢true e), λ members. sym c.if-not-contains.true ∙ told.1 (each members c.loop-i.i place))

pub loop-i-preserved : goal.loop-i-preserved
loop-i-preserved c =
    let words = c.as_slice-word-items in
    let told = rw (c.kind.ensures, c.width.ensures, c.input.ensures.value, words.ensures.value) at c.contains.ensures in
    below_more _ _ c.loop-i.invariant (told.0 c.if-not-contains.false)

pub returns : goal.returns
returns c =
    let p = c.args.self.now in
    let words = c.as_slice-word-items in
    let counted = (inputs_are_tuples p c.args.inputs.now c.requires.row).0 in
    let all = (words_are_members p _ c.args.words.now counted c.requires.words).1 in
    let many : length words.result.now ≡ p.inputs = ap length words.ensures.value ∙ c.requires.words.counted in (
      λ _. all (λ k below.
          let place : k < c.loop-i.i = omega arith in
          c.loop-i.invariant k place),
      λ _. refl,
    )
