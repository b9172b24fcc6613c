use Rattle.std.proofs.Common.{◌≡◌, ℕ, Option, None, rules, subst, sym}
use Rattle.am_syntax.specs.Texts.{Answers}
use Rattle.am_problem.specs.Problem.{Problem}
use Rattle.am_problem.specs.StoredLines.{seen_lines}
use Rattle.am_problem.specs.Texts.{Draft, settled, settled_by, sized}
use Rattle.am_problem.proofs.draft.Draft.settle.Goals as goal

pub returns : goal.returns
returns c =
    let none : c.self.inside.undefined ≡ None = search rules in
    let lines = seen_lines c.self.inside.lines in
    let own =
    subst (λ (p : Problem). Answers (λ p. p) c.sized.result (sized p)) c.in_ok-number_lines.ensures c.sized.ensures in
    subst (λ (d : Draft). Answers (λ p. p) c.sized.result (settled d)) c.self.view_is
    (subst (λ (o : Option ℕ). Answers (λ p. p) c.sized.result (settled_by lines o)) (sym none) own)
