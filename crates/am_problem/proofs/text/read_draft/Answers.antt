use Rattle.std.proofs.Common.{◌≡◌, ap, sym, ◌∙◌}
use Rattle.am_text.specs.Tokens.{Left}
use Rattle.am_problem.specs.Grammar.{names_of}
use Rattle.am_problem.specs.StoredLines.{seen_lines, seen_rules}
use Rattle.am_problem.specs.Texts.{undefined_in}
use Rattle.am_problem.proofs.TextLaws.{formed_lines}
use Rattle.am_problem.proofs.text.read_draft.Goals as goal

pub invariant_of-result : goal.invariant_of-result
invariant_of-result c =
    let lines = seen_lines c.in_ok-lines.lines in
    let undefined : c.first_undefined-undefined.result ≡ undefined_in (names_of lines.rules) c.args.text.now.tokens =
    c.first_undefined-undefined.ensures
    ∙ ap (λ rules. undefined_in (names_of (seen_rules rules)) c.fork-ahead.result.tokens) c.as_slice.ensures
    ∙ ap (λ (s : Left). undefined_in (names_of lines.rules) s.tokens) c.fork-ahead.ensures in
    record {
      formed = λ none. formed_lines lines c.args.text.now c.read_lines.new.text c.in_ok-lines.ensures
          (sym undefined ∙ none);
    }
