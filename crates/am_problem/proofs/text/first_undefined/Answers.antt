use Rattle.std.proofs.Common.{◌≡◌, ◌∙◌, cond, Some, None, ap, bytes_eq, codes, rules, sym}
use Rattle.am_text.specs.Seen.{seen as token_seen}
use Rattle.am_text.specs.Tokens.{Left, Placed}
use Rattle.am_problem.specs.Grammar.{names_of}
use Rattle.am_problem.specs.StoredLines.{seen_rules}
use Rattle.am_problem.specs.Texts.{is_undefined, undefined_in}
use Rattle.am_problem.proofs.FirstUndefined.{undefined-cons}
use Rattle.am_problem.proofs.Seen.{seen}
use Rattle.am_problem.proofs.text.first_undefined.Goals as goal
use Rattle.am_problem.proofs.text.first_undefined.Goals.{else-is_name-via-then-is_name+else-not-has_name}
use Rattle.am_problem.proofs.text.first_undefined.Goals.{else-is_name-via-else-is_name}

pub returns-then-not-has_name : goal.returns-then-not-has_name
returns-then-not-has_name c =
    let names = names_of (seen_rules c.args.rules.now) in
    let t = token_seen c.in-Some.token in
    let ts = c.next.new.self.tokens in
    let here : Some t.place ≡ cond (bytes_eq t.word (codes "end")) None
    (cond (is_undefined names t.word) (Some t.place) (undefined_in names ts)) = search (rules, seen) in
    here
    ∙ sym (undefined-cons names t ts)
    ∙ ap (λ (l : Left). undefined_in names l.tokens) (sym c.in-Some.ensures.token)
    ∙ c.tokens.invariant

pub tokens-preserved : goal.tokens-preserved
tokens-preserved c =
    let names = names_of (seen_rules c.args.rules.now) in
    let t = token_seen c.in-Some.token in
    let ts = c.next.new.self.tokens in
    let past : undefined_in names ts ≡ cond (bytes_eq t.word (codes "end")) None
    (cond (is_undefined names t.word) (Some t.place) (undefined_in names ts)) =
    elim c.else-is_name.branch [
      | else-is_name-via-then-is_name+else-not-has_name w ↦ search (rules, seen)
      | else-is_name-via-else-is_name w ↦ search (rules, seen)
    ] in
    past
    ∙ sym (undefined-cons names t ts)
    ∙ ap (λ (l : Left). undefined_in names l.tokens) (sym c.in-Some.ensures.token)
    ∙ c.tokens.invariant
