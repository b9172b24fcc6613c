use Rattle.std.proofs.Common.{subst, sym, ◌∙◌}
use Rattle.std.specs.Prelude.{MatchOption}
use Rattle.amurth.specs.Command.{IsCommand}
use Rattle.amurth.specs.declared.command.Command.{Command}
use Rattle.amurth.proofs.Commands.{one_word, two_words}
use Rattle.amurth.proofs.command.CommandWords.command.Goals as goal

pub returns-in-1 : goal.returns-in-1
returns-in-1 c =
    let words = one_word c.args.self.now c.get.result.now (sym c.len.ensures ∙ c.in-1.is) c.get.ensures in
    subst (λ ws. MatchOption c.named.result ((d : Command) → ¬ IsCommand ws d) (IsCommand ws)) (sym words)
    c.named.ensures

pub returns-in-2 : goal.returns-in-2
returns-in-2 c =
    let words = two_words c.args.self.now c.get-in-2.result.now c.get-in-2-2.result.now (sym c.len.ensures ∙ c.in-2.is)
    c.get-in-2.ensures c.get-in-2-2.ensures in
    subst (λ ws. MatchOption c.numbered.result ((d : Command) → ¬ IsCommand ws d) (IsCommand ws)) (sym words)
    c.numbered.ensures
