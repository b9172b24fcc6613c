use Rattle.std.proofs.Common.{◌≡◌, arith}
use Rattle.am_blast.specs.Words.{constant}
use Rattle.am_blast.proofs.Laws.{IsWord-constant}
use Rattle.am_query.proofs.Calls.{GivesStep-uncovered}
use Rattle.am_query.proofs.statements.Statements.uncover.Goals as goal

pub exclude-requires-clause-word : goal.exclude-requires-clause-word
exclude-requires-clause-word c =
    let word = rw c.width.ensures at c.in_ok-word.ensures in
    rw word (IsWord-constant c.args.self.now.width c.args.e.now.word c.block_at.new.circuit.vars
    (omega (arith, c.requires.selectors, c.in_ok-result.ensures.grows.not_less)))

pub returns : goal.returns
returns c =
    let p = c.args.self.now in
    let word : c.in_ok-word.word ≡ constant p.width c.args.e.now.word = rw c.width.ensures at c.in_ok-word.ensures in
    GivesStep-uncovered p c.args.e.now c.in_ok-result.ensures (rw word at c.in_ok-exclude.ensures) (omega arith)
