use Rattle.std.proofs.Common.{◌≡◌, arith}
use Rattle.am_bv.specs.Terms.{val}
use Rattle.am_blast.specs.Words.{constant}
use Rattle.am_blast.proofs.Laws.{IsWord-constant}
use Rattle.am_query.proofs.Calls.{GivesStep-covered}
use Rattle.am_query.proofs.statements.Statements.cover.Goals as goal

pub admit-requires-clause-word : goal.admit-requires-clause-word
admit-requires-clause-word c =
    let word = rw c.width-2.ensures at c.in_ok-word.ensures in
    rw word (IsWord-constant c.args.self.now.width c.value-c.result c.block_at.new.circuit.vars
    (omega (arith, c.requires.selectors, c.in_ok-result.ensures.grows.not_less)))

pub returns : goal.returns
returns c =
    let p = c.args.self.now in
    let value : c.value-c.result ≡ val p.width p.operation c.args.e.now.words =
    rw (c.width.ensures, c.operation.ensures, c.as_slice.ensures.value, c.self.view_is) at c.value-c.ensures.value in
    let word : c.in_ok-word.word ≡ constant p.width (val p.width p.operation c.args.e.now.words) =
    rw (c.width-2.ensures, value) at c.in_ok-word.ensures in
    GivesStep-covered p c.args.e.now c.in_ok-result.ensures (rw word at c.in_ok-admit.ensures) (omega arith)
