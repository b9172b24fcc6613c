use Rattle.std.proofs.Common.{[], ◌∙◌, ap, length, subst}
use Rattle.am_blast.specs.Words.{IsWord}
use Rattle.am_tree.specs.declared.grammar.Production.{Production}
use Rattle.am_tree.specs.Slots.{at_argument, positioned}
use Rattle.am_slot.specs.inside.Fits.{SuitsArity, ArgumentsStand}
use Rattle.am_slot.proofs.Loops.{length-words_at, words_all}
use Rattle.am_slot.proofs.block.Block.production_word.Goals as goal

pub apply-requires-clause-count : goal.apply-requires-clause-count
apply-requires-clause-count c =
    let suits =
    subst (λ (p : Production). SuitsArity c.args.self.now.width (length c.args.self.now.fields.now) p) c.in-Node.is
    c.requires.fit.suits in
    ap length (c.as_slice-in-Node.ensures ∙ c.in_ok-args-in-Node.ensures)
    ∙ length-words_at (at_argument [] c.args.children.now.arguments.now c.args.children.now.words.now) 0 _
    ∙ ap length c.as_slice.ensures ∙ suits

pub apply-requires-clause-words : goal.apply-requires-clause-words
apply-requires-clause-words c =
    let stand =
    subst (λ (p : Production). ArgumentsStand c.args.children.now.arguments.now p) c.in-Node.is c.requires.stand in
    rw (c.as_slice-in-Node.ensures, c.in_ok-args-in-Node.ensures, c.as_slice.ensures)
    (words_all (IsWord c.args.self.now.width c.args.circuit.now.vars) c.args.children.now.arguments.now
    c.args.children.now.words.now c.requires.words c.requires.count (positioned 0 c.in-Node.names) stand)
