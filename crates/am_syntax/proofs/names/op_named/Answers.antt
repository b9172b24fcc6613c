use Rattle.std.proofs.Common.{◌≡◌, get_or, bytes_eq, ap, ◌∙◌, sym, false}
use Rattle.am_bv.specs.declared.op.Op.TheVariants.{Not}
use Rattle.am_bv.specs.declared.op.TheConstants.Op.{ALL}
use Rattle.am_syntax.specs.Names.{op_name}
use Rattle.am_syntax.proofs.Finds.{find_more}
use Rattle.am_syntax.proofs.names.op_named.Goals as goal

pub loop-op-preserved : goal.loop-op-preserved
loop-op-preserved c =
    let i = c.loop-op.op-index in
    let other : bytes_eq (op_name (get_or ALL i Not)) c.args.word.now ≡ false =
    ap (λ n. bytes_eq n c.args.word.now) (sym c.op_name.ensures) ∙ sym c.eq.ensures ∙ c.if-eq.false in
    c.loop-op.invariant ∙ find_more (λ op. bytes_eq (op_name op) c.args.word.now) ALL i Not c.loop-op-test.true other
