use Rattle.std.proofs.Common.{◌*◌, ◌∙◌, slice_index, arith}
use Rattle.std.proofs.lemmas.Nat.{or_lt, xor_lt}
use Rattle.am_bv.proofs.Words.{truncated, one_is_word, IsWidth-mask}
use Rattle.am_bv.proofs.op.Op.apply.Goals as goal

pub returns-in-Or-clause-word : goal.returns-in-Or-clause-word
returns-in-Or-clause-word c = or_lt _ _ _ (c.requires.words 0) (c.requires.words 1)

pub returns-in-Xor-clause-word : goal.returns-in-Xor-clause-word
returns-in-Xor-clause-word c = xor_lt _ _ _ (c.requires.words 0) (c.requires.words 1)

pub returns-in-Mul-clause-value : goal.returns-in-Mul-clause-value
returns-in-Mul-clause-value c =
    let mask = c.mask-mask.ensures in
    let width = IsWidth-mask c.args.w c.mask-mask.result mask.value mask.least (omega arith) in
    let product = slice_index c.args.args.now 0 * slice_index c.args.args.now 1 in
    rw c.in-Mul.is (c.truncate-in-Mul.ensures.value ∙ truncated c.args.w product width.1)

pub returns-in-Eq-clause-word : goal.returns-in-Eq-clause-word
returns-in-Eq-clause-word c =
    let mask = c.mask-mask.ensures in
    let width = IsWidth-mask c.args.w c.mask-mask.result mask.value mask.least (omega arith) in
    omega (arith, c.truth.ensures.most, one_is_word c.args.w width.0)

pub returns-in-Ule-clause-word : goal.returns-in-Ule-clause-word
returns-in-Ule-clause-word c =
    let mask = c.mask-mask.ensures in
    let width = IsWidth-mask c.args.w c.mask-mask.result mask.value mask.least (omega arith) in
    omega (arith, c.truth-in-Ule.ensures.most, one_is_word c.args.w width.0)
