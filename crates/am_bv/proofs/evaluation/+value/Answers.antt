use Rattle.std.proofs.Common.{◌≡◌, get_or, lit<, length, IsTrue, ap, subst, arith, rules}
use Rattle.std.proofs.lemmas.List.{take_all, length-map}
use Rattle.am_bv.specs.Terms.{val, fits}
use Rattle.am_bv.proofs.ByKind.{val-Node, fits_arity, fits_child, arity_most}
use Rattle.am_bv.specs.declared.term.Term.{the_lemmas}
use Rattle.am_bv.proofs.evaluation.+value.Goals as goal

pub value-requires : goal.value-requires
value-requires t c =
    let node = subst (λ x. IsTrue (fits c.args.w (length c.args.env.now) x)) c.in-Node.is c.requires.fits in
    let at : c.t-item.result ≡ get_or c.in-Node.args c.loop-t.t-index c.t-item.result = cc in
    let child = fits_child _ _ c.in-Node.op c.in-Node.args node c.loop-t.t-index c.t-item.result
    (rw c.as_slice-t-items.ensures at c.loop-t-test.true) at in
    (search (rules, the_lemmas), (child, c.requires.words))

pub push-requires : goal.push-requires
push-requires t c =
    let node = subst (λ x. IsTrue (fits c.args.w (length c.args.env.now) x)) c.in-Node.is c.requires.fits in
    let count = fits_arity _ _ c.in-Node.op c.in-Node.args node in
    let most = arity_most c.in-Node.op in
    let items = ap length c.as_slice-t-items.ensures in
    (lit< tt, omega arith)

pub apply-requires-clause-count : goal.apply-requires-clause-count
apply-requires-clause-count t c =
    let all = take_all _ _ c.loop-t-test.false in
    let node = subst (λ x. IsTrue (fits c.args.w (length c.args.env.now) x)) c.in-Node.is c.requires.fits in
    let count = fits_arity _ _ c.in-Node.op c.in-Node.args node in
    let long = length-map c.in-Node.args (λ x. val c.args.w x c.args.env.now) in
    cc

pub returns-after-loop-t-clause-value : goal.returns-after-loop-t-clause-value
returns-after-loop-t-clause-value t c =
    let all = take_all _ _ c.loop-t-test.false in
    let law = val-Node c.args.w c.in-Node.op c.in-Node.args c.args.env.now in
    cc
