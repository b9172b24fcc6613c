use Rattle.std.proofs.Common.{◌≡◌, ℕ, suc, ◌-◌, ◌<◌, ◌^◌, nat_lt, nat_le, arith}
use Rattle.std.proofs.lemmas.Bool.Decides.{leb_tells}
use Rattle.std.proofs.lemmas.Nat.{pow_pos}
use Rattle.std.proofs.lemmas.List.{take_all}
use Rattle.am_bv.proofs.ByKind.{fits-Node, fits-Const}
use Rattle.am_bv.proofs.term.Term.+fits.Goals as goal

up_to_mask : (c p : ℕ) → 0 < p → nat_le c (p - 1) ≡ nat_lt c p
up_to_mask c p h = grind (arith, leb_tells c (p - 1), leb_tells (suc c) p)

pub returns-in-Const : goal.returns-in-Const
returns-in-Const t c =
    let law = fits-Const c.args.w c.args.n c.in-Const.c in
    let same = up_to_mask c.in-Const.c (2 ^ c.args.w) (pow_pos c.args.w) in
    let mask = c.mask.ensures.value in
    cc

pub returns-after-loop-t : goal.returns-after-loop-t
returns-after-loop-t t c =
    let all = take_all _ _ c.loop-t-test.false in
    let law = fits-Node c.args.w c.args.n c.in-Node.op c.in-Node.args in
    cc
