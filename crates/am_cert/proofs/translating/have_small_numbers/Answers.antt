use Rattle.std.proofs.Common.{◌≤◌, All, length, arith, subst, sym}
use Rattle.std.proofs.lemmas.List.{take_all}
use Rattle.std.proofs.lemmas.Option.{get_or_from_slice_get, slice_get_within}
use Rattle.am_cert.specs.inside.Translations.{HasSmallNumbers}
use Rattle.am_cert.proofs.TestedItems.{good_more}
use Rattle.am_cert.proofs.translating.have_small_numbers.Goals as goal

pub hints-preserved : goal.hints-preserved
hints-preserved c =
    let hints = c.args.hints.now in
    let i = c.hints.i in
    let hint = c.get-hint.result.now in
    let small : HasSmallNumbers hint =
    record {
      codes = rw c.as_slice.ensures at c.are_small.ensures;
      places = rw c.as_slice-in-hints.ensures at c.are_small-in-hints.ensures;
    } in
    good_more HasSmallNumbers hints i c.hints.invariant hint (slice_get_within hints i hint c.get-hint.ensures)
    (sym (get_or_from_slice_get hints i hint hint c.get-hint.ensures)) small

pub returns : goal.returns
returns c =
    let hints = c.args.hints.now in
    let past : length hints ≤ c.hints.i = omega (arith, c.len-i-end.ensures, c.hints-test.false) in
    subst (All HasSmallNumbers) (take_all c.hints.i hints past) c.hints.invariant
