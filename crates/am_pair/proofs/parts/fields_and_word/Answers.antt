use Rattle.std.proofs.Common.{◌<◌, length, lit<, arith, ap}
use Rattle.std.proofs.lemmas.List.FromFn.{length-range_with_len}
use Rattle.am_pair.proofs.parts.fields_and_word.Goals as goal

pub push-requires : goal.push-requires
push-requires c =
    let few : length c.fields_from_two-fields.result.items < 3 =
    omega (arith, ap length c.fields_from_two-fields.ensures, length-range_with_len 2 c.args.count, c.requires) in
    (lit< tt, few)
