use Rattle.std.proofs.Common.{ℕ, List, ◌≡◌, ◌+◌, ◌≤◌, [], ap, arith, flat_map, get_or, length, lit<, take, ◌∙◌}
use Rattle.std.proofs.lemmas.List.Folds.{length-flat_map-take}
use Rattle.am_flow.proofs.step.inputs_at.Goals as goal

pub extend-requires : goal.extend-requires
extend-requires c =
    let row = c.args.row.now in
    let from = c.args.from.now in
    let i = c.variables.variable-index in
    let part : ℕ → List ℕ = λ b. get_or row b [] in
    let most : length (flat_map part (take i from)) + length (part (get_or from i 0)) ≤ length (flat_map part from) =
    length-flat_map-take part from i 0 c.variables-test.true in
    let front : length c.variables.inputs ≡ length (flat_map part (take i from)) = ap length c.variables.invariant in
    let next : length c.as_slice.result.now ≡ length (part (get_or from i 0)) =
    ap length (c.as_slice.ensures.value ∙ c.get.ensures) in
    let few : length c.variables.inputs + length c.as_slice.result.now ≤ 12 =
    omega (arith, most, front, next, c.requires.few) in
    (lit< tt, few)
