use Rattle.std.proofs.Common.{◌≡◌, ◌<◌, ◌++◌, [], ap, arith, drop, get_or, length, set, sym, take, ◌∙◌}
use Rattle.am_problem.specs.Kinds.{abstraction_of}
use Rattle.am_flow.specs.States.{joined_rows}
use Rattle.am_flow.proofs.JoinLaws.{all-over, get_or-joined_rows, get_or-over, length-over, set-over}
use Rattle.am_flow.proofs.RowLaws.{length-joined_rows}
use Rattle.am_flow.proofs.entry.joined_rows.Goals as goal

pub get-requires : goal.get-requires
get-requires c =
    let row = c.args.row in
    let i = c.variables.i in
    let whole = joined_rows c.args.flow.now row c.args.other.now in
    let many = length-joined_rows c.args.flow.now row c.args.other.now in
    let below : i < length row = omega (arith, c.variables-test.true, c.len-i-end.ensures) in
    let same : length c.variables.joined ≡ length (take i whole ++ drop i row) = ap length c.variables.invariant in
    omega (arith, below, same, length-over whole row i many (omega arith))

pub join-value-requires-clause-first : goal.join-value-requires-clause-first
join-value-requires-clause-first c =
    let row = c.args.row in
    let i = c.variables.i in
    let whole = joined_rows c.args.flow.now row c.args.other.now in
    let many = length-joined_rows c.args.flow.now row c.args.other.now in
    let below : i < length row = omega (arith, c.variables-test.true, c.len-i-end.ensures) in
    let same : c.get.result.now ≡ get_or row i [] =
    c.get.ensures ∙ ap (λ r. get_or r i []) c.variables.invariant ∙ get_or-over whole row i many [] below in
    rw (c.kind-kind.ensures, c.width-w.ensures, same) (c.requires.row.values i [] below)

pub put-requires : goal.put-requires
put-requires c =
    let row = c.args.row in
    let i = c.variables.i in
    let whole = joined_rows c.args.flow.now row c.args.other.now in
    let many = length-joined_rows c.args.flow.now row c.args.other.now in
    let below : i < length row = omega (arith, c.variables-test.true, c.len-i-end.ensures) in
    let same : length c.variables.joined ≡ length (take i whole ++ drop i row) = ap length c.variables.invariant in
    omega (arith, below, same, length-over whole row i many (omega arith))

pub variables-preserved : goal.variables-preserved
variables-preserved c =
    let f = c.args.flow.now in
    let row = c.args.row in
    let others = c.args.other.now in
    let i = c.variables.i in
    let whole = joined_rows f row others in
    let many = length-joined_rows f row others in
    let below : i < length row = omega (arith, c.variables-test.true, c.len-i-end.ensures) in
    let also : i < length others = omega (arith, below, c.requires.row.counted, c.requires.other.counted) in
    let same : c.get.result.now ≡ get_or row i [] =
    c.get.ensures ∙ ap (λ r. get_or r i []) c.variables.invariant ∙ get_or-over whole row i many [] below in
    let value : c.join-value.result ≡ get_or whole i [] =
    c.join-value.ensures
    ∙ ap (λ k. (abstraction_of k).join c.width-w.result c.get.result.now c.get-in-variables.result.now)
    c.kind-kind.ensures
    ∙ ap (λ w. (abstraction_of f.kind).join w c.get.result.now c.get-in-variables.result.now) c.width-w.ensures
    ∙ ap (λ a. (abstraction_of f.kind).join f.width a c.get-in-variables.result.now) same
    ∙ ap ((abstraction_of f.kind).join f.width (get_or row i [])) c.get-in-variables.ensures
    ∙ sym (get_or-joined_rows f row others i below also) in
    c.put.ensures ∙ ap (λ r. set r i c.join-value.result) c.variables.invariant
    ∙ set-over whole row i many c.join-value.result [] below value

pub returns : goal.returns
returns c =
    let f = c.args.flow.now in
    let row = c.args.row in
    let others = c.args.other.now in
    c.variables.invariant
    ∙ all-over (joined_rows f row others) row c.variables.i (length-joined_rows f row others)
    (omega (arith, c.variables-test.false, c.len-i-end.ensures))
