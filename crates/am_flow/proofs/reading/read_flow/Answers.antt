use Rattle.std.proofs.Common.{◌≡◌, Ok, arith, rules, ◌<◌, ◌≤◌, ◌^◌}
use Rattle.am_flow.specs.Flows.{Flow}
use Rattle.am_flow.specs.Grammar.{flow}
use Rattle.am_flow.proofs.FlowLaws.{read_limits, small_shape}
use Rattle.am_flow.proofs.reading.read_flow.Goals as goal

pub read_edges-requires : goal.read_edges-requires
read_edges-requires c =
    let n = c.args.operations in
    let w = c.in_ok-width.width in
    let v = c.in_ok-variables.field-0 in
    let m = c.in_ok-nodes.field-0 in
    let few : n < 2 ^ 32 = omega (arith, c.ranges.operations.fits) in
    let some : v ≤ 8 = omega (arith, c.in_ok-variables.ensures.range) in
    let short : m ≤ 64 = omega (arith, c.in_ok-nodes.ensures.range) in
    small_shape n w v m few c.in_ok-width.ensures.range some short

pub returns-clause-limits : goal.returns-clause-limits
unfolding flow
returns-clause-limits c =
    let n = c.args.operations in
    let old = c.args.text.now in
    let left = c.take_key.new.text in
    let f : Flow =
    record {
      width = c.in_ok-width.width;
      kind = c.in_ok-kind.kind;
      variables = c.in_ok-variables.field-0;
      nodes = c.in_ok-nodes.field-0;
      edges = c.in_ok-edges.edges;
    } in
    let few : n < 2 ^ 32 = omega (arith, c.ranges.operations.fits) in
    let read : (flow n).read old ≡ Ok (f, left) = search rules in
    read_limits n few old f left read

pub invariant_of-result : goal.invariant_of-result
invariant_of-result c = ∣ (c.args.operations, returns-clause-limits c) ∣₁
