use Rattle.am_syntax.proofs.Laws.{handed_on}
use Rattle.am_flow.proofs.TableTexts.{grew_node, wrote_node}
use Rattle.am_flow.proofs.printing.print_nodes.Goals as goal

pub returns-in_err-print_node : goal.returns-in_err-print_node
returns-in_err-print_node c =
    let i = c.nodes.node in
    handed_on _ _ _ _ _ c.from_residual.ensures.1
    (grew_node c.args.entries.now i c.index-entries-node.result c.nodes-test.true c.index-entries-node.is c.args.out.now
    c.nodes.out c.print_node.new.out c.nodes.invariant c.in_err-print_node.ensures)

pub nodes-preserved : goal.nodes-preserved
nodes-preserved c =
    wrote_node c.args.entries.now c.nodes.node c.index-entries-node.result c.nodes-test.true c.index-entries-node.is
    c.args.out.now c.nodes.out c.print_node.new.out c.nodes.invariant c.in_ok-print_node.ensures
