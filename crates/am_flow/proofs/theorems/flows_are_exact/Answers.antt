use Rattle.am_flow.proofs.FlowLaws.{flow_law, good_flows}
use Rattle.am_flow.proofs.theorems.flows_are_exact.Goals as goal

pub returns-clause-exact : goal.returns-clause-exact
returns-clause-exact c = flow_law

pub returns-clause-good : goal.returns-clause-good
returns-clause-good c = good_flows
