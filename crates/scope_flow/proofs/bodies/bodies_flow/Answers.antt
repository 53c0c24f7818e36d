use Rattle.scope_flow.proofs.Entries.{entry_flows}
use Rattle.scope_flow.proofs.bodies.bodies_flow.Goals as goal

pub returns : goal.returns
returns c = λ code facts b class sig body. entry_flows code facts b class sig body
