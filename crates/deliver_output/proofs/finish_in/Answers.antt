-- `deliver_output::finish_in` meets its contract.
-- Assumes nothing.
use Rattle.deliver_output.proofs.finish_in.Goals as goal

pub returns : goal.returns
returns c =
    let prepare = c.prepare in
    λ g W. c.write_message.ensures g (W prepare.new.m prepare.new.ds prepare.ensures.0 prepare.ensures.1)
