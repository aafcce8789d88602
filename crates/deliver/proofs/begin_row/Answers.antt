-- `deliver::begin_row` meets its contract.
-- Assumes nothing.
use native.Mathlib.Nat as N
use Rattle.deliver.proofs.begin_row.Goals as goal

pub returns : goal.returns
returns c = λ len b M h e. c.write_row.ensures len b M ((N.div-lt_iff_lt-mul c.args.kept.now.ready.some).1 h)
