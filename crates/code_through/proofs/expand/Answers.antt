-- `code_through::expand` meets its contract.
-- Assumes nothing.
use mathlib.Core.Path.{◌∙◌}
use native.Mathlib.Omega.{arith}
use lib.ListN.{length, length-set}
use lib.Seq.{get_or-set_same, get_or-set_other}
use Rattle.octets.proofs.Parts.{cleared}
use Rattle.code_through.proofs.expand.Goals as goal

pub master-requires : goal.master-requires
master-requires c =
    let a = c.args in
    let p = c.requires in
    let l = c.clear_at in
    let k = length a.points.now in
    (length-set l.new.s k 1 ∙ l.auto.s ∙ p, (λ i h. get_or-set_other l.new.s k i 1 0 (λ e. omega arith) ∙ cleared k a.m.now l.new.s (omega (arith, p)) l.ensures i h), get_or-set_same l.new.s k 1 0 (omega (arith, l.auto.s, p)))
