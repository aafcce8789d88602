use mathlib.Core.Path.{◌∙◌, sym}
use native.Mathlib.Omega.{arith}
use lib.ListN.{length-set}
use Rattle.octets.proofs.Laws.{put_turn, put_end}
use Rattle.octets.proofs.copy_bytes.Goals as goal

pub loop-i-preserved : goal.loop-i-preserved
loop-i-preserved c = (sym (put_turn _ _ _ _ c.loop-i-test.true) ∙ c.loop-i.invariant.0, simp length-set c.loop-i.invariant.1)

pub returns : goal.returns
returns c = sym (put_end _ _ _ _ (omega arith)) ∙ c.loop-i.invariant.0
