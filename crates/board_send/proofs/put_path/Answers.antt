use mathlib.Core.Path.{refl}
use native.Mathlib.Omega.{arith}
use Rattle.board_send.proofs.Levels.{laid_start, laid_end}
use Rattle.board_send.proofs.put_path.Goals as goal

pub loop-d-init : goal.loop-d-init
loop-d-init c = (omega arith, refl, refl, laid_start _ _ _ _ _ _)

pub returns : goal.returns
returns c = laid_end _ _ _ _ _ _ _ _ c.requires.1 c.requires.2 (omega arith) c.loop-d.invariant.3
