-- `code_encode::encode_some` meets its contract.
-- Assumes nothing.
use mathlib.Core.Path.{refl}
use native.Mathlib.Omega.{arith}
use lib.ListN.{length-take}
use Rattle.code_encode.proofs.Patches.{sized}
use Rattle.code_encode.proofs.encode_some.Goals as goal

pub returns : goal.returns
returns c =
    let a = c.args in sized a.at _ _ a.s _ _ _ a.area.now c.encode_in.new.area (simp length-take (omega arith)) refl c.encode_in.ensures
