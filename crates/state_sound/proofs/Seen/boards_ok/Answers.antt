use native.Mathlib.Omega.{arith}
use mathlib.Core.Path.{refl, ◌∙◌}
use Rattle.std.proofs.Common.{rules}
use Rattle.std.proofs.lemmas.Iterator.{YieldsList-from_range}
use Rattle.std.proofs.lemmas.Iterator.Search.{all_from_yields_List}
use Rattle.state.specs.State.{view_of}
use Rattle.state.specs.Sound.{board_ok}
use Rattle.naming.proofs.Runs.{every_is}
use Rattle.state_sound.proofs.Seen.boards_ok.Goals as goal

pub returns : goal.returns
returns c =
    let k = c.args.self.now in
    all_from_yields_List (board_ok (view_of k.b.table k.m k.s.now)) _ _ _ c.all.ensures.ran (YieldsList-from_range 0 64 64 refl (omega arith))
    (λ i r q k. search rules)
    ∙ every_is _ 0 64
