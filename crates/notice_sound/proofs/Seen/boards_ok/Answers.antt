use native.Mathlib.Omega.{arith}
use mathlib.Core.Path.{refl, ◌∙◌}
use Rattle.std.proofs.Common.{rules}
use Rattle.std.proofs.lemmas.Iterator.{YieldsList-from_range}
use Rattle.std.proofs.lemmas.Iterator.Search.{all_from_yields_List}
use Rattle.naming.proofs.Runs.{every_is}
use Rattle.notice.specs.State.{notice_table, notice_view_of}
use Rattle.notice.specs.Sound.{notice_board_ok}
use Rattle.notice_sound.proofs.Seen.boards_ok.Goals as goal

pub returns : goal.returns
returns c =
    let k = c.args.self.now in
    all_from_yields_List (notice_board_ok (notice_view_of (notice_table k.s.now) k.m k.s.now)) _ _ _ c.all.ensures.ran (YieldsList-from_range 0 64 64 refl (omega arith))
    (λ i r q k. search rules)
    ∙ every_is _ 0 64
