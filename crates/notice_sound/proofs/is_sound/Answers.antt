use native.Mathlib.Omega.{arith}
use Rattle.std.proofs.lemmas.Grind.{common_steps}
use mathlib.Core.Path.{◌≡◌}
use mathlib.Core.Bool.{true}
use Rattle.octets.specs.Sets.{every}
use Rattle.notice.specs.State.{notice_table, notice_view_of}
use Rattle.notice.specs.Sound.{notice_board_ok, notice_sound}
use Rattle.notice_sound.proofs.Counts.{kept_short}
use Rattle.notice_sound.proofs.is_sound.Goals as goal

pub returns-in_default : goal.returns-in_default
unfolding notice_sound
returns-in_default c = grind (arith, common_steps)

pub is_quiet-requires : goal.is_quiet-requires
is_quiet-requires c =
    let a = c.args in
    let boards : every (notice_board_ok (notice_view_of (notice_table a.s.now) c.read_heard-m.result a.s.now)) 0 64 ≡ true = grind (arith, common_steps) in
    let e : c.if-m.x.0.now ≡ a.s.now = grind (arith, common_steps) in
    λ i l. rw e (kept_short (notice_view_of (notice_table a.s.now) c.read_heard-m.result a.s.now) boards i l)

pub returns-then-boards_ok : goal.returns-then-boards_ok
unfolding notice_sound
returns-then-boards_ok c = grind (arith, common_steps)

pub returns-else-boards_ok : goal.returns-else-boards_ok
unfolding notice_sound
returns-else-boards_ok c = grind (arith, common_steps)
