use mathlib.Core.Path.{refl, sym, ap, ◌∙◌}
use native.Mathlib.Omega.{arith}
use Rattle.notice.proofs.Facts.{notice_whole}
use Rattle.notice.specs.Kinds.{notice_read_as}
use Rattle.tumbeliko.specs.Notices.{notice_parts_of}
use Rattle.record.specs.Kinds.{kind_number}
use Rattle.record.specs.declared.Kind.{Kind}
use Rattle.record.specs.declared.Kind.TheVariants.{Send, Echo, Vote}
use Rattle.notice.specs.Kinds.{notice_number}
use mathlib.Core.Path.{◌≡◌}
use Prim.Native.Nat.{◌+◌}
use Rattle.tumbeliko.proofs.tumbeliko_read_notice.Goals as goal

-- a notice's kind is three more than the record's
three_more : (k : Kind) → 3 + kind_number k ≡ notice_number k
three_more Send = refl
three_more Echo = refl
three_more Vote = refl

pub overflow_cast-result : goal.overflow_cast-result
overflow_cast-result c = omega (arith, (notice_whole _ _ _ _ (sym c.read_notice.ensures ∙ ap notice_read_as c.in-Ok.is)).most)

pub returns-in-Ok : goal.returns-in-Ok
unfolding notice_parts_of
returns-in-Ok c = rw (← c.read_notice.ensures, c.in-Ok.is, c.from.ensures, c.number.ensures, three_more) refl

pub returns-in-Err : goal.returns-in-Err
unfolding notice_parts_of
returns-in-Err c = rw (← c.read_notice.ensures, c.in-Err.is, c.number-in-Err.ensures.0) refl
