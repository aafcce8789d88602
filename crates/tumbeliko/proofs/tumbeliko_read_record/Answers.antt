use Rattle.record.proofs.PartLaws.{fragment_most}
use mathlib.Core.Path.{refl, sym, ap, ◌∙◌}
use native.Mathlib.Omega.{arith}
use Rattle.record.proofs.Facts.{whole}
use Rattle.record.specs.Kinds.{read_as}
use Rattle.tumbeliko.specs.Records.{parts_of}
use Rattle.tumbeliko.proofs.tumbeliko_read_record.Goals as goal

pub overflow_cast-result : goal.overflow_cast-result
overflow_cast-result c = omega (arith, (whole _ _ _ _ (sym c.read_record.ensures ∙ ap read_as c.in-Ok.is)).nodes)

pub overflow_cast-result-in-Ok : goal.overflow_cast-result-in-Ok
overflow_cast-result-in-Ok c = omega (arith, fragment_most _ _ (whole _ _ _ _ (sym c.read_record.ensures ∙ ap read_as c.in-Ok.is)).fragment_ok_lem)

pub returns-in-Ok : goal.returns-in-Ok
unfolding parts_of
returns-in-Ok c = rw (← c.read_record.ensures, c.in-Ok.is, c.from.ensures, c.number.ensures) refl

pub returns-in-Err : goal.returns-in-Err
unfolding parts_of
returns-in-Err c = rw (← c.read_record.ensures, c.in-Err.is, c.number-in-Err.ensures.0) refl
