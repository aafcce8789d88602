use mathlib.Core.Path.{refl, sym, ◌∙◌}
use native.Mathlib.Omega.{arith}
use Rattle.octets.specs.Bytes.{pick}
use Rattle.record.specs.Form.{form_of}
use Rattle.record.proofs.PartLaws.{path_most}
use Rattle.record.proofs.Reading.{stopped, fine, some_kind, kind_stopped, kind_fine}
use Rattle.record.proofs.form_of.Goals as goal

pub returns-in_err-kind : goal.returns-in_err-kind
unfolding form_of pick
returns-in_err-kind c = kind_stopped _ _ _ _ _ c.from_residual.ensures.1 c.kind_of.ensures c.in_err-kind.was

pub returns-in_err-field : goal.returns-in_err-field
unfolding form_of pick
returns-in_err-field c = rw (← kind_fine _ _ _ c.kind_of.ensures c.in_ok-kind.was, some_kind _) (stopped _ _ _ _ _ _ _ c.from_residual-in_err-field.ensures.1 c.field.ensures c.in_err-field.was)

pub returns-in_err-field-2 : goal.returns-in_err-field-2
unfolding form_of pick
returns-in_err-field-2 c = rw (← kind_fine _ _ _ c.kind_of.ensures c.in_ok-kind.was, some_kind _, fine _ _ _ _ c.field.ensures c.in_ok-field.was, ← c.takes_path.ensures) (stopped _ _ _ _ _ _ _ c.from_residual-in_err-field-2.ensures.1 c.field-2.ensures c.in_err-field-2.was)

pub overflow_add-path : goal.overflow_add-path
overflow_add-path c = omega (arith, path_most _ _ (sym c.takes_path.ensures ∙ fine _ _ _ _ c.field-2.ensures c.in_ok-field-2.was))

pub field-requires-3 : goal.field-requires-3
field-requires-3 c = omega (arith, path_most _ _ (sym c.takes_path.ensures ∙ fine _ _ _ _ c.field-2.ensures c.in_ok-field-2.was))

pub returns-in_err-field-3 : goal.returns-in_err-field-3
unfolding form_of pick
returns-in_err-field-3 c = rw (← kind_fine _ _ _ c.kind_of.ensures c.in_ok-kind.was, some_kind _, fine _ _ _ _ c.field.ensures c.in_ok-field.was, ← c.takes_path.ensures, fine _ _ _ _ c.field-2.ensures c.in_ok-field-2.was, ← c.takes_fragment.ensures) (stopped _ _ _ _ _ _ _ c.from_residual-in_err-field-3.ensures.1 c.field-3.ensures c.in_err-field-3.was)

pub returns : goal.returns
unfolding form_of pick
returns c = rw (← kind_fine _ _ _ c.kind_of.ensures c.in_ok-kind.was, some_kind _, fine _ _ _ _ c.field.ensures c.in_ok-field.was, ← c.takes_path.ensures, fine _ _ _ _ c.field-2.ensures c.in_ok-field-2.was, ← c.takes_fragment.ensures, fine _ _ _ _ c.field-3.ensures c.in_ok-field-3.was) (refl)
