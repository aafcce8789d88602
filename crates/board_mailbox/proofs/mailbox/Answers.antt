use native.Mathlib.Omega.{arith}
use mathlib.Core.Path.{sym, ap, ◌∙◌}
use Rattle.std.specs.Prelude.{Result}
use Rattle.refusal.specs.declared.Refusal.{Refusal}
use Rattle.refusal.specs.Numbers.{refused}
use Rattle.refusal.proofs.Numbers.{number_some}
use Rattle.board_mailbox.proofs.Refusals.{none_refused, refused_box, taken_box}
use Rattle.board_mailbox.proofs.mailbox.Goals as goal

pub returns-in-Err : goal.returns-in-Err
returns-in-Err c =
    let q = ap (λ (r : Result Unit Refusal). refused r) c.in-Err.is in
    rw (c.only_number.ensures, c.number.ensures.0) (refused_box _ _ _ _ _ _ _ (sym q ∙ c.mailbox_refusal.ensures) (λ h. omega (arith, h, number_some c.in-Err.e)))

pub hand_all-requires : goal.hand_all-requires
hand_all-requires c =
    let q = ap (λ (r : Result Unit Refusal). refused r) c.in-Ok.is in
    none_refused _ _ _ _ _ _ (sym c.mailbox_refusal.ensures ∙ q)

pub returns-in-Ok : goal.returns-in-Ok
returns-in-Ok c =
    let q = ap (λ (r : Result Unit Refusal). refused r) c.in-Ok.is in
    c.hand_all.ensures ∙ taken_box _ _ _ _ _ _ _ c.mailbox_refusal.ensures q
