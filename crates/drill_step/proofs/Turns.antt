-- What a step of the drill leaves, put together from what its functions do.
use mathlib.Core.Path.{◌≡◌, refl, sym, ap}
use Prim.Native.Nat.{ℕ, ◌-◌, ◌≤◌}
use mathlib.Core.List.{List, []}
use mathlib.Core.Bool.{true, false}
use native.Mathlib.Omega.{arith}
use borrow.Author.Tests.{ne_eqb}
use lib.Dec.{eqb}
use lib.ListN.{length, get_or, take}
use Rattle.octets.specs.Bytes.{pick}
use Rattle.table.specs.declared.Table.{Table}
use Rattle.board_step.specs.declared.Stepped.{Stepped}
use Rattle.drill_boards.specs.Held.{Boards, put_out_yet, with_record, act_of}
use Rattle.drill_step.specs.Boards.{record_for, step_in, put_by, shown, turn, taken, missing, turn_by}
use Rattle.drill_boards.specs.Room.{boards_in}
use Rattle.table.proofs.Within.{board_number}
use Rattle.drill_lines.specs.declared.Small.{Small}
use Rattle.drill_lines.specs.declared.Handed.{Handed}
use Rattle.drill_lines.specs.declared.Handed.TheVariants.{Send, Echo, Vote, Raw}
use Rattle.drill_lines.specs.declared.Step.{Step}
use Rattle.drill_lines.specs.Lines.{kind_in}
use Rattle.drill_lines.specs.Read.{letter_of, IsStep}
use Rattle.drill_step.specs.Asked.{step_from, Handing, OfLetter, Hands, Stepping}
use Rattle.drill_boards.proofs.Slots.{state_put}

step_same : (states kept : List ℕ) (from to : ℕ) (r : List ℕ) → step_in (boards_in states kept) from to r ≡ step_from states from to r
unfolding step_in boards_in step_from
step_same states kept from to r = refl

module _ (b : Table) (message states kept : List ℕ) (kind from to : ℕ) (l : List ℕ) where
  pub turn_missing : put_out_yet b (boards_in states kept) kind from ≡ false → turn (shown 14 45 0 0) [] (boards_in states kept) ≡ turn_by b message (boards_in states kept) kind from to l
  unfolding turn_by pick missing
  turn_missing e = rw e

  pub turn_taken : put_out_yet b (boards_in states kept) kind from ≡ true → (r : List ℕ) → r ≡ record_for b message (boards_in states kept) kind from to l
      → (x : Stepped) (states' kept' out delivery : List ℕ) → 1 ≤ to → to ≤ 7 → length states ≡ 35588
      → Stepping states from to r x states' out delivery
      → ((st : List ℕ) → boards_in st kept' ≡ with_record (boards_in st kept) (to - 1) (take x.record_length out))
      → (act kb : ℕ) → kb ≡ get_or (take x.record_length out) 0 0 → act ≡ act_of kb
      → turn (shown x.number act x.delivery x.message_length) (take x.message_length delivery) (boards_in states' kept')
      ≡ turn_by b message (boards_in states kept) kind from to l
  unfolding turn_by pick taken put_by
  turn_taken e r er x states' kept' out delivery lo hi ls S keep act kb ek ea =
      rw (
        e,
        ← er,
        step_same states kept from to r,
        ea,
        ek,
        keep states',
        S.state_is,
        state_put (to - 1) (step_from states from to r).state states kept S.long (omega arith),
        S.out_is,
        S.delivery_is,
        S.answer_is,
      )

-- what is handed over for a letter says its turn
turn_other : (b : Table) (message : List ℕ) (B : Boards) (k from to : ℕ) (l : List ℕ) → eqb k 115 ≡ false → eqb k 101 ≡ false → eqb k 118 ≡ false
    → turn_by b message B 114 from to l ≡ turn_by b message B k from to l
unfolding turn_by put_out_yet record_for pick
turn_other b message B k from to l x y z = rw (x, y, z) refl

pub turn_letter : (b : Table) (message : List ℕ) (B : Boards) (h : Handed) (k from to : ℕ) (l : List ℕ) → OfLetter h k
    → turn_by b message B (letter_of h) from to l ≡ turn_by b message B k from to l
turn_letter b message B Send k from to l e = ap (λ (x : ℕ). turn_by b message B x from to l) (sym e)
turn_letter b message B Echo k from to l e = ap (λ (x : ℕ). turn_by b message B x from to l) (sym e)
turn_letter b message B Vote k from to l e = ap (λ (x : ℕ). turn_by b message B x from to l) (sym e)
turn_letter b message B (Raw w) k from to l e = turn_other b message B k from to l (ne_eqb k 115 e.0) (ne_eqb k 101 e.1) (ne_eqb k 118 e.2)

-- the step that a right line says is one of those
of_letter : (h : Handed) (k : ℕ) → letter_of h ≡ k → OfLetter h k
of_letter Send k e = sym e
of_letter Echo k e = sym e
of_letter Vote k e = sym e
of_letter (Raw w) k e = (λ x. absurd (omega arith), λ x. absurd (omega arith), λ x. absurd (omega arith))

pub hands : {s : Step} {l : List ℕ} → IsStep s l → Hands s l
hands {s} {l} i = record { kind_is = of_letter s.handed (kind_in l) i.kind_is; raw_is = i.raw_is; from_is = i.from_is; to_is = i.to_is }

-- the boards of a step are from 1 to 7
pub record Numbers (from to : ℕ) : Type 0 where
  pub from_one : 1 ≤ from
  pub from_few : from ≤ 7
  pub to_one : 1 ≤ to
  pub to_few : to ≤ 7

pub numbers : (b : Small) (message : List ℕ) (s : Step) → Handing b.limits.table message s → Numbers s.from s.to
numbers b message s h =
    let (f1, f2) = board_number b.limits.table s.from h.sends in
    let (t1, t2) = board_number b.limits.table s.to h.takes in
    let few = b.few in
    record { from_one = f1; from_few = omega arith; to_one = t1; to_few = omega arith }
