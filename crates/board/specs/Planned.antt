-- Document 01, "Refusal numbers": what a step is to do with a record. "The first that applies is given."
use Rattle.std.specs.Prelude.{◌≡◌, ℕ, ◌-◌, ◌≤◌, List, Bool, true, Result, Ok, Err, not, ◌&&◌, ◌||◌, length, ltb, eqb}
use Rattle.octets.specs.Bytes.{pick}
use Rattle.octets.specs.Sets.{has}
use Rattle.table.specs.Table.{s_max, is_board}
use Rattle.table.specs.declared.Table.{Table}
use Rattle.record.specs.Form.{Read, Form, Fault, out_bytes, parse}
use Rattle.record.specs.Kinds.{kind_number}
use Rattle.record.specs.declared.Outline.{Outline}
use Rattle.refusal.specs.Numbers.{number_of}
use Rattle.refusal.specs.declared.Refused.{Refused}
use Rattle.state.specs.State.{fixed_bytes, view, state_size, table_of, marks_of}
use Rattle.state.specs.Sound.{sound}
use Rattle.state.specs.declared.Marks.{Marks}

-- what is to be done with a record: refuse it with a number, and with the place of the field at fault where there is one (else 0); or take it, a
-- record of a kind, with so many path nodes and so many fragment bytes
pub data Plan : Type 0 where
  Refuse : ℕ → ℕ → Plan
  Take : ℕ → ℕ → ℕ → Plan

-- by what there is to take, or why it is refused
abbrev pub plan_as : Result Outline Refused → Plan
plan_as (Ok o) = Take (kind_number o.kind) o.nodes o.len
plan_as (Err e) = Refuse (number_of e.why) e.at

-- 2, "a lent buffer shorter than needed": the state, "an outgoing record buffer 16,619; a delivery buffer L"
unfoldable pub is_short : Table → ℕ → ℕ → ℕ → Bool
is_short b state out delivery = ltb state (state_size b) || (ltb out out_bytes || ltb delivery b.longest)

-- 6, "send from a board other than S"
unfoldable pub is_stray : Table → ℕ → ℕ → Bool
is_stray b from k = eqb k 1 && not (eqb from b.sender)

-- 8, "board done, or a send in the output stage"
unfoldable pub is_late : Marks → ℕ → Bool
is_late m k = m.done || (eqb k 1 && m.output)

-- 9, "second send, second echo or second vote from that board", of board i + 1
unfoldable pub is_again : Marks → ℕ → ℕ → Bool
is_again m i k = pick (eqb k 1) m.acquired (pick (eqb k 2) (has m.echoes i) (has m.votes i))

-- a record of kind k, with p path nodes and f fragment bytes, from a board; 7 is "fragment longer than s_max"
unfoldable pub by_marks : Table → Marks → ℕ → ℕ → ℕ → ℕ → Plan
by_marks b m from k p f =
    pick (is_stray b from k) (Refuse 6 0)
    (pick (ltb (s_max b) f) (Refuse 7 0)
    (pick (is_late m k) (Refuse 8 0)
    (pick (is_again m (from - 1) k) (Refuse 9 0)
    (Take k p f))))

-- 20 to 25, "with the byte offset of the field at fault": the record is not of the form
unfoldable pub by_form : Table → Marks → ℕ → Read → Plan
by_form b m from (Fault why at) = Refuse why at
by_form b m from (Form k p f) = by_marks b m from k p f

-- 4, "board number (from ..) not in 1..n"; then by what was read of the record
abbrev pub by_board : Table → Marks → ℕ → Read → Plan
by_board b m from x = pick (not (is_board b from)) (Refuse 4 0) (by_form b m from x)

-- what is looked at before any record: the state, then the lengths of the buffers, o of the outgoing and d of the delivery one; `refuse` says
-- what a refusal is, by its number, and `next` what there is if none applies
abbrev pub after_buffers {ℓ} : {X : Type ℓ} → List ℕ → ℕ → ℕ → (ℕ → X) → X → X
after_buffers s o d refuse next =
    pick (ltb (length s) fixed_bytes) (refuse 2)
    (pick (not (sound (view s))) (refuse 3)
    (pick (is_short (table_of s) (length s) o d) (refuse 2)
    next))

-- what is so if none of these refusals applies
pub record BuffersDo (s : List ℕ) (o d : ℕ) : Type 0 where
  pub long : fixed_bytes ≤ length s
  pub sound : sound (view s) ≡ true
  pub room : state_size (table_of s) ≤ length s
  pub out : out_bytes ≤ o
  pub delivery : (table_of s).longest ≤ d

-- a step looks in the order 3, 2, 4, 20 to 25, 6, 7, 8, 9, "but a state buffer under 4,608 bytes gives 2 at once": by what was read of the
-- record
unfoldable pub plan_by : List ℕ → ℕ → ℕ → ℕ → Read → Plan
plan_by s from o d x = after_buffers s o d (λ (q : ℕ). Refuse q 0) (by_board (table_of s) (marks_of s) from x)

-- by the record itself, read
unfoldable pub plan_of : List ℕ → ℕ → List ℕ → List ℕ → List ℕ → Plan
plan_of s from r o d = plan_by s from (length o) (length d) (parse r)
