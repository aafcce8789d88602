-- What is looked at before any record: the state and the lengths of the buffers.
use mathlib.Core.Path.{◌≡◌, refl}
use Prim.Native.Nat.{ℕ, ◌≤◌}
use mathlib.Core.List.{List}
use mathlib.Core.Bool.{Bool, true, false, not, ◌||◌}
use native.Mathlib.Omega.{arith}
use borrow.Author.Tests.{le-ltb, ltb-false, not-false}
use lib.ListN.{length}
use lib.Dec.{ltb}
use Rattle.octets.specs.Bytes.{pick}
use Rattle.octets.proofs.Picks.{none_applies, or_none_l, or_none_r}
use Rattle.table.specs.declared.Table.{Table}
use Rattle.record.specs.Form.{out_bytes, parse}
use Rattle.state.specs.State.{fixed_bytes, view, state_size, table_of, marks_of}
use Rattle.state.specs.Sound.{sound}
use Rattle.board.specs.Planned.{is_short, by_board, after_buffers, BuffersDo, plan_by, plan_of}

-- buffers that are not short
pub not_short : (b : Table) (s o d : ℕ) → is_short b s o d ≡ false → (state_size b ≤ s) × (out_bytes ≤ o) × (b.longest ≤ d)
unfolding is_short
not_short b s o d e =
    let A = ltb s (state_size b) in
    let B = ltb o out_bytes in
    let C = ltb d b.longest in
    let g = or_none_r A (B || C) e in
    (ltb-false s (state_size b) (or_none_l A (B || C) e), ltb-false o out_bytes (or_none_l B C g), ltb-false d b.longest (or_none_r B C g))

-- no refusal before any record: the state and the buffers are as they must be
pub ready : (s : List ℕ) (o d next : ℕ) → after_buffers s o d (λ (q : ℕ). q) next ≡ 0 → BuffersDo s o d × (next ≡ 0)
ready s o d next e =
    let h1 = none_applies (ltb (length s) fixed_bytes) 1 _ e in
    let h2 = none_applies (not (sound (view s))) 2 _ h1.1 in
    let h3 = none_applies (is_short (table_of s) (length s) o d) 1 next h2.1 in
    let h4 = not_short (table_of s) (length s) o d h3.0 in (
      record {
        long = ltb-false (length s) fixed_bytes h1.0;
        sound = not-false (sound (view s)) h2.0;
        room = h4.0;
        out = h4.1;
        delivery = h4.2;
      },
      h3.1,
    )

-- the plan for a record is then by the board that it comes from, and by the record
pub ready_plan : (s : List ℕ) (from : ℕ) (r o d : List ℕ) → BuffersDo s (length o) (length d)
    → plan_of s from r o d ≡ by_board (table_of s) (marks_of s) from (parse r)
unfolding plan_of plan_by is_short pick
ready_plan s from r o d h =
    rw (
      le-ltb (length s) fixed_bytes h.long,
      h.sound,
      le-ltb (length s) (state_size (table_of s)) h.room,
      le-ltb (length o) out_bytes h.out,
      le-ltb (length d) (table_of s).longest h.delivery,
    )

-- ---- a refusal by its number, or what there is if none applies

module _ {X : Type 0} (refuse : ℕ → X) (y : X) (q : ℕ) where
  by_number : (a b c : Bool) → q ≡ pick a 2 (pick b 3 (pick c 2 0)) → (q ≡ 0 → ⊥) → refuse q ≡ pick a (refuse 2) (pick b (refuse 3) (pick c (refuse 2) y))
  unfolding pick
  by_number true b c e n = rw e
  by_number false true c e n = rw e
  by_number false false true e n = rw e
  by_number false false false e n = absurd (n e)

  by_none : (a b c : Bool) → q ≡ pick a 2 (pick b 3 (pick c 2 0)) → q ≡ 0 → y ≡ pick a (refuse 2) (pick b (refuse 3) (pick c (refuse 2) y))
  unfolding pick
  by_none true b c e n = absurd (omega arith)
  by_none false true c e n = absurd (omega arith)
  by_none false false true e n = absurd (omega arith)
  by_none false false false e n = refl

  module _ (s : List ℕ) (o d : ℕ) (e : q ≡ after_buffers s o d (λ (r : ℕ). r) 0) where
    pub refused_before : (q ≡ 0 → ⊥) → refuse q ≡ after_buffers s o d refuse y
    refused_before n = by_number _ _ _ e n

    pub passed_before : q ≡ 0 → y ≡ after_buffers s o d refuse y
    passed_before n = by_none _ _ _ e n
