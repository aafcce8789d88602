-- What a delivery that is due asks for, and what it gives.
use mathlib.Core.Path.{◌≡◌, sym, ap, fun_ext, ◌∙◌}
use Prim.Native.Nat.{ℕ, ◌+◌, ◌-◌, ◌*◌, ◌/◌, ◌^◌, ◌≤◌, ◌<◌}
use mathlib.Core.List.{List}
use mathlib.Core.Bool.{Bool, true, ◌&&◌}
use native.Mathlib.Omega.{arith}
use native.Mathlib.Nat.{div-eq_of_lt}
use borrow.Author.Tests.{leb-true}
use lib.Count.{ones}
use lib.ListN.{length, take, drop, length-drop}
use lib.Seq.{take_all, drop-drop, get_or-drop}
use Rattle.octets.specs.Bytes.{part, two_at, same}
use Rattle.octets.specs.Sets.{has}
use Rattle.octets.proofs.Laws.{length_part}
use Rattle.octets.proofs.Picks.{and_l}
use Rattle.octets.proofs.SetLaws.{set_of_lt}
use Rattle.table.specs.Table.{limits, k_of, s_max}
use Rattle.table.specs.declared.Table.{Table}
use Rattle.table.proofs.Within.{within}
use Rattle.state.specs.State.{fixed_bytes, state_size, echo_at}
use Rattle.state.specs.Sound.{naming}
use Rattle.state.specs.declared.Marks.{Marks}
use Rattle.octets.proofs.Members.{has_set_of}
use Rattle.board.specs.Stepped.{record_root, enough_usable}
use Rattle.deliver.specs.Delivered.{result_of, left_by}
use Rattle.board_step.specs.Asked.{Deliverable}
use Rattle.board_step.specs.Step.{usable_for, kept_of, result_in}

module _ (b : Table) (m : Marks) (s root : List ℕ) where
  -- no board above n
  pub usable_few : usable_for b m s root / 2 ^ b.n ≡ 0
  unfolding usable_for naming
  usable_few = div-eq_of_lt (set_of_lt (λ i. has m.usable i && same (part (echo_at i) 32 s) root) 0 b.n)

  pub usable_in_lem : (i : ℕ) → i < b.n → has (usable_for b m s root) i ≡ true → has m.usable i ≡ true
  unfolding usable_for naming
  usable_in_lem i h e =
      let P : ℕ → Bool = λ j. has m.usable j && same (part (echo_at j) 32 s) root in
      let z : 0 + i ≡ i = omega arith in
      and_l (has m.usable i) (same (part (echo_at i) 32 s) root) (rw z at (sym (has_set_of P 0 b.n i h)) ∙ e)

  pub usable_enough : enough_usable b m s root ≡ true → k_of b ≤ ones (usable_for b m s root)
  unfolding usable_for enough_usable
  usable_enough e = leb-true (k_of b) _ e

-- all bytes of s from a on
abbrev from_on : ℕ → List ℕ → List ℕ
from_on a s = take (length s - a) (drop a s)

all_from : (a : ℕ) (s : List ℕ) → from_on a s ≡ drop a s
all_from a s = take_all (length s - a) (drop a s) (rw length-drop (omega arith))

-- the fragment kept of a board, by the lengths from 40 on and the area from 4,608 on
kept_lies : (max : ℕ) (s : List ℕ) (i : ℕ) → part ((i - 1) * max) (two_at (drop 40 s) (2 * (i - 1))) (drop fixed_bytes s) ≡ kept_of max s i
unfolding kept_of part
kept_lies max s i =
    let e : 40 + (2 * (i - 1) + 1) ≡ 40 + 2 * (i - 1) + 1 = omega arith in
    simp (drop-drop, get_or-drop, e)

module _ (b : Table) (m : Marks) (s r d : List ℕ) (set : ℕ) where
  -- what the call asks for
  pub deliver_asks : (ends : Bool) → Deliverable b m s r d ends → ends ≡ true → set ≡ usable_for b m s (record_root r)
      → (limits b ≡ true) × (2 * b.n ≤ length (from_on 40 s)) × (b.n * s_max b ≤ length (from_on fixed_bytes s)) × (set / 2 ^ b.n ≡ 0) × (k_of b ≤ ones set)
      × ((i : ℕ) → i < b.n → has set i ≡ true → (1 ≤ two_at (from_on 40 s) (2 * i)) × (two_at (from_on 40 s) (2 * i) ≤ s_max b))
      × (length (record_root r) ≡ 32) × (b.longest ≤ length d)
  unfolding state_size
  deliver_asks ends h on e =
      let few = (within b h.lim).few in
      let room : fixed_bytes + b.n * s_max b ≤ length s = h.room in (
        h.lim,
        rw (all_from 40 s, length-drop) (omega arith),
        rw (all_from fixed_bytes s, length-drop) (omega arith),
        rw e (usable_few b m s (record_root r)),
        rw e (usable_enough b m s (record_root r) (h.due on)),
        λ i l g.
            let z : 40 + (2 * i + 1) ≡ 40 + 2 * i + 1 = omega arith in
            rw (all_from 40 s, get_or-drop 40 s (2 * i) 0, get_or-drop 40 s (2 * i + 1) 0, z)
            (h.lengths i (omega arith) (usable_in_lem b m s (record_root r) i l (rw e at g))),
        length_part 3 32 r h.root,
        h.longest,
      )

  -- what the call gives
  pub deliver_gives : set ≡ usable_for b m s (record_root r)
      → left_by (result_of b (record_root r) set (λ i. part ((i - 1) * s_max b) (two_at (from_on 40 s) (2 * (i - 1))) (from_on fixed_bytes s))) d ≡ left_by (result_in b m s (record_root r)) d
  unfolding result_in
  deliver_gives e =
      rw (e, all_from 40 s, all_from fixed_bytes s)
      (ap (λ (g : ℕ → List ℕ). left_by (result_of b (record_root r) (usable_for b m s (record_root r)) g) d) (fun_ext (kept_lies (s_max b) s)))
