-- A board's state stays a string of bytes: a start and a step write nothing else into it.
use mathlib.Core.Path.{◌≡◌}
use Prim.Native.Nat.{ℕ, zero, suc, ◌-◌, ◌%◌, ◌/◌, ◌<◌}
use mathlib.Core.List.{List, ◌++◌}
use mathlib.Core.Bool.{Bool, true, false}
use native.Mathlib.Omega.{arith}
use lib.ListN.{replicate}
use Rattle.octets.specs.Bytes.{two, four, eight}
use Rattle.octets.specs.Sets.{bit}
use Rattle.table.specs.Table.{s_max}
use Rattle.table.specs.declared.Table.{Table}
use Rattle.table.proofs.Within.{within, board_number}
use Rattle.code.specs.Code.{All, Byte}
use Rattle.code.proofs.Lists.{all_append, all_put, part_bytes, two_bytes}
use Rattle.state.specs.State.{fixed_bytes, table_of, marks_bytes, len_at, echo_at, vote_at, fragment_at}
use Rattle.state.specs.declared.Marks.{Marks}
use Rattle.board.specs.Planned.{Plan, Refuse, Take, plan_of}
use Rattle.board.specs.Started.{fresh_bytes, start_of}
use Rattle.board.specs.Stepped.{record_root, record_fragment, kept, leaves}
use Rattle.board.proofs.KeptLaws as Kept
use Rattle.board.proofs.Starts.{accepted}
use Rattle.board_step.specs.Step.{said_by, taken_of, by_plan, step_of}

bit_byte : (c : Bool) → bit c < 256
bit_byte true = omega arith
bit_byte false = omega arith

four_bytes : (n : ℕ) → All Byte (four n)
four_bytes n = all_append Byte (two (n / 65536)) (two (n % 65536)) (two_bytes (n / 65536)) (two_bytes (n % 65536))

eight_bytes : (n : ℕ) → All Byte (eight n)
eight_bytes n = all_append Byte (four (n / 4294967296)) (four (n % 4294967296)) (four_bytes (n / 4294967296)) (four_bytes (n % 4294967296))

marks_bytes_lem : (m : Marks) → All Byte (marks_bytes m)
unfolding marks_bytes
marks_bytes_lem m =
    let sets = all_append Byte (eight m.echoes) (eight m.usable ++ eight m.votes) (eight_bytes m.echoes)
    (all_append Byte (eight m.usable) (eight m.votes) (eight_bytes m.usable) (eight_bytes m.votes)) in
    (bit_byte m.acquired, (bit_byte m.voted, (bit_byte m.output, (bit_byte m.done, sets))))

module _ (s : List ℕ) (from : ℕ) (r o d : List ℕ) (hs : All Byte s) (hr : All Byte r) where
  pub kept_bytes : (max k p f : ℕ) → All Byte (kept max k (from - 1) p f r s)
  kept_bytes max k p f =
      let i = from - 1 in
      let root = part_bytes 3 32 r hr in
      Kept.by_kind max k i p f r s (All Byte)
      (all_put Byte (record_fragment p f r) _ (fragment_at max i) (part_bytes _ f r hr)
      (all_put Byte (two f) _ (len_at i) (two_bytes f) (all_put Byte (record_root r) s (echo_at i) root hs)))
      (all_put Byte (record_root r) s (vote_at i) root hs) hs

  by_plan_lem : (x : Plan) → All Byte (by_plan x s from r o d).state
  unfolding by_plan taken_of said_by leaves
  by_plan_lem (Refuse q a) = hs
  by_plan_lem (Take k p f) = all_put Byte (marks_bytes _) _ 6 (marks_bytes_lem _) (kept_bytes (s_max (table_of s)) k p f)

  pub step_bytes : All Byte (step_of s from r o d).state
  unfolding step_of
  step_bytes = by_plan_lem (plan_of s from r o d)

zeros_bytes : (n : ℕ) → All Byte (replicate n 0)
zeros_bytes zero = tt
zeros_bytes (suc n) = (omega arith, zeros_bytes n)

pub start_bytes : (b : Table) (own : ℕ) (s : List ℕ) → All Byte s → (start_of b own s).number ≡ 0 → All Byte (start_of b own s).state
unfolding fresh_bytes
start_bytes b own s hs h =
    let a = accepted b own s h in
    let w = within b a.lim in
    let (one, most) = board_number b own a.known in
    let fresh : All Byte (fresh_bytes b own) = (
      omega (arith, w.few),
      (
        omega (arith, w.few, w.third),
        (
          omega (arith, w.few, w.sender_few),
          (
            omega (arith, w.few),
            all_append Byte (two b.longest) (replicate (fixed_bytes - 6) 0) (two_bytes b.longest) (zeros_bytes (fixed_bytes - 6)),
          ),
        ),
      ),
    ) in
    rw a.state (all_put Byte (fresh_bytes b own) s 0 fresh hs)
