-- Document 01: "whatever state .. a step leaves is sound".
use mathlib.Core.Path.{◌≡◌}
use Prim.Native.Nat.{ℕ, zero, suc, ◌+◌, ◌-◌, ◌*◌, ◌≤◌, ◌<◌}
use mathlib.Core.List.{List}
use mathlib.Core.Bool.{Bool, true, not}
use native.Mathlib.Omega.{arith}
use native.Mathlib.Nat.{lt_of_lt_of_le}
use borrow.Author.Tests.{leb-true}
use lib.Dec.{leb, eqb}
use lib.ListN.{length}
use lib.Pow.{pow_mono}
use Rattle.octets.specs.Bytes.{pick}
use Rattle.octets.proofs.Laws.{length_part}
use Rattle.octets.proofs.Picks.{and_l}
use Rattle.table.specs.Table.{s_max}
use Rattle.table.specs.declared.Table.{Table}
use Rattle.table.proofs.Within.{within, board_number}
use Rattle.record.specs.Form.{fragment_ok}
use Rattle.record.proofs.Facts.{Whole, whole}
use Rattle.record.proofs.PartLaws.{kind_few, fragment_most}
use Rattle.state.specs.State.{view, view_of, table_of, marks_of}
use Rattle.state.specs.Sound.{sound}
use Rattle.state.specs.declared.Marks.{Marks}
use Rattle.state.proofs.Facts.{Sounds, sounds, is_sound}
use Rattle.state.proofs.Writes.{Fit, view_marks}
use Rattle.board.specs.Planned.{Take, is_again, plan_of}
use Rattle.board.specs.Stepped.{record_root, record_fragment, marked, kept, settled_to, leaves}
use Rattle.board.proofs.Taken.{Taken, taken, not_done, fragment_room}
use Rattle.board.proofs.KeptLaws.{kept_length, kept_table}
use Rattle.board.proofs.Stays.{echo_sounds, vote_sounds, send_sounds}

-- the sets of a sound state have 64 bits
pub fit : (b : Table) (m : Marks) (s : List ℕ) → Sounds (view_of b m s) → Fit m
fit b m s f =
    let few = (within b f.lim).few in
    record {
      echoes = lt_of_lt_of_le f.echoes (pow_mono {j = 64} few);
      usable = lt_of_lt_of_le f.usable (pow_mono {j = 64} few);
      votes = lt_of_lt_of_le f.votes (pow_mono {j = 64} few);
    }

fragment_one : (f : ℕ) → fragment_ok 2 f ≡ true → 1 ≤ f
unfolding fragment_ok pick
fragment_one f h = leb-true 1 f (and_l (leb 1 f) (leb f 16388) h)

module _ (s : List ℕ) (from : ℕ) (r o d : List ℕ) (good : Bool) where
  module _ (p f : ℕ) where
    abbrev b : Table
    b = table_of s

    abbrev m0 : Marks
    m0 = marks_of s

    -- what is kept of a record of kind k, and the marks once all that is due is done
    abbrev bytes : ℕ → List ℕ
    bytes k = kept (s_max b) k (from - 1) p f r s

    abbrev marks : ℕ → Marks
    marks k = settled_to b (not (eqb k 1)) (marked k (from - 1) good m0) (bytes k) (record_root r)

    root_length : (k : ℕ) → Whole r k p f → length (record_root r) ≡ 32
    root_length k w = length_part 3 32 r (omega (arith, w.ends))

    board : (k : ℕ) → Taken s from r o d k p f → from - 1 < b.n
    board k t = let (one, few) = board_number b from t.board in omega arith

    after_send : Taken s from r o d 1 p f → Sounds (view_of b (marks 1) (bytes 1))
    unfolding kept pick
    after_send t =
        let w = whole r 1 p f t.form in
        send_sounds b m0 s (record_root r) (from - 1) (sounds (view s) t.sound) t.long (board 1 t) (root_length 1 w) (not_done t) good

    after_echo : Taken s from r o d 2 p f → Sounds (view_of b (marks 2) (bytes 2))
    unfolding kept pick is_again
    after_echo t =
        let w = whole r 2 p f t.form in
        echo_sounds b m0 s (record_root r) (from - 1) (sounds (view s) t.sound) t.long (board 2 t) (root_length 2 w) (not_done t) f (record_fragment p f r) good
        (length_part (39 + 32 * p) f r (omega (arith, w.ends))) (fragment_one f w.fragment_ok_lem) t.allowed.short
        (omega (arith, fragment_most 2 f w.fragment_ok_lem)) (fragment_room b from f (length s) t.board t.allowed.short t.room) t.allowed.again

    after_vote : Taken s from r o d 3 p f → Sounds (view_of b (marks 3) (bytes 3))
    unfolding kept pick is_again
    after_vote t =
        let w = whole r 3 p f t.form in
        vote_sounds b m0 s (record_root r) (from - 1) (sounds (view s) t.sound) t.long (board 3 t) (root_length 3 w) (not_done t) good t.allowed.again

    by_kind : (k : ℕ) → 1 ≤ k → k ≤ 3 → Taken s from r o d k p f → Sounds (view_of b (marks k) (bytes k))
    by_kind zero l h t = absurd (omega arith)
    by_kind (suc zero) l h t = after_send t
    by_kind (suc (suc zero)) l h t = after_echo t
    by_kind (suc (suc (suc zero))) l h t = after_vote t
    by_kind (suc (suc (suc (suc k)))) l h t = absurd (omega arith)

  -- the marks are sound on the bytes kept, whatever the path check says
  pub settled_sounds : (k p f : ℕ) → Taken s from r o d k p f
      → Sounds (view_of (table_of s) (settled_to (table_of s) (not (eqb k 1)) (marked k (from - 1) good (marks_of s)) (kept (s_max (table_of s)) k (from - 1) p f r s) (record_root r))
      (kept (s_max (table_of s)) k (from - 1) p f r s))
  settled_sounds k p f t = let (one, few) = kind_few k (whole r k p f t.form).kind_ok in by_kind p f k one few t

  -- and so they are once they are written
  pub step_sound : (k p f : ℕ) → plan_of s from r o d ≡ Take k p f → sound (view (leaves good k p f from r s)) ≡ true
  unfolding leaves
  step_sound k p f e =
      let t = taken s from r o d k p f e in
      let b = table_of s in
      let s1 = kept (s_max b) k (from - 1) p f r s in
      let m = settled_to b (not (eqb k 1)) (marked k (from - 1) good (marks_of s)) s1 (record_root r) in
      let g = settled_sounds k p f t in
      let same : table_of s1 ≡ b = kept_table (s_max b) k (from - 1) p f r s in
      rw (view_marks m s1 (rw (kept_length (s_max b) k (from - 1) p f r s) t.long) (fit b m s1 g), same) (is_sound (view_of b m s1) g)
