-- Document 01: "whatever state a start .. leaves is sound".
use mathlib.Core.Path.{◌≡◌, refl, ap, ◌∙◌}
use Prim.Native.Nat.{ℕ, zero, suc, ◌+◌, ◌-◌, ◌^◌, ◌≤◌, ◌<◌}
use mathlib.Core.List.{List, ◌∷◌, ◌++◌}
use mathlib.Core.Bool.{Bool, true, false, not, ◌&&◌}
use native.Mathlib.Omega.{arith}
use native.Mathlib.Nat.{zero-div}
use borrow.Author.Tests.{ltb-false, not-false}
use lib.Count.{ones}
use lib.Dec.{eqb, ltb}
use lib.ListN.{length, get_or, replicate, length-append, length-replicate, get_or-append}
use Rattle.octets.specs.Bytes.{pick, put, two, two_at, four_at, eight_at}
use Rattle.octets.proofs.Laws.{get_d_put_in}
use Rattle.octets.proofs.Picks.{and_l, and_r}
use Rattle.octets.proofs.Tables.{get_d_right}
use Rattle.table.specs.Table.{limits, most_of, some_of, is_board}
use Rattle.table.specs.declared.Table.{Table}
use Rattle.table.proofs.Within.{within}
use Rattle.state.specs.State.{fixed_bytes, state_size, State, table_of, own_of, marks_of, view, view_of, flag, len_at}
use Rattle.state.specs.Sound.{sets_ok, flags_ok, usable_ok, length_ok, board_ok, quiet, sound}
use Rattle.state.specs.declared.Marks.{Marks}
use Rattle.octets.proofs.Members.{every_all, has_none}
use Rattle.state.proofs.Tallies.{reaches_few}
use Rattle.board.specs.Started.{fresh_bytes, begun, start_of}

-- no flag, no board
abbrev pub unmarked : Marks
unmarked = record { acquired = false; voted = false; output = false; done = false; echoes = 0; usable = 0; votes = 0 }

pub get_d_zeros : (n i : ℕ) → ◌≡◌ {A = ℕ} (get_or (replicate n 0) i 0) 0
get_d_zeros zero i = refl
get_d_zeros (suc n) zero = refl
get_d_zeros (suc n) (suc i) = get_d_zeros n i

-- zeros from a on, before e
module _ (s : List ℕ) (a e : ℕ) (zeros : (i : ℕ) → a ≤ i → i < e → get_or s i 0 ≡ 0) where
  two_zero : (i : ℕ) → a ≤ i → i + 2 ≤ e → two_at s i ≡ 0
  two_zero i h k = rw (zeros i h (omega arith), zeros (i + 1) (omega arith) (omega arith))

  four_zero : (i : ℕ) → a ≤ i → i + 4 ≤ e → four_at s i ≡ 0
  unfolding four_at
  four_zero i h k = rw (two_zero i h (omega arith), two_zero (i + 2) (omega arith) (omega arith))

  pub eight_zero : (i : ℕ) → a ≤ i → i + 8 ≤ e → eight_at s i ≡ 0
  unfolding eight_at
  eight_zero i h k = rw (four_zero i h (omega arith), four_zero (i + 4) (omega arith) (omega arith))

-- a table's state with nothing marked and no length is sound
module _ (b : Table) (s : List ℕ) (lim : limits b ≡ true) (own : is_board b (own_of s) ≡ true)
    (lens : (i : ℕ) → i < 64 → two_at s (len_at i) ≡ 0) where
  abbrev bare : State
  bare = view_of b unmarked s

  bare_board : (i : ℕ) → i < 64 → board_ok bare i ≡ true
  unfolding board_ok usable_ok length_ok pick
  bare_board i h = rw (has_none i, lens i h)

  bare_quiet : quiet bare ≡ true
  unfolding quiet pick ones
  bare_quiet =
      let w = within b lim in
      rw (
        reaches_few b.n (most_of b) 0 bare.echo_root (omega (arith, w.third)),
        reaches_few b.n (some_of b) 0 bare.vote_root (omega arith),
      )

  bare_sound : sound bare ≡ true
  unfolding sound sets_ok flags_ok
  bare_sound = rw (lim, own, zero-div (2 ^ b.n), every_all (board_ok bare) 0 64 (λ i h. bare_board i (omega arith)), bare_quiet)

module _ (b : Table) (own : ℕ) (s : List ℕ) (lim : limits b ≡ true) (known : is_board b own ≡ true) (long : fixed_bytes ≤ length s) where
  abbrev first : List ℕ
  first = b.n ∷ b.t ∷ b.sender ∷ own ∷ two b.longest

  abbrev fresh : List ℕ
  fresh = put 0 (first ++ replicate 4602 0) s

  size : length (first ++ replicate 4602 0) ≡ fixed_bytes
  size = length-append first (replicate 4602 0) ∙ ap (λ (x : ℕ). 6 + x) (length-replicate {A = ℕ} 4602 0)

  low : (i : ℕ) → i < 6 → get_or fresh i 0 ≡ get_or first i 0
  low i h =
      let z : 0 + i ≡ i = omega arith in
      (rw z at (get_d_put_in (first ++ replicate 4602 0) s 0 i (omega (arith, size)) (omega (arith, size))))
      ∙ get_or-append first (replicate 4602 0) 0 i h

  high : (i : ℕ) → 6 ≤ i → i < fixed_bytes → get_or fresh i 0 ≡ 0
  high i h k =
      let z : 0 + i ≡ i = omega arith in
      (rw z at (get_d_put_in (first ++ replicate 4602 0) s 0 i (omega (arith, size)) (omega (arith, size))))
      ∙ get_d_right first (replicate 4602 0) i h ∙ get_d_zeros 4602 (i - 6)

  fresh_table : table_of fresh ≡ b
  unfolding table_of
  fresh_table =
      let w = within b lim in
      let l : two_at fresh 4 ≡ b.longest = rw (low 4 (omega arith), low 5 (omega arith)) (omega (arith, w.short)) in
      λ j. record { n = low 0 (omega arith) j; t = low 1 (omega arith) j; sender = low 2 (omega arith) j; longest = l j }

  fresh_own : own_of fresh ≡ own
  unfolding own_of
  fresh_own = low 3 (omega arith)

  fresh_marks : marks_of fresh ≡ unmarked
  unfolding marks_of
  fresh_marks =
      let o : (i : ℕ) → 6 ≤ i → i < fixed_bytes → flag fresh i ≡ false = λ i h k. ap (λ (x : ℕ). not (eqb x 0)) (high i h k) in
      let e : (i : ℕ) → 6 ≤ i → i + 8 ≤ fixed_bytes → eight_at fresh i ≡ 0 = eight_zero fresh 6 fixed_bytes high in
      λ j. record {
        acquired = o 6 (omega arith) (omega arith) j;
        voted = o 7 (omega arith) (omega arith) j;
        output = o 8 (omega arith) (omega arith) j;
        done = o 9 (omega arith) (omega arith) j;
        echoes = e 10 (omega arith) (omega arith) j;
        usable = e 18 (omega arith) (omega arith) j;
        votes = e 26 (omega arith) (omega arith) j;
      }

  -- the state that a start leaves says the table, the own number and nothing marked
  pub start_table : table_of (put 0 (fresh_bytes b own) s) ≡ b
  unfolding fresh_bytes
  start_table = fresh_table

  pub start_own : own_of (put 0 (fresh_bytes b own) s) ≡ own
  unfolding fresh_bytes
  start_own = fresh_own

  pub start_marks : marks_of (put 0 (fresh_bytes b own) s) ≡ unmarked
  unfolding fresh_bytes
  start_marks = fresh_marks

  -- and is sound
  pub fresh_sound : sound (view (put 0 (fresh_bytes b own) s)) ≡ true
  unfolding fresh_bytes
  fresh_sound =
      rw (fresh_table, fresh_marks)
      (bare_sound b fresh lim (rw fresh_own known) (λ i h. two_zero fresh 6 fixed_bytes high (len_at i) (omega arith) (omega arith)))

-- a start that is accepted: none of its refusals applies, and the fresh bytes are written
pub record Accepted (b : Table) (own : ℕ) (s : List ℕ) : Type 0 where
  pub lim : limits b ≡ true
  pub known : is_board b own ≡ true
  pub room : state_size b ≤ length s
  pub long : fixed_bytes ≤ length s
  pub state : (start_of b own s).state ≡ put 0 (fresh_bytes b own) s

module _ (b : Table) (own : ℕ) (s : List ℕ) where
  pub accepted : (start_of b own s).number ≡ 0 → Accepted b own s
  unfolding start_of pick state_size
  accepted = go (not (limits b && is_board b own)) (ltb (length s) (state_size b)) refl refl
    where
      go : (c d : Bool) → not (limits b && is_board b own) ≡ c → ltb (length s) (state_size b) ≡ d
          → (pick c (begun 1 s) (pick d (begun 2 s) (begun 0 (put 0 (fresh_bytes b own) s)))).number ≡ 0 → Accepted b own s
      go true d e g h = absurd (omega arith)
      go false true e g h = absurd (omega arith)
      go false false e g h =
          let both = not-false (limits b && is_board b own) e in
          let room = ltb-false (length s) (state_size b) g in
          record {
            lim = and_l (limits b) (is_board b own) both;
            known = and_r (limits b) (is_board b own) both;
            room = room;
            long = omega arith;
            state = rw (e, g);
          }

  -- "whatever state a start .. leaves is sound"
  pub start_sound : (start_of b own s).number ≡ 0 → sound (view (start_of b own s).state) ≡ true
  start_sound h = let a = accepted h in rw a.state (fresh_sound b own s a.lim a.known a.long)
