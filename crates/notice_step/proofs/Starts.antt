-- Document 02, request 3, with document 01: "whatever state a start .. leaves is sound".
use mathlib.Core.Path.{◌≡◌, refl, ap, ◌∙◌}
use Prim.Native.Nat.{ℕ, ◌+◌, ◌-◌, ◌*◌, ◌^◌, ◌≤◌, ◌<◌}
use mathlib.Core.List.{List, [], ◌∷◌, ◌++◌}
use mathlib.Core.Bool.{Bool, true, false, not, ◌&&◌}
use native.Mathlib.Omega.{arith}
use borrow.Author.Tests.{le-leb, lt-ltb, ltb-false, not-false}
use lib.Count.{ones}
use lib.Dec.{eqb, ltb}
use lib.ListN.{length, get_or, replicate, length-append, length-replicate, get_or-append}
use lib.Pow.{pow_pos}
use Rattle.octets.specs.Bytes.{pick, put, eight_at}
use Rattle.octets.proofs.Laws.{get_d_put_in}
use Rattle.octets.proofs.Members.{has_none}
use Rattle.octets.proofs.Picks.{and_l, and_r}
use Rattle.octets.proofs.Tables.{get_d_right}
use Rattle.table.specs.Table.{limits, most_of, some_of, is_board}
use Rattle.table.specs.declared.Table.{Table}
use Rattle.table.proofs.Within.{within}
use Rattle.state.specs.State.{flag}
use Rattle.state.proofs.Tallies.{reaches_few}
use Rattle.board.specs.Started.{begun}
use Rattle.board.proofs.Starts.{get_d_zeros, eight_zero}
use Rattle.notice.specs.State.{
  notice_state_bytes,
  heard_at,
  heard_echoes_at,
  heard_votes_at,
  place_at,
  notice_table,
  notice_own,
  heard_in,
  notice_view,
  notice_view_of,
  notice_kept,
  notice_len,
  heard_of,
}
use Rattle.notice.specs.Sound.{notice_length_ok, notice_quiet, notice_sound}
use Rattle.notice.specs.declared.Heard.{Heard}
use Rattle.notice.proofs.Kept.{Word, place_within}
use Rattle.notice.proofs.Sounds.{NoticeSounds, is_notice_sound, by_word}
use Rattle.notice_step.specs.Started.{notice_fresh, notice_start_of}

-- no flag, no board
abbrev pub unheard : Heard
unheard = record { acquired = false; voted = false; done = false; echoes = 0; votes = 0 }

-- the table as a state has it: L plays no part
abbrev pub without_longest : Table → Table
without_longest b = record { n = b.n; t = b.t; sender = b.sender; longest = 0 }

limits_without : (b : Table) → limits b ≡ true → limits (without_longest b) ≡ true
unfolding limits
limits_without b h =
    let w = within b h in
    rw (
      le-leb 1 b.n w.one,
      le-leb b.n 64 w.few,
      lt-ltb (3 * b.t) b.n w.third,
      le-leb 1 b.sender w.sender_one,
      le-leb b.sender b.n w.sender_few,
    )

module _ (b : Table) (own : ℕ) (s : List ℕ) (lim : limits b ≡ true) (known : is_board b own ≡ true) (long : notice_state_bytes ≤ length s) where
  abbrev first : List ℕ
  first = b.n ∷ b.t ∷ b.sender ∷ own ∷ []

  abbrev fresh : List ℕ
  fresh = put 0 (first ++ replicate 8348 0) s

  size : length (first ++ replicate 8348 0) ≡ notice_state_bytes
  size = length-append first (replicate 8348 0) ∙ ap (λ (x : ℕ). 4 + x) (length-replicate {A = ℕ} 8348 0)

  low : (i : ℕ) → i < 4 → get_or fresh i 0 ≡ get_or first i 0
  low i h =
      let z : 0 + i ≡ i = omega arith in
      (rw z at (get_d_put_in (first ++ replicate 8348 0) s 0 i (omega (arith, size)) (omega (arith, size))))
      ∙ get_or-append first (replicate 8348 0) 0 i h

  high : (i : ℕ) → 4 ≤ i → i < notice_state_bytes → get_or fresh i 0 ≡ 0
  high i h k =
      let z : 0 + i ≡ i = omega arith in
      (rw z at (get_d_put_in (first ++ replicate 8348 0) s 0 i (omega (arith, size)) (omega (arith, size))))
      ∙ get_d_right first (replicate 8348 0) i h ∙ get_d_zeros 8348 (i - 4)

  fresh_table : notice_table fresh ≡ without_longest b
  unfolding notice_table
  fresh_table = λ j. record { n = low 0 (omega arith) j; t = low 1 (omega arith) j; sender = low 2 (omega arith) j; longest = 0 }

  fresh_own : notice_own fresh ≡ own
  unfolding notice_own
  fresh_own = low 3 (omega arith)

  fresh_heard : heard_in fresh ≡ unheard
  unfolding heard_in
  fresh_heard =
      let o : (i : ℕ) → 4 ≤ i → i < notice_state_bytes → flag fresh i ≡ false = λ i h k. ap (λ (x : ℕ). not (eqb x 0)) (high i h k) in
      let e : (i : ℕ) → 4 ≤ i → i + 8 ≤ notice_state_bytes → eight_at fresh i ≡ 0 = eight_zero fresh 4 notice_state_bytes high in
      λ j. record {
        acquired = o heard_at (omega arith) (omega arith) j;
        voted = o (heard_at + 1) (omega arith) (omega arith) j;
        done = o (heard_at + 2) (omega arith) (omega arith) j;
        echoes = e heard_echoes_at (omega arith) (omega arith) j;
        votes = e heard_votes_at (omega arith) (omega arith) j;
      }

  fresh_len : (k i : ℕ) → Word k → i < 64 → notice_len fresh k i ≡ 0
  fresh_len k i w h = let (after, before) = place_within k i w h in high (place_at k i) (omega arith) (omega arith)

  abbrev bare : Table
  bare = without_longest b

  bare_lengths : (k i : ℕ) → Word k → i < 64 → notice_length_ok (notice_view_of bare unheard fresh) k i ≡ true
  unfolding notice_length_ok pick
  bare_lengths k i w h =
      by_word (λ l. notice_len fresh l i ≡ 0 → notice_length_ok (notice_view_of bare unheard fresh) l i ≡ true) (λ e. rw (has_none i, e))
      (λ e. rw (has_none i, e)) k w (fresh_len k i w h)

  bare_quiet : notice_quiet (notice_view_of bare unheard fresh) ≡ true
  unfolding notice_quiet pick ones
  bare_quiet =
      let w = within b lim in
      rw (
        reaches_few b.n (most_of b) 0 (notice_kept fresh 2) (omega (arith, w.third)),
        reaches_few b.n (some_of b) 0 (notice_kept fresh 3) (omega arith),
      )

  bare_sounds : NoticeSounds (notice_view_of bare unheard fresh)
  unfolding pick is_board
  bare_sounds = record {
    lim = limits_without b lim;
    own = rw fresh_own known;
    heard = by_word (λ k. heard_of k unheard < 2 ^ b.n) (pow_pos b.n) (pow_pos b.n);
    flags = refl;
    lengths = bare_lengths;
    calm = bare_quiet;
  }

  -- the state that a start leaves says the table and the own number, that nothing was heard, and that nothing is kept
  pub start_table : notice_table (put 0 (notice_fresh b own) s) ≡ without_longest b
  unfolding notice_fresh
  start_table = fresh_table

  pub start_own : notice_own (put 0 (notice_fresh b own) s) ≡ own
  unfolding notice_fresh
  start_own = fresh_own

  pub start_heard : heard_in (put 0 (notice_fresh b own) s) ≡ unheard
  unfolding notice_fresh
  start_heard = fresh_heard

  -- and is sound
  pub fresh_sound : notice_sound (notice_view (put 0 (notice_fresh b own) s)) ≡ true
  unfolding notice_fresh
  fresh_sound = rw (fresh_table, fresh_heard) (is_notice_sound (notice_view_of bare unheard fresh) bare_sounds)

-- a start that is accepted: none of its refusals applies, and the fresh bytes are written
pub record NoticeAccepted (b : Table) (own : ℕ) (s : List ℕ) : Type 0 where
  pub lim : limits b ≡ true
  pub known : is_board b own ≡ true
  pub long : notice_state_bytes ≤ length s
  pub state : (notice_start_of b own s).state ≡ put 0 (notice_fresh b own) s

module _ (b : Table) (own : ℕ) (s : List ℕ) where
  pub notice_accepted : (notice_start_of b own s).number ≡ 0 → NoticeAccepted b own s
  unfolding notice_start_of pick
  notice_accepted = go (not (limits b && is_board b own)) (ltb (length s) notice_state_bytes) refl refl
    where
      go : (c d : Bool) → not (limits b && is_board b own) ≡ c → ltb (length s) notice_state_bytes ≡ d
          → (pick c (begun 1 s) (pick d (begun 2 s) (begun 0 (put 0 (notice_fresh b own) s)))).number ≡ 0 → NoticeAccepted b own s
      go true d e g h = absurd (omega arith)
      go false true e g h = absurd (omega arith)
      go false false e g h =
          let both = not-false (limits b && is_board b own) e in
          record {
            lim = and_l (limits b) (is_board b own) both;
            known = and_r (limits b) (is_board b own) both;
            long = ltb-false (length s) notice_state_bytes g;
            state = rw (e, g);
          }

  -- "whatever state a start .. leaves is sound", and says the table and the own number
  pub notice_start_sound : (notice_start_of b own s).number ≡ 0 → notice_sound (notice_view (notice_start_of b own s).state) ≡ true
  notice_start_sound h = let a = notice_accepted h in rw a.state (fresh_sound b own s a.lim a.known a.long)

  pub notice_start_says : (notice_start_of b own s).number ≡ 0
      → (notice_table (notice_start_of b own s).state ≡ without_longest b) × (notice_own (notice_start_of b own s).state ≡ own)
      × (heard_in (notice_start_of b own s).state ≡ unheard)
  notice_start_says h =
      let a = notice_accepted h in
      rw a.state (
        start_table b own s a.lim a.known a.long,
        start_own b own s a.lim a.known a.long,
        start_heard b own s a.lim a.known a.long,
      )
