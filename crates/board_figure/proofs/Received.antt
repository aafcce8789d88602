-- A board's bytes once a record is kept show figure 5's party once the message is received; and the marks' write shows the marks.
use mathlib.Core.Path.{◌≡◌, refl, ap}
use Prim.Native.Nat.{ℕ, suc, ◌+◌, ◌^◌, ◌≤◌, ◌<◌}
use mathlib.Core.List.{List}
use mathlib.Core.Bool.{Bool, true, false, not, ◌&&◌, ◌||◌}
use mathlib.Core.Option.{none}
use native.Mathlib.Omega.{arith}
use borrow.Author.Tests.{leb-true}
use lib.Bits.{bit_or}
use lib.Dec.{leb, eqb}
use lib.ListN.{length}
use Rattle.octets.specs.Bytes.{pick, part, put, two, two_at}
use Rattle.octets.specs.Sets.{has}
use Rattle.octets.proofs.Picks.{and_r, or_true, or_false, never}
use Rattle.table.specs.Table.{s_max}
use Rattle.table.specs.declared.Table.{Table}
use Rattle.table.proofs.Within.{within}
use Rattle.state.specs.State.{fixed_bytes, view_of, table_of, marks_bytes, len_at, echo_at, vote_at, fragment_at}
use Rattle.state.specs.Sound.{usable_ok, length_ok, board_ok}
use Rattle.state.specs.declared.Marks.{Marks}
use Rattle.octets.proofs.Members.{has_new, has_old, has_low}
use Rattle.state.proofs.Facts.{Sounds}
use Rattle.state.proofs.Writes.{Fit, table_kept, rest_kept, fragment_kept, marks_back}
use Rattle.state.proofs.Views.{vote_new, vote_old, vote_echoes, vote_len, vote_fragment, echo_new, echo_old, echo_votes, fragment_new, fragment_old}
use Rattle.board.specs.Stepped.{marked}
use Rattle.figure.specs.Received.{noted, shown}
use Rattle.figure.proofs.Noting.{shown_same, shown_more}
use Rattle.board_figure.specs.Figure.{Piece, echo, vote, Echo, correct, receive, acquire}
use Rattle.board_figure.specs.Shown.{kept_echo, kept_vote, figure_in, figure_of}
use Rattle.board_figure.proofs.Seen.{heard}

-- the length kept of an echo that was heard is at most s_max
kept_short : (u e : Bool) (l max : ℕ) → ((not u || e) && pick e (leb 1 l && leb l max) (eqb l 0)) ≡ true → e ≡ true → l ≤ max
unfolding pick
kept_short u true l max h g = leb-true l max (and_r (leb 1 l) (leb l max) (and_r (not u || true) (leb 1 l && leb l max) h))
kept_short u false l max h g = never g

module _ (b : Table) (m0 : Marks) (s : List ℕ) (i : ℕ) (old : Sounds (view_of b m0 s)) (long : fixed_bytes ≤ length s) (hi : i < b.n) where
  few : b.n ≤ 64
  few = (within b old.lim).few

  place : i < 64
  place = omega (arith, few)

  echo_low : (j : ℕ) → has m0.echoes j ≡ true → j < 64
  echo_low j e = omega (arith, few, has_low b.n m0.echoes j old.echoes e)

  vote_low : (j : ℕ) → has m0.votes j ≡ true → j < 64
  vote_low j e = omega (arith, few, has_low b.n m0.votes j old.votes e)

  short : (j : ℕ) → has m0.echoes j ≡ true → two_at s (len_at j) ≤ s_max b
  unfolding board_ok usable_ok length_ok
  short j e = kept_short (has m0.usable j) (has m0.echoes j) (two_at s (len_at j)) (s_max b) (old.boards j (echo_low j e)) e

  -- ---- an echo

  module _ (p : Piece) (f : ℕ) (lr : length p.root ≡ 32) (lf : length p.fragment ≡ f) (hf : f ≤ s_max b) (small : f < 65536)
      (room : fragment_at (s_max b) i + f ≤ length s) (out : has m0.echoes i ≡ false) where
    abbrev s1 : List ℕ
    s1 = put (fragment_at (s_max b) i) p.fragment (put (len_at i) (two f) (put (echo_at i) p.root s))

    abbrev good : Bool
    good = correct b (suc i) p

    abbrev usable1 : ℕ
    usable1 = pick good (bit_or m0.usable (2 ^ i)) m0.usable

    usable_out : (c : Bool) → has m0.usable i ≡ c → c ≡ false
    usable_out true e = never (rw out at (heard b m0 s old i hi e))
    usable_out false e = refl

    usable_new : (c : Bool) → has (pick c (bit_or m0.usable (2 ^ i)) m0.usable) i ≡ c
    unfolding pick
    usable_new true = has_new m0.usable i
    usable_new false = usable_out (has m0.usable i) refl

    usable_old : (c : Bool) (j : ℕ) → (j ≡ i → ⊥) → has (pick c (bit_or m0.usable (2 ^ i)) m0.usable) j ≡ has m0.usable j
    unfolding pick
    usable_old true j ne = has_old m0.usable i j ne
    usable_old false j ne = refl

    abbrev received : Echo
    received = record { root = p.root; fragment = p.fragment; usable = good }

    echo_here : kept_echo (s_max b) usable1 s1 i ≡ received
    echo_here =
        rw (
          usable_new good,
          echo_new (s_max b) i f p.root p.fragment s place lr lf hf small long room,
          fragment_new (s_max b) i f p.root p.fragment s place lr lf hf small long room,
        )

    echo_others : (j : ℕ) → (j ≡ i → ⊥) → has m0.echoes j ≡ true → kept_echo (s_max b) usable1 s1 j ≡ kept_echo (s_max b) m0.usable s j
    echo_others j ne e =
        let l = echo_low j e in
        rw (
          usable_old good j ne,
          echo_old (s_max b) i f p.root p.fragment s place lr lf hf small long room j l ne,
          fragment_old (s_max b) i f p.root p.fragment s place lr lf hf small long room j l ne (short j e),
        )

    echoes_more : (k : ℕ) → shown (bit_or m0.echoes (2 ^ i)) (kept_echo (s_max b) usable1 s1) k
        ≡ noted (suc i) received (shown m0.echoes (kept_echo (s_max b) m0.usable s)) k
    echoes_more = shown_more m0.echoes i (kept_echo (s_max b) m0.usable s) (kept_echo (s_max b) usable1 s1) received out echo_here echo_others

    votes_stay : (k : ℕ) → shown m0.votes (kept_vote s1) k ≡ shown m0.votes (kept_vote s) k
    votes_stay =
        shown_same m0.votes (kept_vote s1) (kept_vote s)
        (λ j e. echo_votes (s_max b) i f p.root p.fragment s place lr lf hf small long room j (vote_low j e))

    pub echo_received : figure_in b (marked 2 i (correct b (suc i) p) m0) s1 ≡ receive b (suc i) (echo p) (figure_in b m0 s)
    unfolding marked receive pick
    echo_received = λ j. record {
      acquired = or_false m0.acquired j;
      voted = m0.voted;
      output = m0.output;
      done = m0.done;
      sent = none;
      echo_of = λ k. echoes_more k j;
      vote_of = λ k. votes_stay k j;
    }

  -- ---- a vote

  module _ (root : List ℕ) (ok : Bool) (lr : length root ≡ 32) (out : has m0.votes i ≡ false) where
    abbrev s3 : List ℕ
    s3 = put (vote_at i) root s

    votes_more : (k : ℕ) → shown (bit_or m0.votes (2 ^ i)) (kept_vote s3) k ≡ noted (suc i) root (shown m0.votes (kept_vote s)) k
    votes_more = shown_more m0.votes i (kept_vote s) (kept_vote s3) root out (vote_new i root s place lr long) (λ j ne e. vote_old i root s place lr long j ne)

    echoes_stay : (k : ℕ) → shown m0.echoes (kept_echo (s_max b) m0.usable s3) k ≡ shown m0.echoes (kept_echo (s_max b) m0.usable s) k
    echoes_stay =
        shown_same m0.echoes (kept_echo (s_max b) m0.usable s3) (kept_echo (s_max b) m0.usable s)
        (λ j e.
        let l = echo_low j e in
        rw (
          vote_echoes i root s place lr long j l,
          vote_len i root s place lr long j l,
          vote_fragment i root s place lr long (fragment_at (s_max b) j) (two_at s (len_at j)) (omega arith),
        ))

    pub vote_received : figure_in b (marked 3 i ok m0) s3 ≡ receive b (suc i) (vote root) (figure_in b m0 s)
    unfolding marked receive pick
    vote_received = λ j. record {
      acquired = or_false m0.acquired j;
      voted = m0.voted;
      output = m0.output;
      done = m0.done;
      sent = none;
      echo_of = λ k. echoes_stay k j;
      vote_of = λ k. votes_more k j;
    }

-- ---- a send, acted on

pub send_acquired : (b : Table) (m0 : Marks) (s : List ℕ) (i : ℕ) (ok : Bool) → figure_in b (marked 1 i ok m0) s ≡ acquire (figure_in b m0 s)
unfolding marked pick
send_acquired b m0 s i ok = λ j. record {
  acquired = or_true m0.acquired j;
  voted = m0.voted;
  output = m0.output;
  done = m0.done;
  sent = none;
  echo_of = (figure_in b m0 s).echo_of;
  vote_of = (figure_in b m0 s).vote_of;
}

-- ---- the marks' write

module _ (m : Marks) (s : List ℕ) (max : ℕ) where
  abbrev s2 : List ℕ
  s2 = put 6 (marks_bytes m) s

  echoes_kept : (b : Table) (k : ℕ) → shown m.echoes (kept_echo max m.usable s2) k ≡ shown m.echoes (kept_echo max m.usable s) k
  echoes_kept b =
      shown_same m.echoes (kept_echo max m.usable s2) (kept_echo max m.usable s)
      (λ i e.
      let root : part (echo_at i) 32 s2 ≡ part (echo_at i) 32 s = ap (λ v. v.echo_root i) (rest_kept m s b m) in
      let len : two_at s2 (len_at i) ≡ two_at s (len_at i) = ap (λ v. v.len i) (rest_kept m s b m) in
      rw (root, len, fragment_kept m s (fragment_at max i) (two_at s (len_at i)) (omega arith)))

  votes_kept : (b : Table) (k : ℕ) → shown m.votes (kept_vote s2) k ≡ shown m.votes (kept_vote s) k
  votes_kept b = shown_same m.votes (kept_vote s2) (kept_vote s) (λ i e. ap (λ v. v.vote_root i) (rest_kept m s b m))

pub figure_marks : (m : Marks) (s : List ℕ) → fixed_bytes ≤ length s → Fit m → figure_of (put 6 (marks_bytes m) s) ≡ figure_in (table_of s) m s
figure_marks m s h f =
    rw (table_kept m s, marks_back m s h f)
    (λ j. record {
      acquired = m.acquired;
      voted = m.voted;
      output = m.output;
      done = m.done;
      sent = none;
      echo_of = λ k. echoes_kept m s (s_max (table_of s)) (table_of s) k j;
      vote_of = λ k. votes_kept m s (s_max (table_of s)) (table_of s) k j;
    })
