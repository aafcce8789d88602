-- What a record that is taken leaves of a sound state is sound, whatever the path check says.
use mathlib.Core.Path.{◌≡◌, refl, sym, ap, ◌∙◌}
use Prim.Native.Nat.{ℕ, ◌+◌, ◌^◌, ◌≤◌, ◌<◌}
use mathlib.Core.List.{List}
use mathlib.Core.Bool.{Bool, true, false, not, ◌&&◌, ◌||◌}
use native.Mathlib.Omega.{arith}
use borrow.Author.Tests.{eqb-true, eqb-false, le-leb}
use lib.Bits.{bit_or}
use lib.Count.{ones}
use lib.Dec.{leb, eqb}
use lib.ListN.{length}
use Rattle.octets.specs.Bytes.{pick, put, two, two_at, same}
use Rattle.octets.specs.Sets.{has}
use Rattle.octets.proofs.Picks.{and_l, never, or_true}
use Rattle.table.specs.Table.{s_max}
use Rattle.table.specs.declared.Table.{Table}
use Rattle.table.proofs.Within.{within}
use Rattle.state.specs.State.{fixed_bytes, view_of, len_at, echo_at, vote_at, fragment_at}
use Rattle.state.specs.Sound.{usable_ok, length_ok, board_ok, flags_ok, naming, waits, waits_at, quiet}
use Rattle.state.specs.declared.Marks.{Marks}
use Rattle.octets.proofs.Members.{has_new, has_old, or_below, some_ext}
use Rattle.state.proofs.Facts.{Sounds}
use Rattle.state.proofs.First.{naming_ext, reaches_ext}
use Rattle.state.proofs.Tallies.{naming_other, naming_more, naming_out, reaches_more}
use Rattle.state.proofs.Views.{vote_new, vote_old, vote_echoes, vote_len, put_own, echo_new, echo_old, echo_votes, echoed_own, len_new, len_old}
use Rattle.board.specs.Stepped.{marked, vote_due, won, enough_usable, voted_now, output_now, ends_now, with_flags, settled_to}
use Rattle.board.proofs.Calm.{Change, calm, echo_roots_of, vote_roots_of}

or_not : (a b : Bool) → (not a || b) ≡ true → b ≡ false → a ≡ false
or_not true b e f = never (rw f at e)
or_not false b e f = refl

-- the flags stay in order
flags_kept : (output voted word d w n done : Bool) → done ≡ false → ((not output || voted) && (not done || output)) ≡ true
    → ((not (output || (word && ((voted || (word && d)) && w))) || (voted || (word && d)))
    && (not (done || (word && ((output || (word && ((voted || (word && d)) && w))) && (w && n)))) || (output || (word && ((voted || (word && d)) && w)))))
    ≡ true
flags_kept o v word d w n true e h = never (sym e)
flags_kept true true word d w n false e h = or_true (not (word && (w && n)))
flags_kept true false word d w n false e h = never h
flags_kept false v false d w n false e h = refl
flags_kept false true true d true n false e h = or_true (not n)
flags_kept false true true d false n false e h = refl
flags_kept false false true true true n false e h = or_true (not n)
flags_kept false false true true false n false e h = refl
flags_kept false false true false w n false e h = refl

-- a board's place once its echo is kept
board_new : (a e : Bool) (l max : ℕ) → e ≡ true → 1 ≤ l → l ≤ max → ((not a || e) && pick e (leb 1 l && leb l max) (eqb l 0)) ≡ true
unfolding pick
board_new a e l max t h k = rw (t, or_true (not a), le-leb 1 l h, le-leb l max k)

module _ (b : Table) (m0 : Marks) (s root : List ℕ) (i : ℕ) (old : Sounds (view_of b m0 s)) (long : fixed_bytes ≤ length s) (hi : i < b.n)
    (lr : length root ≡ 32) (open_yet : m0.done ≡ false) where
  few : b.n ≤ 64
  few = (within b old.lim).few

  place : i < 64
  place = omega (arith, few)

  -- ---- an echo

  module _ (f : ℕ) (fragment : List ℕ) (good : Bool) (lf : length fragment ≡ f) (one : 1 ≤ f) (hf : f ≤ s_max b) (small : f < 65536)
      (room : fragment_at (s_max b) i + f ≤ length s) (out : has m0.echoes i ≡ false) where
    abbrev s1 : List ℕ
    s1 = put (fragment_at (s_max b) i) fragment (put (len_at i) (two f) (put (echo_at i) root s))

    abbrev m1 : Marks
    m1 = marked 2 i good m0

    out_usable : has m0.usable i ≡ false
    unfolding board_ok usable_ok
    out_usable = or_not (has m0.usable i) (has m0.echoes i) (and_l (usable_ok (view_of b m0 s) i) _ (old.boards i place)) out

    root_new : echo_roots_of s1 i ≡ root
    root_new = echo_new (s_max b) i f root fragment s place lr lf hf small long room

    root_old : (j : ℕ) → j < b.n → (j ≡ i → ⊥) → echo_roots_of s1 j ≡ echo_roots_of s j
    root_old j h ne = echo_old (s_max b) i f root fragment s place lr lf hf small long room j (omega (arith, few)) ne

    votes_old : (j : ℕ) → j < b.n → vote_roots_of s1 j ≡ vote_roots_of s j
    votes_old j h = echo_votes (s_max b) i f root fragment s place lr lf hf small long room j (omega (arith, few))

    usable_naming : (c : Bool) (r : List ℕ) → same root r ≡ false
        → naming b.n (pick c (bit_or m0.usable (2 ^ i)) m0.usable) (echo_roots_of s1) r ≡ naming b.n m0.usable (echo_roots_of s) r
    unfolding pick
    usable_naming true r e = naming_other b.n m0.usable i root (echo_roots_of s) (echo_roots_of s1) out_usable root_new root_old r e
    usable_naming false r e = naming_out b.n m0.usable i (echo_roots_of s) (echo_roots_of s1) r out_usable root_old

    usable_lt : (c : Bool) → pick c (bit_or m0.usable (2 ^ i)) m0.usable < 2 ^ b.n
    unfolding pick
    usable_lt true = or_below b.n m0.usable i old.usable hi
    usable_lt false = old.usable

    usable_has : (c : Bool) (j : ℕ) → (j ≡ i → ⊥) → has (pick c (bit_or m0.usable (2 ^ i)) m0.usable) j ≡ has m0.usable j
    unfolding pick
    usable_has true j ne = has_old m0.usable i j ne
    usable_has false j ne = refl

    echo_change : Change b m0 m1 s s1 root
    unfolding marked pick
    echo_change = record {
      votes_none = λ q none n. reaches_ext b.n m0.votes (vote_roots_of s1) (vote_roots_of s) votes_old q ∙ none;
      echoes_none = λ q none n. reaches_more b.n m0.echoes i root (echo_roots_of s) (echo_roots_of s1) out root_new root_old q none n;
      votes_more = λ r. omega (arith, ap ones (naming_ext b.n m0.votes (vote_roots_of s1) (vote_roots_of s) votes_old r));
      usable_other = λ r e. usable_naming good r e;
      vote_kept = λ j h t. (t, votes_old j h);
    }

    echo_board : (j : ℕ) → j < 64 → board_ok (view_of b (settled_to b true m1 s1 root) s1) j ≡ true
    unfolding board_ok usable_ok length_ok settled_to with_flags marked has pick
    echo_board j h = go (eqb j i) refl
      where
        lens : (j ≡ i → ⊥) → two_at s1 (len_at j) ≡ two_at s (len_at j)
        lens ne = len_old (s_max b) i f root fragment s place lr lf hf small long room j h ne

        go : (c : Bool) → eqb j i ≡ c → board_ok (view_of b (settled_to b true m1 s1 root) s1) j ≡ true
        go true e =
            let z : j ≡ i = eqb-true j i e in
            let l : two_at s1 (len_at i) ≡ f = len_new (s_max b) i f root fragment s place lr lf hf small long room in
            rw (z, l) (board_new (has (pick good (bit_or m0.usable (2 ^ i)) m0.usable) i) (has (bit_or m0.echoes (2 ^ i)) i) f (s_max b) (has_new m0.echoes i) one hf)
        go false e =
            let z : (j ≡ i → ⊥) = eqb-false j i e in
            rw (has_old m0.echoes i j z, usable_has good j z, lens z) (old.boards j h)

    echo_flags : flags_ok (settled_to b true m1 s1 root) ≡ true
    unfolding flags_ok settled_to with_flags voted_now output_now ends_now marked
    echo_flags =
        flags_kept m0.output m0.voted true (vote_due b m1 s1 root) (won b m1 s1 root) (enough_usable b m1 s1 root) m0.done open_yet old.flags

    echo_calm : quiet (view_of b (settled_to b true m1 s1 root) s1) ≡ true
    unfolding marked quiet
    echo_calm = calm b m0 m1 s s1 root (within b old.lim) echo_change open_yet old.calm

    pub echo_sounds : Sounds (view_of b (settled_to b true m1 s1 root) s1)
    unfolding settled_to with_flags marked pick
    echo_sounds = record {
      lim = old.lim;
      own = rw (echoed_own (s_max b) i f root fragment s place lr lf hf small long room) old.own;
      echoes = or_below b.n m0.echoes i old.echoes hi;
      usable = usable_lt good;
      votes = old.votes;
      flags = echo_flags;
      boards = echo_board;
      calm = echo_calm;
    }

  -- ---- a vote

  module _ (good : Bool) (out : has m0.votes i ≡ false) where
    abbrev s3 : List ℕ
    s3 = put (vote_at i) root s

    abbrev m3 : Marks
    m3 = marked 3 i good m0

    voted_new : vote_roots_of s3 i ≡ root
    voted_new = vote_new i root s place lr long

    voted_old : (j : ℕ) → j < b.n → (j ≡ i → ⊥) → vote_roots_of s3 j ≡ vote_roots_of s j
    voted_old j h ne = vote_old i root s place lr long j ne

    echoes_old : (j : ℕ) → j < b.n → echo_roots_of s3 j ≡ echo_roots_of s j
    echoes_old j h = vote_echoes i root s place lr long j (omega (arith, few))

    vote_change : Change b m0 m3 s s3 root
    unfolding marked pick
    vote_change = record {
      votes_none = λ q none n. reaches_more b.n m0.votes i root (vote_roots_of s) (vote_roots_of s3) out voted_new voted_old q none n;
      echoes_none = λ q none n. reaches_ext b.n m0.echoes (echo_roots_of s3) (echo_roots_of s) echoes_old q ∙ none;
      votes_more = λ r. naming_more b.n m0.votes i root (vote_roots_of s) (vote_roots_of s3) out voted_new voted_old r;
      usable_other = λ r e. naming_ext b.n m0.usable (echo_roots_of s3) (echo_roots_of s) echoes_old r;
      vote_kept = λ j h t. let ne : (j ≡ i → ⊥) = λ z. apart j t z in (has_old m0.votes i j ne ∙ t, voted_old j h ne);
    }
      where
        apart : (j : ℕ) → has m0.votes j ≡ true → j ≡ i → ⊥
        apart j t z = let x : has m0.votes i ≡ true = rw z at t in let y : ◌≡◌ {A = ℕ} 0 1 = cc in omega arith

    vote_board : (j : ℕ) → j < 64 → board_ok (view_of b (settled_to b true m3 s3 root) s3) j ≡ true
    unfolding board_ok usable_ok length_ok settled_to with_flags marked pick
    vote_board j h = rw (vote_len i root s place lr long j h) (old.boards j h)

    vote_flags : flags_ok (settled_to b true m3 s3 root) ≡ true
    unfolding flags_ok settled_to with_flags voted_now output_now ends_now marked
    vote_flags =
        flags_kept m0.output m0.voted true (vote_due b m3 s3 root) (won b m3 s3 root) (enough_usable b m3 s3 root) m0.done open_yet old.flags

    vote_calm : quiet (view_of b (settled_to b true m3 s3 root) s3) ≡ true
    unfolding marked quiet
    vote_calm = calm b m0 m3 s s3 root (within b old.lim) vote_change open_yet old.calm

    pub vote_sounds : Sounds (view_of b (settled_to b true m3 s3 root) s3)
    unfolding settled_to with_flags marked pick
    vote_sounds = record {
      lim = old.lim;
      own = rw (put_own (vote_at i) root s (omega arith)) old.own;
      echoes = old.echoes;
      usable = old.usable;
      votes = or_below b.n m0.votes i old.votes hi;
      flags = vote_flags;
      boards = vote_board;
      calm = vote_calm;
    }

  -- ---- a send

  module _ (good : Bool) where
    abbrev m5 : Marks
    m5 = marked 1 i good m0

    send_board : (j : ℕ) → j < 64 → board_ok (view_of b (settled_to b false m5 s root) s) j ≡ true
    unfolding board_ok usable_ok length_ok settled_to with_flags marked pick
    send_board j h = old.boards j h

    send_flags : flags_ok (settled_to b false m5 s root) ≡ true
    unfolding flags_ok settled_to with_flags voted_now output_now ends_now marked
    send_flags =
        flags_kept m0.output m0.voted false (vote_due b m5 s root) (won b m5 s root) (enough_usable b m5 s root) m0.done open_yet old.flags

    send_waits : waits (view_of b (settled_to b false m5 s root) s) ≡ waits (view_of b m0 s)
    unfolding waits waits_at settled_to with_flags marked pick
    send_waits = some_ext (waits_at (view_of b (settled_to b false m5 s root) s)) (waits_at (view_of b m0 s)) 0 b.n (λ j h. refl)

    still : (o v d w x A B : Bool) → w ≡ x → pick (o || false) ((d || false) || w) (pick (v || false) A B) ≡ pick o (d || x) (pick v A B)
    unfolding pick
    still true v true w x A B e = refl
    still true v false w x A B e = e
    still false true d w x A B e = refl
    still false false d w x A B e = refl

    send_calm : quiet (view_of b (settled_to b false m5 s root) s) ≡ true
    unfolding quiet settled_to with_flags voted_now output_now ends_now marked pick
    send_calm = still m0.output m0.voted m0.done _ _ _ _ send_waits ∙ old.calm

    pub send_sounds : Sounds (view_of b (settled_to b false m5 s root) s)
    unfolding settled_to with_flags marked pick
    send_sounds = record {
      lim = old.lim;
      own = old.own;
      echoes = old.echoes;
      usable = old.usable;
      votes = old.votes;
      flags = send_flags;
      boards = send_board;
      calm = send_calm;
    }
