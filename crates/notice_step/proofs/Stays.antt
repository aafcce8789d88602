-- What a notice record that is taken leaves of a sound state is sound.
use mathlib.Core.Path.{◌≡◌, refl, sym, ap, ◌∙◌}
use Prim.Native.Nat.{ℕ, ◌-◌, ◌<◌}
use mathlib.Core.List.{List}
use mathlib.Core.Bool.{Bool, true, false, not, ◌&&◌, ◌||◌}
use mathlib.Core.Logic.{◌⊎◌, inl, inr}
use native.Mathlib.Omega.{arith}
use borrow.Author.Tests.{eqb-true, eqb-false, le-leb, not-true}
use lib.Dec.{leb, eqb}
use Rattle.octets.specs.Bytes.{pick}
use Rattle.octets.specs.Sets.{has}
use Rattle.octets.proofs.Members.{has_new, has_old}
use Rattle.octets.proofs.Picks.{and_l, and_r, never, or_true}
use Rattle.table.specs.Table.{most_of, some_of}
use Rattle.table.specs.declared.Table.{Table}
use Rattle.table.proofs.Within.{Within, within}
use Rattle.state.specs.Sound.{reaches}
use Rattle.state.proofs.First.{reaches_ext}
use Rattle.state.proofs.Tallies.{reaches_more, reaches_larger}
use Rattle.notice.specs.Form.{notice_most, notice_in}
use Rattle.notice.specs.State.{
  notice_table,
  heard_in,
  notice_view,
  notice_view_of,
  notice_len,
  notice_kept,
  heard_of,
  hearing,
  how_many,
  notice_due,
  notice_won,
  notice_settled,
}
use Rattle.notice.specs.Sound.{notice_length_ok, notice_quiet, notice_sound}
use Rattle.notice.specs.declared.Heard.{Heard}
use Rattle.notice.proofs.Kept.{Word, not_send, told_view}
use Rattle.notice.proofs.Sounds.{NoticeSounds, is_notice_sound, hears_new, hears_old}
use Rattle.notice_step.specs.Planned.{heard_again}
use Rattle.notice_step.specs.Step.{kept_notice, notice_leaves}
use Rattle.notice_step.proofs.Taken.{NoticeTaken, taken_whole, taken_sounds, taken_sort}
use Rattle.notice_step.proofs.Leaves.{
  kept_send,
  kept_length,
  kept_table,
  kept_own,
  noted_len,
  noted_kept,
  other_len,
  other_kept,
  heard_after,
  after_within,
  after_fit,
}

-- The flags: before they say that nothing is overdue; de, dv: n-t echoes, t+1 votes are for the notice just taken; w: n-t votes are. rv0, re0, rs0
-- say whether some notice has n-t votes, n-t echoes, t+1 votes before, rv1, re1, rs1 after.
quiet_flags : (done voted de dv w rv0 re0 rs0 rv1 re1 rs1 : Bool) → done ≡ false
    → (done || pick voted (not rv0) (not re0 && not rs0)) ≡ true
    → (rs0 ≡ false → rv0 ≡ false)
    → (rv0 ≡ false → w ≡ false → rv1 ≡ false)
    → (re0 ≡ false → de ≡ false → re1 ≡ false)
    → (rs0 ≡ false → dv ≡ false → rs1 ≡ false)
    → ((done || (true && ((voted || (true && (de || dv))) && w))) || pick (voted || (true && (de || dv))) (not rv1) (not re1 && not rs1)) ≡ true
unfolding pick
quiet_flags true voted de dv w rv0 re0 rs0 rv1 re1 rs1 d h l e f g = never (sym d)
quiet_flags false true de dv true rv0 re0 rs0 rv1 re1 rs1 d h l e f g = refl
quiet_flags false true de dv false rv0 re0 rs0 rv1 re1 rs1 d h l e f g = ap not (e (not-true rv0 h) refl)
quiet_flags false false true dv true rv0 re0 rs0 rv1 re1 rs1 d h l e f g = refl
quiet_flags false false true dv false rv0 re0 rs0 rv1 re1 rs1 d h l e f g = ap not (e (l (not-true rs0 (and_r (not re0) (not rs0) h))) refl)
quiet_flags false false false true true rv0 re0 rs0 rv1 re1 rs1 d h l e f g = refl
quiet_flags false false false true false rv0 re0 rs0 rv1 re1 rs1 d h l e f g = ap not (e (l (not-true rs0 (and_r (not re0) (not rs0) h))) refl)
quiet_flags false false false false w rv0 re0 rs0 rv1 re1 rs1 d h l e f g =
    let p : re1 ≡ false = f (not-true re0 (and_l (not re0) (not rs0) h)) refl in
    let q : rs1 ≡ false = g (not-true rs0 (and_r (not re0) (not rs0) h)) refl in
    rw (p, q)

-- a send leaves both flags
still : (done voted x y : Bool) → ((done || false) || pick (voted || false) x y) ≡ (done || pick voted x y)
unfolding pick
still true voted x y = refl
still false true x y = refl
still false false x y = refl

-- done implies voted
in_order : (done voted word due w : Bool) → done ≡ false → (not (done || (word && ((voted || (word && due)) && w))) || (voted || (word && due))) ≡ true
in_order true voted word due w e = never (sym e)
in_order false true word due w e = or_true (not (word && w))
in_order false false true true w e = or_true (not w)
in_order false false true false w e = refl
in_order false false false due w e = refl

module _ {s : List ℕ} {from : ℕ} {r o d : List ℕ} {k f : ℕ} (t : NoticeTaken s from r o d k f) where
  abbrev i : ℕ
  i = from - 1

  abbrev v : List ℕ
  v = notice_in f r

  abbrev b : Table
  b = notice_table s

  abbrev m0 : Heard
  m0 = heard_in s

  abbrev m1 : Heard
  m1 = hearing k i m0

  abbrev s1 : List ℕ
  s1 = kept_notice k i f r s

  old : NoticeSounds (notice_view s)
  old = taken_sounds t

  limited : Within b
  limited = within b old.lim

  unheard : Word k → has (heard_of k m0) i ≡ false
  unfolding heard_again pick
  unheard w = rw (not_send k w) at t.allowed.again

  -- if no notice had q echoes (l is 2) or votes (3), and the one just taken has not, none has
  none_yet : Word k → (l : ℕ) → Word l → (q : ℕ) → reaches b.n q (heard_of l m0) (notice_kept s l) ≡ false
      → leb q (how_many b m1 (notice_kept s1) l v) ≡ false → reaches b.n q (heard_of l m1) (notice_kept s1 l) ≡ false
  none_yet w l u q none few = go (eqb l k) refl
    where
      go : (c : Bool) → eqb l k ≡ c → reaches b.n q (heard_of l m1) (notice_kept s1 l) ≡ false
      go true e =
          let z : l ≡ k = eqb-true l k e in
          let none' : reaches b.n q (heard_of k m0) (notice_kept s k) ≡ false = rw z at none in
          let few' : leb q (how_many b m1 (notice_kept s1) k v) ≡ false = rw z at few in
          rw (z, hears_new k i m0 w)
          (reaches_more b.n (heard_of k m0) i v (notice_kept s k) (notice_kept s1 k) (unheard w) (noted_kept t w)
          (λ j h ne. other_kept t k j w (omega (arith, limited.few)) (λ _. ne)) q none' (rw (hears_new k i m0 w) at few'))
      go false e =
          let ne : (l ≡ k → ⊥) = eqb-false l k e in
          rw (hears_old k i m0 l u ne)
          (reaches_ext b.n (heard_of l m0) (notice_kept s1 l) (notice_kept s l)
          (λ j h. other_kept t l j u (omega (arith, limited.few)) (λ p _. ne p)) q ∙ none)

  word_calm : Word k → notice_quiet (notice_view_of b (notice_settled b true m1 (notice_kept s1) v) s1) ≡ true
  unfolding notice_quiet notice_settled notice_due notice_won hearing pick
  word_calm w =
      quiet_flags m0.done m0.voted (leb (most_of b) (how_many b m1 (notice_kept s1) 2 v)) (leb (some_of b) (how_many b m1 (notice_kept s1) 3 v))
      (leb (most_of b) (how_many b m1 (notice_kept s1) 3 v)) (reaches b.n (most_of b) m0.votes (notice_kept s 3))
      (reaches b.n (most_of b) m0.echoes (notice_kept s 2)) (reaches b.n (some_of b) m0.votes (notice_kept s 3))
      (reaches b.n (most_of b) m1.votes (notice_kept s1 3)) (reaches b.n (most_of b) m1.echoes (notice_kept s1 2))
      (reaches b.n (some_of b) m1.votes (notice_kept s1 3)) t.allowed.not_done old.calm
      (reaches_larger b.n (some_of b) (most_of b) m0.votes (notice_kept s 3) (omega (arith, limited.third)))
      (none_yet w 3 (inr refl) (most_of b)) (none_yet w 2 (inl refl) (most_of b)) (none_yet w 3 (inr refl) (some_of b))

  send_calm : k ≡ 1 → notice_quiet (notice_view_of b (notice_settled b false m1 (notice_kept s1) v) s1) ≡ true
  unfolding notice_quiet notice_settled hearing pick
  send_calm e =
      rw (kept_send t e, e)
      (still m0.done m0.voted (not (reaches b.n (most_of b) m0.votes (notice_kept s 3)))
      (not (reaches b.n (most_of b) m0.echoes (notice_kept s 2)) && not (reaches b.n (some_of b) m0.votes (notice_kept s 3))) ∙ old.calm)

  after_calm : notice_quiet (notice_view_of b (heard_after t) s1) ≡ true
  after_calm = go (taken_sort t)
    where
      go : (k ≡ 1) ⊎ Word k → notice_quiet (notice_view_of b (heard_after t) s1) ≡ true
      go (inl e) = let z : eqb k 1 ≡ true = rw e in rw z (send_calm e)
      go (inr w) = rw (not_send k w) (word_calm w)

  after_lengths : (l j : ℕ) → Word l → j < 64 → notice_length_ok (notice_view_of b (heard_after t) s1) l j ≡ true
  unfolding notice_length_ok notice_settled pick
  after_lengths l j u h = go (eqb l k) refl
    where
      other : (l ≡ k → j ≡ i → ⊥) → has (heard_of l m1) j ≡ has (heard_of l m0) j
          → pick (has (heard_of l m1) j) (leb (notice_len s1 l j) notice_most) (eqb (notice_len s1 l j) 0) ≡ true
      other ne e = rw (other_len t l j u h ne, e) (old.lengths l j u h)

      place : l ≡ k → (c : Bool) → eqb j i ≡ c → pick (has (heard_of l m1) j) (leb (notice_len s1 l j) notice_most) (eqb (notice_len s1 l j) 0) ≡ true
      place z true q =
          let w : Word k = rw z at u in
          let y : j ≡ i = eqb-true j i q in
          rw (z, y, hears_new k i m0 w, has_new (heard_of k m0) i, noted_len t w) (le-leb f notice_most (taken_whole t).most)
      place z false q =
          let w : Word k = rw z at u in
          let ne : (j ≡ i → ⊥) = eqb-false j i q in
          other (λ _. ne) (rw (z, hears_new k i m0 w, has_old (heard_of k m0) i j ne))

      go : (c : Bool) → eqb l k ≡ c → pick (has (heard_of l m1) j) (leb (notice_len s1 l j) notice_most) (eqb (notice_len s1 l j) 0) ≡ true
      go true e = place (eqb-true l k e) (eqb j i) refl
      go false e = let ne : (l ≡ k → ⊥) = eqb-false l k e in other (λ p _. ne p) (rw (hears_old k i m0 l u ne))

  -- what was heard is sound with the notices kept
  pub after_sounds : NoticeSounds (notice_view_of b (heard_after t) s1)
  unfolding notice_settled hearing
  after_sounds = record {
    lim = old.lim;
    own = rw (kept_own t) old.own;
    heard = after_within t;
    flags =
        in_order m0.done m0.voted (not (eqb k 1)) (notice_due b m1 (notice_kept s1) v) (notice_won b m1 (notice_kept s1) v) t.allowed.not_done;
    lengths = after_lengths;
    calm = after_calm;
  }

  -- "whatever state .. a step leaves is sound"
  pub leaves_sound : notice_sound (notice_view (notice_leaves k f from r s)) ≡ true
  unfolding notice_leaves
  leaves_sound =
      rw (told_view (heard_after t) s1 (rw (kept_length t) t.long) (after_fit t), kept_table t)
      (is_notice_sound (notice_view_of b (heard_after t) s1) after_sounds)
