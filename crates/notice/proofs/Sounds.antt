-- What a sound notice state gives, and what makes one; and which boards are heard once a record is taken. One law for echoes and votes.
use mathlib.Core.Path.{◌≡◌, refl}
use Prim.Native.Nat.{ℕ, ◌/◌, ◌^◌, ◌≤◌, ◌<◌}
use mathlib.Core.List.{List}
use mathlib.Core.Bool.{Bool, true, false, not, ◌||◌}
use mathlib.Core.Logic.{inl, inr}
use native.Mathlib.Omega.{arith}
use native.Mathlib.Nat.{lt_of_lt_of_le}
use borrow.Author.Tests.{leb-true, eqb-true, ne_eqb}
use lib.Bits.{bit_or}
use lib.Dec.{leb, eqb}
use lib.Pow.{pow_mono}
use Rattle.octets.specs.Bytes.{pick}
use Rattle.octets.specs.Sets.{has, every}
use Rattle.octets.proofs.Members.{every_all, below_lt, lt_below}
use Rattle.octets.proofs.Picks.{and_l, and_r, and_on}
use Rattle.octets.proofs.SetLaws.{every_at}
use Rattle.table.specs.Table.{limits, is_board}
use Rattle.table.specs.declared.Table.{Table}
use Rattle.notice.specs.Form.{notice_most}
use Rattle.notice.specs.State.{NoticeState, heard_of, hearing, notice_settled}
use Rattle.notice.specs.Sound.{heard_within, notice_length_ok, notice_board_ok, notice_quiet, notice_sound}
use Rattle.notice.specs.declared.Heard.{Heard}
use Rattle.notice.proofs.Kept.{Word, HeardFit}

-- the list of a sound state
pub record NoticeSounds (v : NoticeState) : Type 0 where
  pub lim : limits v.table ≡ true
  pub own : is_board v.table v.own ≡ true
  pub heard : (k : ℕ) → Word k → heard_of k v.heard < 2 ^ v.table.n
  pub flags : (not v.heard.done || v.heard.voted) ≡ true
  pub lengths : (k i : ℕ) → Word k → i < 64 → notice_length_ok v k i ≡ true
  pub calm : notice_quiet v ≡ true

-- what holds of echoes and of votes
pub by_word : (P : ℕ → Type 0) → P 2 → P 3 → (k : ℕ) → Word k → P k
by_word P e v k (inl q) = rw q e
by_word P e v k (inr q) = rw q v

pub notice_sounds : (v : NoticeState) → notice_sound v ≡ true → NoticeSounds v
unfolding notice_sound heard_within notice_board_ok pick
notice_sounds v h =
    let n = v.table.n in
    let m = v.heard in
    let h1 = and_r (limits v.table) _ h in
    let h2 = and_r (is_board v.table v.own) _ h1 in
    let q = and_l (heard_within v.table m) _ h2 in
    let h3 = and_r (heard_within v.table m) _ h2 in
    let h4 = and_r (not m.done || m.voted) _ h3 in
    let boards : (i : ℕ) → i < 64 → notice_board_ok v i ≡ true =
    λ i l. every_at (notice_board_ok v) 0 64 (and_l (every (notice_board_ok v) 0 64) _ h4) i (omega arith) (omega arith) in
    record {
      lim = and_l _ _ h;
      own = and_l _ _ h1;
      heard =
          by_word (λ k. heard_of k m < 2 ^ n) (below_lt m.echoes n (and_l (eqb (m.echoes / 2 ^ n) 0) _ q))
          (below_lt m.votes n (and_r (eqb (m.echoes / 2 ^ n) 0) _ q));
      flags = and_l _ _ h3;
      lengths = λ k i w l.
          by_word (λ k. notice_length_ok v k i ≡ true) (and_l (notice_length_ok v 2 i) _ (boards i l)) (and_r (notice_length_ok v 2 i) _ (boards i l)) k w;
      calm = and_r (every (notice_board_ok v) 0 64) _ h4;
    }

pub is_notice_sound : (v : NoticeState) → NoticeSounds v → notice_sound v ≡ true
unfolding notice_sound heard_within notice_board_ok pick
is_notice_sound v f =
    let n = v.table.n in
    let m = v.heard in
    rw (
      f.lim,
      f.own,
      lt_below m.echoes n (f.heard 2 (inl refl)),
      lt_below m.votes n (f.heard 3 (inr refl)),
      f.flags,
      every_all (notice_board_ok v) 0 64
          (λ i l. and_on (notice_length_ok v 2 i) (notice_length_ok v 3 i) (f.lengths 2 i (inl refl) (omega arith)) (f.lengths 3 i (inr refl) (omega arith))),
      f.calm,
    )

-- sets of at most 64 boards have 64 bits
pub heard_fit : (n : ℕ) (m : Heard) → n ≤ 64 → ((k : ℕ) → Word k → heard_of k m < 2 ^ n) → HeardFit m
unfolding pick
heard_fit n m few h =
    record { echoes = lt_of_lt_of_le (h 2 (inl refl)) (pow_mono {j = 64} few); votes = lt_of_lt_of_le (h 3 (inr refl)) (pow_mono {j = 64} few) }

module _ (v : NoticeState) (f : NoticeSounds v) where
  -- a kept notice has at most 64 bytes
  pub notice_short : (k i : ℕ) → Word k → i < 64 → v.len k i ≤ notice_most
  unfolding notice_length_ok pick
  notice_short k i w h = go (has (heard_of k v.heard) i) (f.lengths k i w h)
    where
      go : (c : Bool) → pick c (leb (v.len k i) notice_most) (eqb (v.len k i) 0) ≡ true → v.len k i ≤ notice_most
      go true e = leb-true (v.len k i) notice_most e
      go false e = omega (arith, eqb-true (v.len k i) 0 e)

-- ---- the boards heard

module _ (k i : ℕ) (m : Heard) where
  -- once an echo or a vote from board i + 1 is taken it is heard
  pub hears_new : Word k → heard_of k (hearing k i m) ≡ bit_or (heard_of k m) (2 ^ i)
  unfolding hearing pick
  hears_new (inl e) = rw e
  hears_new (inr e) = rw e

  -- the boards heard of the other sort stay
  pub hears_old : (l : ℕ) → Word l → (l ≡ k → ⊥) → heard_of l (hearing k i m) ≡ heard_of l m
  unfolding hearing pick
  hears_old l (inl e) ne = rw (e, ne_eqb k 2 (λ q. ne (rw (e, q))))
  hears_old l (inr e) ne = rw (e, ne_eqb k 3 (λ q. ne (rw (e, q))))

-- what is then due changes no set
pub settled_hears : (b : Table) (word : Bool) (m : Heard) (kept : ℕ → ℕ → List ℕ) (v : List ℕ) (k : ℕ)
    → heard_of k (notice_settled b word m kept v) ≡ heard_of k m
unfolding notice_settled
settled_hears b word m kept v k = refl
