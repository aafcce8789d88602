-- What a sound state gives, and what makes one.
use mathlib.Core.Path.{◌≡◌}
use Prim.Native.Nat.{ℕ, ◌/◌, ◌^◌, ◌<◌}
use mathlib.Core.Bool.{true}
use native.Mathlib.Omega.{arith}
use lib.Dec.{eqb}
use Rattle.octets.specs.Sets.{every}
use Rattle.octets.proofs.Picks.{and_l, and_r}
use Rattle.octets.proofs.SetLaws.{every_at}
use Rattle.table.specs.Table.{limits, is_board}
use Rattle.state.specs.State.{State}
use Rattle.state.specs.Sound.{sets_ok, flags_ok, board_ok, quiet, sound}
use Rattle.octets.proofs.Members.{every_all, below_lt, lt_below}

-- a sound state's table is within its limits
pub sound_limits : (v : State) → sound v ≡ true → limits v.table ≡ true
unfolding sound
sound_limits v h = and_l (limits v.table) _ h

-- the list of a sound state
pub record Sounds (v : State) : Type 0 where
  pub lim : limits v.table ≡ true
  pub own : is_board v.table v.own ≡ true
  pub echoes : v.marks.echoes < 2 ^ v.table.n
  pub usable : v.marks.usable < 2 ^ v.table.n
  pub votes : v.marks.votes < 2 ^ v.table.n
  pub flags : flags_ok v.marks ≡ true
  pub boards : (i : ℕ) → i < 64 → board_ok v i ≡ true
  pub calm : quiet v ≡ true

pub sounds : (v : State) → sound v ≡ true → Sounds v
unfolding sound sets_ok
sounds v h =
    let n = v.table.n in
    let m = v.marks in
    let h1 = and_r (limits v.table) _ h in
    let h2 = and_r (is_board v.table v.own) _ h1 in
    let q = and_l (sets_ok v.table m) _ h2 in
    let h3 = and_r (sets_ok v.table m) _ h2 in
    let h4 = and_r (flags_ok m) _ h3 in
    let q1 = and_r (eqb (m.echoes / 2 ^ n) 0) _ q in
    record {
      lim = and_l _ _ h;
      own = and_l _ _ h1;
      echoes = below_lt m.echoes n (and_l (eqb (m.echoes / 2 ^ n) 0) _ q);
      usable = below_lt m.usable n (and_l (eqb (m.usable / 2 ^ n) 0) _ q1);
      votes = below_lt m.votes n (and_r (eqb (m.usable / 2 ^ n) 0) _ q1);
      flags = and_l _ _ h3;
      boards = λ i l. every_at (board_ok v) 0 64 (and_l (every (board_ok v) 0 64) _ h4) i (omega arith) (omega arith);
      calm = and_r (every (board_ok v) 0 64) _ h4;
    }

pub is_sound : (v : State) → Sounds v → sound v ≡ true
unfolding sound sets_ok
is_sound v f =
    let n = v.table.n in
    let m = v.marks in
    rw (
      f.lim,
      f.own,
      lt_below m.echoes n f.echoes,
      lt_below m.usable n f.usable,
      lt_below m.votes n f.votes,
      f.flags,
      every_all (board_ok v) 0 64 (λ i l. f.boards i (omega arith)),
      f.calm,
    )
