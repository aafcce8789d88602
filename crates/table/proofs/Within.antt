-- What a table within its limits gives, as orders.
use mathlib.Core.Path.{◌≡◌, ap}
use Prim.Native.Nat.{ℕ, ◌+◌, ◌-◌, ◌*◌, ◌/◌, ◌≤◌, ◌<◌}
use mathlib.Core.Bool.{true}
use borrow.Author.Tests.{leb-true, ltb-true}
use lib.Dec.{leb, ltb}
use native.Mathlib.Nat.{mul-le-mul, le-mul_of_pos_right, div-lt_iff_lt-mul, suc-mul}
use native.Mathlib.Numerals.{add-one}
use native.Mathlib.Omega.{arith}
use Rattle.octets.proofs.Picks.{and_l, and_r}
use Rattle.table.specs.Table.{limits, is_board, k_of, s_max}
use Rattle.table.specs.declared.Table.{Table}

-- a table within its limits
pub record Within (b : Table) : Type 0 where
  pub one : 1 ≤ b.n
  pub few : b.n ≤ 64
  pub third : 3 * b.t < b.n
  pub sender_one : 1 ≤ b.sender
  pub sender_few : b.sender ≤ b.n
  pub short : b.longest ≤ 16384

pub within : (b : Table) → limits b ≡ true → Within b
unfolding limits
within b h =
    let h1 = and_r (leb 1 b.n) _ h in
    let h2 = and_r (leb b.n 64) _ h1 in
    let h3 = and_r (ltb (3 * b.t) b.n) _ h2 in
    let h4 = and_r (leb 1 b.sender) _ h3 in
    let h5 = and_r (leb b.sender b.n) _ h4 in
    record {
      one = leb-true _ _ (and_l _ _ h);
      few = leb-true _ _ (and_l _ _ h1);
      third = ltb-true _ _ (and_l _ _ h2);
      sender_one = leb-true _ _ (and_l _ _ h3);
      sender_few = leb-true _ _ (and_l _ _ h4);
      short = leb-true _ _ h5;
    }

-- a board's number is from 1 to n
pub board_number : (b : Table) (i : ℕ) → is_board b i ≡ true → (1 ≤ i) × (i ≤ b.n)
unfolding is_board
board_number b i h = (leb-true 1 i (and_l (leb 1 i) _ h), leb-true i b.n (and_r (leb 1 i) _ h))

-- a quotient rounded up is at most what is divided
pub ceil_le : (x k : ℕ) → 0 < k → (x + (k - 1)) / k ≤ x
ceil_le x k h =
    let p : x ≤ x * k = le-mul_of_pos_right x h in
    let q : (x + (k - 1)) / k < x + 1 = (div-lt_iff_lt-mul h).1 (omega (arith, suc-mul x k, ap (λ (y : ℕ). y * k) (add-one x))) in
    omega arith

-- k is from 1 to 64
pub k_pos : (b : Table) → Within b → 0 < k_of b
k_pos b w = omega (arith, w.third)

pub k_few : (b : Table) → Within b → k_of b ≤ 64
k_few b w = omega (arith, w.few)

-- a fragment has at most 16,388 bytes
pub s_max_le : (b : Table) → Within b → s_max b ≤ 16388
unfolding s_max
s_max_le b w = omega (arith, w.short, ceil_le (b.longest + 4) (k_of b) (k_pos b w))

-- all fragments fit into 64 times that
pub room_le : (n m : ℕ) → n ≤ 64 → m ≤ 16388 → n * m ≤ 1048832
room_le n m h k = mul-le-mul h k
