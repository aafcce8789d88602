-- A record's kind byte decides how it is read.
use mathlib.Core.Path.{◌≡◌}
use Prim.Native.Nat.{ℕ, ◌≤◌, ◌<◌}
use mathlib.Core.List.{List}
use mathlib.Core.Bool.{true}
use native.Mathlib.Omega.{arith}
use borrow.Author.Tests.{le-leb, lt-leb}
use lib.ListN.{length, get_or}
use lib.Dec.{leb}
use Rattle.octets.specs.Bytes.{pick}
use Rattle.octets.proofs.Picks.{and_on, and_off_l, and_off_r}
use Rattle.record.specs.Form.{Fault, parse, parse_root, is_kind}

pub kind_in : (k : ℕ) → 1 ≤ k → k ≤ 3 → is_kind k ≡ true
unfolding is_kind
kind_in k h l = and_on (leb 1 k) (leb k 3) (le-leb 1 k h) (le-leb k 3 l)

pub parse_kind : (s : List ℕ) (k : ℕ) → 1 ≤ length s → 1 ≤ k → k ≤ 3 → get_or s 0 0 ≡ k → parse_root s k ≡ parse s
unfolding parse pick
parse_kind s k n h l e = rw (le-leb 1 (length s) n, e, kind_in k h l)

pub parse_low : (s : List ℕ) → 1 ≤ length s → get_or s 0 0 < 1 → Fault 21 0 ≡ parse s
unfolding parse pick is_kind
parse_low s n h = rw (le-leb 1 (length s) n, and_off_l (leb 1 (get_or s 0 0)) (leb (get_or s 0 0) 3) (lt-leb 1 (get_or s 0 0) h))

pub parse_high : (s : List ℕ) → 1 ≤ length s → 3 < get_or s 0 0 → Fault 21 0 ≡ parse s
unfolding parse pick is_kind
parse_high s n h =
    rw (
      le-leb 1 (length s) n,
      and_off_r (leb 1 (get_or s 0 0)) (leb (get_or s 0 0) 3) (le-leb 1 (get_or s 0 0) (omega arith)) (lt-leb (get_or s 0 0) 3 h),
    )
