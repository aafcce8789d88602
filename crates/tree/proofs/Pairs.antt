-- A pair of hashes, filled in two halves: the string that is hashed for a node, after its prefix.
-- Assumes nothing.
use Prim.Native.Nat.{ℕ, ◌-◌}
use mathlib.Core.Path.{◌≡◌, sym, ◌∙◌}
use mathlib.Core.List.{List, ◌++◌}
use native.Mathlib.Omega.{arith}
use lib.ListN.{length, length-append}
use Rattle.octets.specs.Bytes.{put}
use Rattle.octets.proofs.Laws.{length_put, put_next}
use Rattle.octets.proofs.Parts.{part_all, put_comm}
use Rattle.octets.proofs.Puts.{part_put}

put_whole : (v s : List ℕ) → length v ≡ length s → put 0 v s ≡ v
put_whole v s e = sym (part_all (length s) (put 0 v s) (length_put 0 v s)) ∙ part_put 0 (length s) v s e (omega arith)

module _ (x y s : List ℕ) (at : ℕ) (hx : length x ≡ 32) (hy : length y ≡ 32) (hs : length s ≡ 64) where
  pub pair_left : at ≡ 0 → put (32 - at) y (put at x s) ≡ x ++ y
  pair_left e = rw e (put_next x y s 0 32 (omega arith) ∙ put_whole (x ++ y) s (omega (arith, length-append x y)))

  pub pair_right : at ≡ 32 → put (32 - at) y (put at x s) ≡ y ++ x
  pair_right e =
      rw e (put_comm x y s 32 0 (omega arith) ∙ put_next y x s 0 32 (omega arith) ∙ put_whole (y ++ x) s (omega (arith, length-append y x)))
