-- The sections of a record, put in one after the other, are the record.
use mathlib.Core.Path.{◌≡◌, refl}
use Prim.Native.Nat.{ℕ, ◌+◌, ◌*◌}
use mathlib.Core.List.{List, [], ◌∷◌, ◌++◌, append_assoc}
use native.Mathlib.Omega.{arith}
use lib.ListN.{length, set, length-append}
use Rattle.octets.specs.Bytes.{put, two}
use Rattle.octets.proofs.Laws.{put_next}
use Rattle.record.specs.Form.{record_of}

head : (k : ℕ) (o : List ℕ) → set (set (set o 0 k) 1 0) 2 32 ≡ put 0 (k ∷ 0 ∷ 32 ∷ []) o
unfolding put
head k o = refl

pub written : (k p : ℕ) (root path frag o : List ℕ) → length root ≡ 32 → length path ≡ 32 * p
    → put (39 + 32 * p) frag (put (37 + 32 * p) (two (length frag)) (put 37 path (put 35 (two p) (put 3 root (set (set (set o 0 k) 1 0) 2 32))))) ≡ put 0 (record_of k root p path frag) o
unfolding record_of
written k p root path frag o h l =
    rw (
      head k o,
      put_next (k ∷ 0 ∷ 32 ∷ []) root o 0 3 (omega arith),
      put_next (k ∷ 0 ∷ 32 ∷ root) (two p) o 0 35 (omega arith),
      put_next (k ∷ 0 ∷ 32 ∷ (root ++ two p)) path o 0 37 (simp length-append (omega arith)),
      put_next (k ∷ 0 ∷ 32 ∷ ((root ++ two p) ++ path)) (two (length frag)) o 0 (37 + 32 * p) (simp length-append (omega arith)),
      put_next (k ∷ 0 ∷ 32 ∷ (((root ++ two p) ++ path) ++ two (length frag))) frag o 0 (39 + 32 * p) (simp length-append (omega arith)),
    )
    (simp append_assoc)
