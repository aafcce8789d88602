-- The pieces of a fresh state, put in one after the other, are the fresh state.
use mathlib.Core.Path.{◌≡◌, refl}
use Prim.Native.Nat.{ℕ}
use mathlib.Core.List.{List, [], ◌∷◌, ◌++◌}
use native.Mathlib.Omega.{arith}
use lib.ListN.{set, replicate}
use Rattle.octets.specs.Bytes.{put, two}
use Rattle.octets.proofs.Laws.{put_next}

pub head : (n t sender own : ℕ) (s : List ℕ) → set (set (set (set s 0 n) 1 t) 2 sender) 3 own ≡ put 0 (n ∷ t ∷ sender ∷ own ∷ []) s
unfolding put
head n t sender own s = refl

pub fresh_written : (n t sender own longest zeros : ℕ) (s : List ℕ)
    → put 6 (replicate zeros 0) (put 4 (two longest) (set (set (set (set s 0 n) 1 t) 2 sender) 3 own))
    ≡ put 0 (n ∷ t ∷ sender ∷ own ∷ (two longest ++ replicate zeros 0)) s
fresh_written n t sender own longest zeros s =
    rw (
      head n t sender own s,
      put_next (n ∷ t ∷ sender ∷ own ∷ []) (two longest) s 0 4 (omega arith),
      put_next (n ∷ t ∷ sender ∷ own ∷ two longest) (replicate zeros 0) s 0 6 (omega arith),
    )
