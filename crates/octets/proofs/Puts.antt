-- What is put over something, and read back.
-- Assumes nothing.
use mathlib.Core.Path.{◌≡◌, refl, ap, ◌∙◌, subst}
use mathlib.Core.List.{List, [], ◌∷◌}
use Prim.Native.Nat.{ℕ, suc, ◌+◌, ◌≤◌}
use native.Mathlib.Omega.{arith}
use lib.ListN.{length, set}
use lib.Seq.{set-set}
use Rattle.octets.specs.Bytes.{part, put}
use Rattle.octets.proofs.Frame.{part_in}
use Rattle.octets.proofs.Parts.{put_comm}

-- what is put over a string of its length hides it
pub put_over : (v w s : List ℕ) (a : ℕ) → length v ≡ length w → put a v (put a w s) ≡ put a v s
unfolding put
put_over [] [] s a h = refl
put_over [] (y ∷ w) s a h = absurd (omega arith)
put_over (x ∷ v) [] s a h = absurd (omega arith)
put_over (x ∷ v) (y ∷ w) s a h =
    ap (put (suc a) v) (put_comm w (x ∷ []) (set s a y) (suc a) a (omega arith) ∙ ap (put (suc a) w) (set-set s a y x))
    ∙ put_over v w (set s a x) (suc a) (omega arith)

-- a part that was put in whole
pub part_put : (a n : ℕ) (v s : List ℕ) → length v ≡ n → a + n ≤ length s → part a n (put a v s) ≡ v
part_put a n v s e h = subst (λ (m : ℕ). part a m (put a v s) ≡ v) e (part_in a v s (omega arith))
