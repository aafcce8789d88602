-- Parts: their bytes, their front, their end; puts that have no byte in common.
-- Assumes nothing.
use mathlib.Core.Path.{◌≡◌, refl, sym, ap, ◌∙◌}
use mathlib.Core.List.{List, [], ◌∷◌, ◌++◌}
use Prim.Native.Nat.{ℕ, suc, ◌+◌, ◌≤◌, ◌<◌}
use native.Mathlib.Nat as N
use native.Mathlib.Omega.{arith}
use lib.ListN.{length, get_or, take, drop, set, length-drop, replicate, length-replicate, get_or-replicate}
use lib.Seq.{take_all, take-append-le, drop-append-le, drop_at, set_comm, get_or-take, get_or-drop}
use Rattle.octets.specs.Bytes.{part, put}
use Rattle.octets.proofs.Laws.{get_d_put_in}

-- byte i of a part
pub get_d_part : (b n i : ℕ) (s : List ℕ) → i < n → get_or (part b n s) i 0 ≡ get_or s (b + i) 0
unfolding part
get_d_part b n i s h = rw (get_or-take, get_or-drop)

-- a part that is the whole
pub part_all : (n : ℕ) (s : List ℕ) → length s ≡ n → part 0 n s ≡ s
unfolding part
part_all n s e = take_all n s (omega arith)

-- the front of two strings, and the second of them
pub part_front : (a m : ℕ) (u v : List ℕ) → a + m ≤ length u → part a m (u ++ v) ≡ part a m u
unfolding part
part_front a m u v h =
    ap (take m) (drop-append-le a u v (omega arith)) ∙ take-append-le m (drop a u) v (rw length-drop (omega arith))

pub part_back : (a m : ℕ) (u v : List ℕ) → length u ≡ a → length v ≡ m → part a m (u ++ v) ≡ v
unfolding part
part_back a m u v hu hv = ap (take m) (drop_at u v a hu) ∙ take_all m v (omega arith)

-- ---- puts that have no byte in common

set_put : (w s : List ℕ) (b a x : ℕ) → b + length w ≤ a → put b w (set s a x) ≡ set (put b w s) a x
unfolding put
set_put [] s b a x h = refl
set_put (y ∷ w) s b a x h =
    ap (λ (l : List ℕ). put (suc b) w l) (set_comm s a b x y (λ q. omega arith)) ∙ set_put w (set s b y) (suc b) a x (omega arith)

pub put_comm : (v w s : List ℕ) (a b : ℕ) → b + length w ≤ a → put b w (put a v s) ≡ put a v (put b w s)
unfolding put
put_comm [] w s a b h = refl
put_comm (x ∷ v) w s a b h =
    put_comm v w (set s a x) (suc a) b (omega arith) ∙ ap (λ (l : List ℕ). put (suc a) v l) (set_put w s b a x h)

-- zeros put in at the front
pub cleared : (n : ℕ) (old new : List ℕ) → n ≤ length old → new ≡ put 0 (replicate n 0) old → (i : ℕ) → i < n → get_or new i 0 ≡ 0
cleared n old new h e i g =
    ap (λ (l : List ℕ). get_or l i 0) e ∙ ap (λ (p : ℕ). get_or (put 0 (replicate n 0) old) p 0) (sym (N.zero-add i))
    ∙ get_d_put_in (replicate n 0) old 0 i (omega (arith, length-replicate {A = ℕ} n 0)) (omega (arith, length-replicate {A = ℕ} n 0)) ∙ get_or-replicate n i 0 0 g
