-- Laws of `part`, `put` and `same`. None but those that read back what was put asks for a bound.
use mathlib.Core.Path.{◌≡◌, refl, sym, ap, ◌∙◌}
use Prim.Native.Nat.{ℕ, zero, suc, ◌+◌, ◌-◌, ◌≤◌, ◌<◌}
use mathlib.Core.List.{[], List, ◌∷◌, ◌++◌, append_assoc}
use mathlib.Core.Logic.{◌⊎◌, inl, inr, ⊎_elim}
use native.Mathlib.Omega.{arith}
use native.Mathlib.Numerals.{add-one}
use native.Mathlib.Nat.{add-zero, add-suc, suc-add}
use borrow.Rule.Slice.PartMut.{put_mid, Post-is}
use lib.ListN.{length, get_or, take, drop, set, length-set, drop_of_length-le, length-take, length-drop}
use lib.Seq.{length-sets, sets-eq, get_or-set_same, get_or-set_other, drop-cons}
use Rattle.octets.specs.Bytes.{part, put}

-- a put changes no length
pub length_put : (a : ℕ) (v s : List ℕ) → length (put a v s) ≡ length s
unfolding put
length_put a v s = length-sets s a v

-- outside what was put every byte stays
pub get_d_put_out : (v s : List ℕ) (a i : ℕ) → (i < a) ⊎ (a + length v ≤ i) → get_or (put a v s) i 0 ≡ get_or s i 0
unfolding put
get_d_put_out [] s a i h = refl
get_d_put_out (b ∷ v) s a i h =
    get_d_put_out v (set s a b) (suc a) i (⊎_elim (λ p. inl (omega arith)) (λ p. inr (omega arith)) h)
    ∙ get_or-set_other s a i b 0 (⊎_elim (λ p q. omega arith) (λ p q. omega arith) h)

-- inside, it is what was put
pub get_d_put_in : (v s : List ℕ) (a i : ℕ) → i < length v → a + length v ≤ length s → get_or (put a v s) (a + i) 0 ≡ get_or v i 0
unfolding put
get_d_put_in [] s a i h k = absurd (omega arith)
get_d_put_in (b ∷ v) s a zero h k =
    get_d_put_out v (set s a b) (suc a) (a + 0) (inl (omega arith))
    ∙ rw add-zero (get_or-set_same s a b 0 (omega arith))
get_d_put_in (b ∷ v) s a (suc i) h k =
    rw (add-suc, ← suc-add) (get_d_put_in v (set s a b) (suc a) i (omega arith) (rw length-set (omega arith)))

-- two puts in a row are one
pub put_put : (v w s : List ℕ) (a : ℕ) → put (a + length v) w (put a v s) ≡ put a (v ++ w) s
unfolding put
put_put [] w s a = rw add-zero
put_put (b ∷ v) w s a = rw (add-suc, ← suc-add) (put_put v w (set s a b) (suc a))

pub put_one : (s : List ℕ) (a b : ℕ) → set s a b ≡ put a (b ∷ []) s
unfolding put
put_one s a b = refl

-- ---- parts

pub part_cons : (a n : ℕ) (s : List ℕ) → a < length s → part a (suc n) s ≡ get_or s a 0 ∷ part (a + 1) n s
unfolding part
part_cons a n s h = rw (drop-cons s a 0, add-one)

-- ---- turns of the loop that copies

pub put_turn : (d src : List ℕ) (a i : ℕ) → i < length src → put (a + i) (drop i src) d ≡ put (a + (i + 1)) (drop (i + 1) src) (set d (a + i) (get_or src i 0))
unfolding put
put_turn d src a i h = rw (drop-cons src i 0, add-one, add-suc)

pub put_end : (d src : List ℕ) (a i : ℕ) → length src ≤ i → put (a + i) (drop i src) d ≡ d
unfolding put
put_end d src a i h = rw drop_of_length-le

-- a part by its two ends
pub part_range : (a n : ℕ) (s : List ℕ) → take (a + n - a) (drop a s) ≡ part a n s
unfolding part
part_range a n s = ap (λ (m : ℕ). take m (drop a s)) (omega arith)

-- a part that was lent and came back is a put
pub mid_put : (a e : ℕ) (xs ys : List ℕ) → a ≤ e → e ≤ length xs → length ys ≡ e - a → put_mid a (e - a) xs ys ≡ put a ys xs
unfolding put
mid_put a e xs ys h g l =
    let q : a + length ys ≡ e = omega arith in
    ap (λ (z : List ℕ). take a xs ++ (ys ++ z)) (Post-is a e xs h ∙ ap (λ (n : ℕ). drop n xs) (sym q))
    ∙ sym (sets-eq ys xs a (omega arith) ∙ append_assoc (take a xs) ys (drop (a + length ys) xs))

-- a put that begins where another ends
pub put_next : (v w s : List ℕ) (a b : ℕ) → b ≡ a + length v → put b w (put a v s) ≡ put a (v ++ w) s
put_next v w s a b e = rw e (put_put v w s a)

pub length_part : (a n : ℕ) (s : List ℕ) → a + n ≤ length s → length (part a n s) ≡ n
unfolding part
length_part a n s h = simp (length-take, length-drop) (omega arith)
