-- Lists by their places.
-- Assumes nothing.
use mathlib.Core.Path.{◌≡◌, refl, sym, ap, ap₂, ◌∙◌, subst}
use mathlib.Core.Logic.{◌≢◌}
use mathlib.Core.Bool.{true, false}
use mathlib.Core.List.{List, [], ◌∷◌, ◌++◌, map}
use Prim.Native.Nat.{ℕ, zero, suc, ◌+◌, ◌*◌, ◌-◌, min, ◌<◌, ◌≤◌}
use native.Mathlib.Omega.{arith}
use lib.ListN.{length, get_or, set, take, drop, length-take}
use lib.Seq.{get_or-take, drop_at, take_at, length-take-le}
use borrow.Rule.Slice.PartMut.{put_mid, post_of}
use Rattle.octets.specs.Bytes.{part, put, two}
use Rattle.code.specs.Code.{All, Byte, Apart}
use Rattle.code.proofs.Polynomials.{Distinct}

pub false≢true : false ≡ true → ⊥
false≢true e = let z : ◌≡◌ {A = ℕ} 0 1 = cc in omega arith

pub get_d_map : (f : ℕ → ℕ) (l : List ℕ) (i : ℕ) → i < length l → get_or (map f l) i 0 ≡ f (get_or l i 0)
get_d_map f [] i h = absurd (omega arith)
get_d_map f (x ∷ l) zero h = refl
get_d_map f (x ∷ l) (suc i) h = get_d_map f l i (omega arith)

pub map_at : (f g : ℕ → ℕ) (l : List ℕ) → ((i : ℕ) → i < length l → f (get_or l i 0) ≡ g (get_or l i 0)) → map f l ≡ map g l
map_at f g [] h = refl
map_at f g (x ∷ l) h = ap₂ ◌∷◌ (h 0 (omega arith)) (map_at f g l (λ i b. h (suc i) (omega arith)))

pub at_map : (f g : ℕ → ℕ) (l : List ℕ) → map f l ≡ map g l → (i : ℕ) → i < length l → f (get_or l i 0) ≡ g (get_or l i 0)
at_map f g l e i h = sym (get_d_map f l i h) ∙ ap (λ (m : List ℕ). get_or m i 0) e ∙ get_d_map g l i h

pub all_of : (P : ℕ → Type 0) (l : List ℕ) → ((i : ℕ) → i < length l → P (get_or l i 0)) → All P l
all_of P [] h = tt
all_of P (x ∷ l) h = (h 0 (omega arith), all_of P l (λ i b. h (suc i) (omega arith)))

pub distinct_of : (l : List ℕ) → Apart l → Distinct l
distinct_of [] h = tt
distinct_of (x ∷ l) h = (
  all_of (λ (y : ℕ). x ≢ y) l (λ i b. h 0 (suc i) (omega arith) (omega arith)),
  distinct_of l (λ i j a b. h (suc i) (suc j) (omega arith) (omega arith)),
)

-- place c of room x, counted from 1, in an area of that many rooms or more
pub within : (x s c size : ℕ) → 0 < x → c < s → x * s ≤ size → (x - 1) * s + c < size
within x s c size h g l = go (x - 1) (omega arith)
  where
    go : (y : ℕ) → suc y ≡ x → y * s + c < size
    go y e = omega (arith, ap (λ (z : ℕ). z * s) e)

-- ---- a part that is written

-- the part itself
pub part_put : (a k : ℕ) (l ys : List ℕ) → a + k ≤ length l → length ys ≡ k → take k (drop a (put_mid a (a + k - a) l ys)) ≡ ys
part_put a k l ys h e =
    ap (take k) (drop_at (take a l) (ys ++ post_of a (a + k - a) l) a (length-take-le a l (omega arith))) ∙ take_at ys (post_of a (a + k - a) l) k e

-- ---- parts of a list of bytes

pub all_take : (P : ℕ → Type 0) (n : ℕ) (l : List ℕ) → All P l → All P (take n l)
all_take P zero l h = tt
all_take P (suc n) [] h = tt
all_take P (suc n) (x ∷ l) h = (h.0, all_take P n l h.1)

pub all_drop : (P : ℕ → Type 0) (n : ℕ) (l : List ℕ) → All P l → All P (drop n l)
all_drop P zero l h = h
all_drop P (suc n) [] h = tt
all_drop P (suc n) (x ∷ l) h = all_drop P n l h.1

pub apart_take : (n : ℕ) (l : List ℕ) → Apart l → Apart (take n l)
apart_take n l h i j a b e =
    let m : j < min n (length l) = subst (λ (z : ℕ). j < z) (length-take n l) b in
    h i j a (omega arith) (sym (get_or-take n l i 0 (omega arith)) ∙ e ∙ get_or-take n l j 0 (omega arith))

-- what holds of all holds at each place
pub all_at : (P : ℕ → Type 0) (l : List ℕ) → All P l → (i : ℕ) → i < length l → P (get_or l i 0)
all_at P [] h i b = absurd (omega arith)
all_at P (x ∷ l) h zero b = h.0
all_at P (x ∷ l) h (suc i) b = all_at P l h.1 i (omega arith)

-- of a list and then another
pub all_append : (P : ℕ → Type 0) (l m : List ℕ) → All P l → All P m → All P (l ++ m)
all_append P [] m h g = g
all_append P (x ∷ l) m h g = (h.0, all_append P l m h.1 g)

-- of a list with another put in
all_set : (P : ℕ → Type 0) (l : List ℕ) (i x : ℕ) → P x → All P l → All P (set l i x)
all_set P [] i x p h = tt
all_set P (y ∷ l) zero x p h = (p, h.1)
all_set P (y ∷ l) (suc i) x p h = (h.0, all_set P l i x p h.1)

pub all_put : (P : ℕ → Type 0) (v l : List ℕ) (i : ℕ) → All P v → All P l → All P (put i v l)
unfolding put
all_put P [] l i g h = h
all_put P (x ∷ v) l i g h = all_put P v (set l i x) (suc i) g.1 (all_set P l i x g.0 h)

-- bytes (a list reads as 0 past its end)
pub byte_at : (s : List ℕ) → All Byte s → (i : ℕ) → get_or s i 0 < 256
byte_at [] h i = omega arith
byte_at (x ∷ s) h zero = h.0
byte_at (x ∷ s) h (suc i) = byte_at s h.1 i

pub part_bytes : (a n : ℕ) (s : List ℕ) → All Byte s → All Byte (part a n s)
unfolding part
part_bytes a n s h = all_take Byte n (drop a s) (all_drop Byte a s h)

pub two_bytes : (n : ℕ) → All Byte (two n)
two_bytes n = (omega arith, (omega arith, tt))
