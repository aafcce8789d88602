-- What a put leaves alone, and what is read back: once, for any two ranges.
use mathlib.Core.Path.{◌≡◌, sym, ◌∙◌}
use Prim.Native.Nat.{ℕ, ◌+◌, ◌/◌, ◌%◌, ◌≤◌, ◌<◌}
use mathlib.Core.List.{List}
use mathlib.Core.Logic.{◌⊎◌, inl, inr, ⊎_elim}
use native.Mathlib.Omega.{arith}
use native.Mathlib.Nat.{add-zero}
use lib.ListN.{length, get_or, length-take, length-drop}
use lib.Seq.{ext_get_or}
use Rattle.octets.specs.Bytes.{part, put, two_at, four_at, eight_at, two, four, eight}
use Rattle.octets.proofs.Parts.{get_d_part}
use Rattle.octets.proofs.Laws.{put_put, length_part, length_put, get_d_put_out, get_d_put_in}

-- two ranges, b of n bytes and a of m, have no byte in common
abbrev pub Apart : ℕ → ℕ → ℕ → ℕ → Type 0
Apart b n a m = (b + n ≤ a) ⊎ (a + m ≤ b)

length_part_any : (b n : ℕ) (s t : List ℕ) → length s ≡ length t → length (part b n s) ≡ length (part b n t)
unfolding part
length_part_any b n s t e = simp (length-take, length-drop, e)

part_short : (b n : ℕ) (s : List ℕ) → length (part b n s) ≤ n
unfolding part
part_short b n s = simp length-take (omega arith)

module _ (a : ℕ) (v s : List ℕ) where
  -- one byte, a part, and numbers outside what was put
  pub byte_out : (i : ℕ) → Apart i 1 a (length v) → get_or (put a v s) i 0 ≡ get_or s i 0
  byte_out i h = get_d_put_out v s a i (⊎_elim (λ p. inl (omega arith)) (λ p. inr (omega arith)) h)

  pub part_out : (b n : ℕ) → Apart b n a (length v) → part b n (put a v s) ≡ part b n s
  part_out b n h =
      ext_get_or 0 (part b n (put a v s)) (part b n s) (length_part_any b n (put a v s) s (length_put a v s))
      (λ i k.
      let j : i < n = omega (arith, part_short b n (put a v s)) in
      get_d_part b n i (put a v s) j
      ∙ byte_out (b + i) (⊎_elim (λ p. inl (omega arith)) (λ p. inr (omega arith)) h)
      ∙ sym (get_d_part b n i s j))

  pub two_out : (b : ℕ) → Apart b 2 a (length v) → two_at (put a v s) b ≡ two_at s b
  two_out b h =
      rw (
        byte_out b (⊎_elim (λ p. inl (omega arith)) (λ p. inr (omega arith)) h),
        byte_out (b + 1) (⊎_elim (λ p. inl (omega arith)) (λ p. inr (omega arith)) h),
      )

  pub four_out : (b : ℕ) → Apart b 4 a (length v) → four_at (put a v s) b ≡ four_at s b
  unfolding four_at
  four_out b h =
      rw (
        two_out b (⊎_elim (λ p. inl (omega arith)) (λ p. inr (omega arith)) h),
        two_out (b + 2) (⊎_elim (λ p. inl (omega arith)) (λ p. inr (omega arith)) h),
      )

  pub eight_out : (b : ℕ) → Apart b 8 a (length v) → eight_at (put a v s) b ≡ eight_at s b
  unfolding eight_at
  eight_out b h =
      rw (
        four_out b (⊎_elim (λ p. inl (omega arith)) (λ p. inr (omega arith)) h),
        four_out (b + 4) (⊎_elim (λ p. inl (omega arith)) (λ p. inr (omega arith)) h),
      )

  -- what was put is read back
  pub part_in : a + length v ≤ length s → part a (length v) (put a v s) ≡ v
  part_in f =
      ext_get_or 0 (part a (length v) (put a v s)) v (whole_length f)
      (λ i k.
      let j : i < length v = omega (arith, part_short a (length v) (put a v s)) in
      get_d_part a (length v) i (put a v s) j ∙ get_d_put_in v s a i j f)
    where
      whole_length : a + length v ≤ length s → length (part a (length v) (put a v s)) ≡ length v
      whole_length f = length_part a (length v) (put a v s) (rw length_put f)

-- numbers are read back
module _ (a : ℕ) (s : List ℕ) where
  pub two_in : (x : ℕ) → a + 2 ≤ length s → x < 65536 → two_at (put a (two x) s) a ≡ x
  two_in x h k =
      let e : get_or (put a (two x) s) (a + 0) 0 ≡ x / 256 % 256 = get_d_put_in (two x) s a 0 (omega arith) h in
      let f : get_or (put a (two x) s) (a + 1) 0 ≡ x % 256 = get_d_put_in (two x) s a 1 (omega arith) h in
      rw (rw add-zero at e, f) (omega arith)

pub four_in : (a x : ℕ) (s : List ℕ) → a + 4 ≤ length s → x < 4294967296 → four_at (put a (four x) s) a ≡ x
unfolding four_at
four_in a x s h k =
    rw (
      ← put_put (two (x / 65536)) (two (x % 65536)) s a,
      two_in (a + 2) (put a (two (x / 65536)) s) (x % 65536) (rw length_put (omega arith)) (omega arith),
      two_out (a + 2) (two (x % 65536)) (put a (two (x / 65536)) s) a (inl (omega arith)),
      two_in a s (x / 65536) (omega arith) (omega arith),
    )
    (omega arith)

pub eight_in : (a x : ℕ) (s : List ℕ) → a + 8 ≤ length s → x < 18446744073709551616 → eight_at (put a (eight x) s) a ≡ x
unfolding eight_at
eight_in a x s h k =
    rw (
      ← put_put (four (x / 4294967296)) (four (x % 4294967296)) s a,
      four_in (a + 4) (x % 4294967296) (put a (four (x / 4294967296)) s) (rw length_put (omega arith)) (omega arith),
      four_out (a + 4) (four (x % 4294967296)) (put a (four (x / 4294967296)) s) a (inl (omega arith)),
      four_in a (x / 4294967296) s (omega arith) (omega arith),
    )
    (omega arith)
