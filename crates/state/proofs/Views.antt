-- What each write of a step leaves of a state: a kept vote's root; a kept echo's root, length and fragment.
use Prim.Native.Nat.{ℕ, suc, ◌+◌, ◌≤◌, ◌<◌}
use native.Mathlib.Omega.{arith}
use native.Mathlib.Nat.{mul-le-mul_right, suc-mul}
use mathlib.Core.Path.{◌≡◌, subst, sym, ◌∙◌, ap}
use mathlib.Core.Logic.{◌⊎◌, inl, inr, ⊎_elim}
use mathlib.Core.List.{List}
use lib.ListN.{length, get_or}
use Rattle.octets.specs.Bytes.{part, put, two, two_at}
use Rattle.octets.proofs.Laws.{length_put}
use Rattle.octets.proofs.Frame.{byte_out, part_out, two_out, part_in, two_in}
use Rattle.octets.proofs.Walk.{lt_or_le}
use Rattle.state.specs.State.{fixed_bytes, table_of, own_of, len_at, echo_at, vote_at, fragment_at}

-- ---- puts beyond the marks

pub put_table : (a : ℕ) (v s : List ℕ) → 40 ≤ a → table_of (put a v s) ≡ table_of s
unfolding table_of
put_table a v s h =
    let o : (i : ℕ) → i < 6 → get_or (put a v s) i 0 ≡ get_or s i 0 = λ i l. byte_out a v s i (inl (omega arith)) in
    rw (o 0 (omega arith), o 1 (omega arith), o 2 (omega arith), two_out a v s 4 (inl (omega arith)))

pub put_own : (a : ℕ) (v s : List ℕ) → 40 ≤ a → own_of (put a v s) ≡ own_of s
unfolding own_of
put_own a v s h = byte_out a v s 3 (inl (omega arith))

-- ---- a kept vote's root

module _ (i : ℕ) (root s : List ℕ) (hi : i < 64) (lr : length root ≡ 32) (long : fixed_bytes ≤ length s) where
  pub vote_new : part (vote_at i) 32 (put (vote_at i) root s) ≡ root
  vote_new = subst (λ x. part (vote_at i) x (put (vote_at i) root s) ≡ root) lr (part_in (vote_at i) root s (omega arith))

  pub vote_old : (j : ℕ) → (j ≡ i → ⊥) → part (vote_at j) 32 (put (vote_at i) root s) ≡ part (vote_at j) 32 s
  vote_old j ne = part_out (vote_at i) root s (vote_at j) 32 (⊎_elim (λ l. inl (omega arith)) (λ l. inr (omega (arith, ne))) (lt_or_le j i))

  pub vote_echoes : (j : ℕ) → j < 64 → part (echo_at j) 32 (put (vote_at i) root s) ≡ part (echo_at j) 32 s
  vote_echoes j hj = part_out (vote_at i) root s (echo_at j) 32 (inl (omega arith))

  pub vote_len : (j : ℕ) → j < 64 → two_at (put (vote_at i) root s) (len_at j) ≡ two_at s (len_at j)
  vote_len j hj = two_out (vote_at i) root s (len_at j) (inl (omega arith))

  pub vote_fragment : (a n : ℕ) → fixed_bytes ≤ a → part a n (put (vote_at i) root s) ≡ part a n s
  vote_fragment a n h = part_out (vote_at i) root s a n (inr (omega arith))

-- ---- a kept echo's root, length and fragment

-- fragments of different boards have no byte in common
apart : (max i j f l : ℕ) → f ≤ max → l ≤ max → (j ≡ i → ⊥) → (fragment_at max j + l ≤ fragment_at max i) ⊎ (fragment_at max i + f ≤ fragment_at max j)
apart max i j f l hf hl ne =
    ⊎_elim (λ a. inl (omega (arith, suc-mul j max, mul-le-mul_right max (let z : suc j ≤ i = omega arith in z))))
    (λ a. inr (omega (arith, suc-mul i max, mul-le-mul_right max (let z : suc i ≤ j = omega (arith, ne) in z)))) (lt_or_le j i)

module _ (max i f : ℕ) (root fragment s : List ℕ) (hi : i < 64) (lr : length root ≡ 32) (lf : length fragment ≡ f) (hf : f ≤ max) (small : f < 65536)
    (long : fixed_bytes ≤ length s) (room : fragment_at max i + f ≤ length s) where
  abbrev rooted : List ℕ
  rooted = put (echo_at i) root s

  abbrev sized : List ℕ
  sized = put (len_at i) (two f) rooted

  -- the state with the echo kept
  abbrev pub echoed : List ℕ
  echoed = put (fragment_at max i) fragment sized

  rooted_length : length rooted ≡ length s
  rooted_length = length_put (echo_at i) root s

  sized_length : length sized ≡ length s
  sized_length = length_put (len_at i) (two f) rooted ∙ rooted_length

  pub echoed_own : own_of echoed ≡ own_of s
  echoed_own = put_own (fragment_at max i) fragment sized (omega arith) ∙ put_own (len_at i) (two f) rooted (omega arith) ∙ put_own (echo_at i) root s (omega arith)

  up : (b n : ℕ) → b + n ≤ fixed_bytes → (len_at i + 2 ≤ b) → part b n echoed ≡ part b n rooted
  up b n h k = part_out (fragment_at max i) fragment sized b n (inl (omega arith)) ∙ part_out (len_at i) (two f) rooted b n (inr (omega arith))

  pub echo_new : part (echo_at i) 32 echoed ≡ root
  echo_new = up (echo_at i) 32 (omega arith) (omega arith) ∙ subst (λ x. part (echo_at i) x rooted ≡ root) lr (part_in (echo_at i) root s (omega arith))

  pub echo_old : (j : ℕ) → j < 64 → (j ≡ i → ⊥) → part (echo_at j) 32 echoed ≡ part (echo_at j) 32 s
  echo_old j hj ne = up (echo_at j) 32 (omega arith) (omega arith)
      ∙ part_out (echo_at i) root s (echo_at j) 32 (⊎_elim (λ l. inl (omega arith)) (λ l. inr (omega (arith, ne))) (lt_or_le j i))

  pub echo_votes : (j : ℕ) → j < 64 → part (vote_at j) 32 echoed ≡ part (vote_at j) 32 s
  echo_votes j hj = up (vote_at j) 32 (omega arith) (omega arith) ∙ part_out (echo_at i) root s (vote_at j) 32 (inr (omega arith))

  pub len_new : two_at echoed (len_at i) ≡ f
  len_new = two_out (fragment_at max i) fragment sized (len_at i) (inl (omega arith)) ∙ two_in (len_at i) rooted f (omega (arith, rooted_length)) small

  pub len_old : (j : ℕ) → j < 64 → (j ≡ i → ⊥) → two_at echoed (len_at j) ≡ two_at s (len_at j)
  len_old j hj ne = two_out (fragment_at max i) fragment sized (len_at j) (inl (omega arith))
      ∙ two_out (len_at i) (two f) rooted (len_at j) (⊎_elim (λ l. inl (omega arith)) (λ l. inr (omega (arith, ne))) (lt_or_le j i))
      ∙ two_out (echo_at i) root s (len_at j) (inl (omega arith))

  pub fragment_new : part (fragment_at max i) (two_at echoed (len_at i)) echoed ≡ fragment
  fragment_new = ap (λ (x : ℕ). part (fragment_at max i) x echoed) (len_new ∙ sym lf) ∙ part_in (fragment_at max i) fragment sized (omega (arith, sized_length))

  pub fragment_old : (j : ℕ) → j < 64 → (j ≡ i → ⊥) → two_at s (len_at j) ≤ max
      → part (fragment_at max j) (two_at echoed (len_at j)) echoed ≡ part (fragment_at max j) (two_at s (len_at j)) s
  fragment_old j hj ne hl = ap (λ (x : ℕ). part (fragment_at max j) x echoed) (len_old j hj ne)
      ∙ part_out (fragment_at max i) fragment sized (fragment_at max j) (two_at s (len_at j)) (rw lf (apart max i j f (two_at s (len_at j)) hf hl ne))
      ∙ part_out (len_at i) (two f) rooted (fragment_at max j) (two_at s (len_at j)) (inr (omega arith))
      ∙ part_out (echo_at i) root s (fragment_at max j) (two_at s (len_at j)) (inr (omega arith))
