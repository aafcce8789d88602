-- The bytes of a block and of its rows.
-- Assumes nothing.
use mathlib.Core.Path.{◌≡◌, refl, sym, ap, ◌∙◌}
use mathlib.Core.List.{List, [], ◌∷◌, ◌++◌}
use Prim.Native.Nat.{ℕ, zero, suc, ◌+◌, ◌-◌, ◌*◌, ◌/◌, ◌%◌, ◌<◌, ◌≤◌}
use native.Mathlib.Nat as N
use native.Mathlib.Omega.{arith}
use lib.ListN.{length, get_or, drop, replicate, length-append, length-replicate, length-take, length-drop}
use lib.Seq.{get_or-append-add, get_or-take, get_or-drop}
use Rattle.octets.specs.Bytes.{part}
use Rattle.octets.proofs.Tables.{length_tab, get_d_tab}
use Rattle.code.specs.Code.{row, fragment_byte, fragment_of}
use Rattle.code.specs.Block.{header, rows, block}

-- ---- the header

pub byte_early : (m : ℕ) (l : List ℕ) (j : ℕ) → m < 65536 → j < 2 → 0 ≡ get_or (header m ++ l) j 0
unfolding header
byte_early m l zero h g = omega arith
byte_early m l (suc zero) h g = omega arith
byte_early m l (suc (suc j)) h g = absurd (omega arith)

pub byte_2 : (m : ℕ) (l : List ℕ) → m / 256 % 256 ≡ get_or (header m ++ l) 2 0
unfolding header
byte_2 m l = omega arith

pub byte_3 : (m : ℕ) (l : List ℕ) → m % 256 ≡ get_or (header m ++ l) 3 0
unfolding header
byte_3 m l = omega arith

pub byte_later : (m : ℕ) (l : List ℕ) (j : ℕ) → 4 ≤ j → get_or l (j - 4) 0 ≡ get_or (header m ++ l) j 0
unfolding header
byte_later m l j h = sym (get_or-append-add (header m) l (j - 4) 0) ∙ ap (λ (i : ℕ). get_or (header m ++ l) i 0) back
  where
    back : 4 + (j - 4) ≡ j
    back = omega arith

-- ---- rows

zeros : (n q : ℕ) → ◌≡◌ {A = ℕ} (get_or (replicate n 0) q 0) 0
zeros zero q = refl
zeros (suc n) zero = refl
zeros (suc n) (suc q) = zeros n q

-- zeros at the end do not show
pad : (l : List ℕ) (n p : ℕ) → get_or (l ++ replicate n 0) p 0 ≡ get_or l p 0
pad [] n p = zeros n p
pad (x ∷ l) n zero = refl
pad (x ∷ l) n (suc p) = pad l n p

module _ (k : ℕ) (pos : 0 < k) (msg : List ℕ) where
  -- rows · k is at least m + 4, and less than k more
  pub enough : length msg + 4 ≤ rows k (length msg) * k
  unfolding rows
  enough =
      let x = length msg + 4 + (k - 1) in
      omega (arith, N.div-add-mod' x k, N.mod-lt x pos)

  pub not_more : rows k (length msg) * k ≤ length msg + 4 + (k - 1)
  unfolding rows
  not_more = let x = length msg + 4 + (k - 1) in omega (arith, N.div-add-mod' x k)

  pub length_block : length (block k msg) ≡ rows k (length msg) * k
  unfolding block header
  length_block = simp (length-append, length-replicate) (omega (arith, enough))

  -- a fragment of the block has a byte for each row
  pub length_fragment : (i : ℕ) → length (fragment_of k (block k msg) i) ≡ rows k (length msg)
  unfolding fragment_of
  length_fragment i =
      length_tab (length (block k msg) / k) (fragment_byte k (block k msg) i)
      ∙ ap (λ (n : ℕ). n / k) length_block ∙ N.mul-div_cancel (rows k (length msg)) pos

  pub fragment_at : (i d : ℕ) → d < rows k (length msg) → get_or (fragment_of k (block k msg) i) d 0 ≡ fragment_byte k (block k msg) i d
  unfolding fragment_of
  fragment_at i d h =
      get_d_tab (length (block k msg) / k) (fragment_byte k (block k msg) i) d
      (N.lt_of_lt_of_le h (N.le_of_eq (sym (ap (λ (n : ℕ). n / k) length_block ∙ N.mul-div_cancel (rows k (length msg)) pos))))

  module _ (c : ℕ) (h : c < rows k (length msg)) where
    pub inside : c * k + k ≤ rows k (length msg) * k
    inside = omega (arith, N.mul-le-mul_right k h)

    -- where the row ends, in numbers that fit
    pub ends : c * k + k ≤ length msg + 4 + (k - 1)
    ends = omega (arith, inside, not_more)

    pub length_row : length (row k (block k msg) c) ≡ k
    unfolding row part
    length_row = simp (length-take, length-drop) (omega (arith, inside, length_block))

    pub get_d_row : (j : ℕ) → j < k → get_or (row k (block k msg) c) j 0 ≡ get_or (header (length msg) ++ msg) (c * k + j) 0
    unfolding row part block
    get_d_row j g =
        get_or-take k (drop (c * k) (block k msg)) j 0 g ∙ get_or-drop (c * k) (block k msg) j 0
        ∙ pad (header (length msg) ++ msg) (rows k (length msg) * k - (4 + length msg)) (c * k + j)
