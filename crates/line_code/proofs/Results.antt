-- What a delivery is worth where boards are a test and not a set of bits: only the boards of which the test holds are looked at.
-- Assumes nothing.
use Prim.Native.Nat.{ℕ, zero, suc, ◌-◌, ◌/◌, ◌^◌, min, ◌<◌}
use mathlib.Core.Path.{◌≡◌, sym, ap, ◌∙◌, subst}
use mathlib.Core.Bool.{Bool, true}
use mathlib.Core.List.{List, map, Memᴰ}
use mathlib.Core.Option.{some}
use native.Mathlib.Nat as N
use native.Mathlib.Omega.{arith}
use lib.Count.{ones}
use lib.ListN.{length, get_or, take, length-take, length-map}
use lib.Seq.{get_or-take}
use Rattle.octets.specs.Sets.{has}
use Rattle.octets.proofs.SetLaws.{set_of_lt}
use Rattle.table.specs.Table.{k_of}
use Rattle.table.specs.declared.Table.{Table}
use Rattle.octets.proofs.Members.{has_set_of}
use Rattle.code.specs.Code.{All, Byte}
use Rattle.code.proofs.Lists.{all_of, all_append, get_d_map}
use Rattle.code.proofs.Reading.{message_bytes}
use Rattle.code_encode.specs.Message.{fragment_for}
use Rattle.tree.specs.Strings.{tree_strings}
use Rattle.code_through.specs.Through.{marks, through, block_through}
use Rattle.code_through.proofs.Marks.{between, marks_have}
use Rattle.code_through.proofs.Interpolation.{bytes_through}
use Rattle.deliver.specs.Delivered.{result_of}
use Rattle.deliver.proofs.Results.{read_why, result_read}
use Rattle.line.specs.Boards.{count}
use Rattle.line.proofs.Sets.{ones_set_of}
use Rattle.line_code.specs.Parts.{bits_of, encoding_strings, fresh_strings}

-- ---- the bits of a test

module _ (n : ℕ) (U : ℕ → Bool) where
  pub bits_few : bits_of n U / 2 ^ n ≡ 0
  unfolding bits_of
  bits_few = N.div-eq_of_lt (set_of_lt (λ i. U (suc i)) 0 n)

  pub bits_has : (i : ℕ) → i < n → has (bits_of n U) i ≡ U (suc i)
  unfolding bits_of
  bits_has i h = has_set_of (λ i. U (suc i)) 0 n i h ∙ ap (λ (j : ℕ). U (suc j)) (N.zero-add i)

  pub bits_ones : ones (bits_of n U) ≡ count U n
  unfolding bits_of
  bits_ones = ones_set_of (λ i. U (suc i)) U 0 n (λ i. ap (λ (j : ℕ). U (suc j)) (sym (N.zero-add i)))

  -- the boards that are looked at are of the test, however many they are
  pub first_of : (k i : ℕ) → i < length (take k (marks 1 n (bits_of n U))) → U (get_or (take k (marks 1 n (bits_of n U))) i 0) ≡ true
  first_of k i h =
      let xs = marks 1 n (bits_of n U) in
      let l : i < min k (length xs) = subst (λ (z : ℕ). i < z) (length-take k xs) h in
      let g : i < length xs = omega arith in
      let v = between 1 n (bits_of n U) i g in
      let x = get_or xs i 0 in
      let e : suc (x - 1) ≡ x = omega arith in
      ap U (get_or-take k xs i 0 (omega arith) ∙ sym e) ∙ sym (bits_has (x - 1) (omega arith)) ∙ marks_have 1 n (bits_of n U) i g

-- ---- the block from fragments that are bytes

module _ (xs : List ℕ) (F : ℕ → List ℕ) (h : (i : ℕ) → i < length xs → (d : ℕ) → get_or (F (get_or xs i 0)) d 0 < 256) where
  column_bytes : (c : ℕ) → All Byte (map (λ x. get_or (F x) c 0) xs)
  column_bytes c =
      all_of Byte (map (λ x. get_or (F x) c 0) xs)
      (λ i g. let l : i < length xs = omega (arith, length-map xs (λ x. get_or (F x) c 0)) in
      subst (λ (v : ℕ). v < 256) (sym (get_d_map (λ x. get_or (F x) c 0) xs i l)) (h i l c))

  pub block_bytes : (len : ℕ) → All Byte (block_through len xs F)
  unfolding block_through
  block_bytes zero = tt
  block_bytes (suc c) =
      all_append Byte (block_through c xs F) (through xs (map (λ x. get_or (F x) c 0) xs)) (block_bytes c)
      (bytes_through xs (map (λ x. get_or (F x) c 0) xs) (column_bytes c))

-- ---- a message that is delivered was encoded afresh

-- so the strings of its encoding were hashed
pub fresh_coded : (b : Table) (v : List ℕ) (set : ℕ) (F : ℕ → List ℕ) (m y : List ℕ) → result_of b v set F ≡ some m
    → Memᴰ y (tree_strings b.n (fragment_for b m)) → Memᴰ y (fresh_strings b set F)
unfolding fresh_strings encoding_strings
fresh_coded b v set F m y e h = subst (λ o. Memᴰ y (encoding_strings b o)) (sym (result_read b v set F m e).0) h

-- and it is bytes, where the fragments that are looked at are
pub message_proper : (b : Table) (v : List ℕ) (set : ℕ) (F : ℕ → List ℕ) (m : List ℕ) → result_of b v set F ≡ some m
    → ((i : ℕ) → i < length (take (k_of b) (marks 1 b.n set)) → (d : ℕ) → get_or (F (get_or (take (k_of b) (marks 1 b.n set)) i 0)) d 0 < 256)
    → All Byte m
message_proper b v set F m e h =
    let xs = take (k_of b) (marks 1 b.n set) in
    let len = length (F (get_or xs 0 0)) in
    subst (All Byte) (read_why b xs F m (result_read b v set F m e).0).message (message_bytes (block_through len xs F) (block_bytes xs F h len))
