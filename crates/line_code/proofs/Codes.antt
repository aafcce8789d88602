-- Hash, tree and code of a table have the laws that the fragment broadcast asks for.
-- Assumes nothing.
use Prim.Native.Nat.{ℕ, suc, ◌-◌, ◌≤◌, ◌<◌}
use mathlib.Core.Path.{◌≡◌, sym, ap, ◌∙◌}
use mathlib.Core.Bool.{Bool, true}
use mathlib.Core.Logic.{◌⊎◌, inl, inr}
use mathlib.Core.List.{List, Memᴰ}
use mathlib.Core.Option.{some}
use native.Mathlib.Omega.{arith}
use lib.Dec.{T}
use lib.ListN.{length, get_or, take}
use Rattle.table.specs.Table.{limits, k_of}
use Rattle.table.specs.declared.Table.{Table}
use Rattle.table.proofs.Within.{within, k_pos, s_max_le}
use Rattle.sha256.specs.Sha256.{sha256}
use Rattle.tree.specs.Tree.{root_of, path_of, flat}
use Rattle.tree.specs.Check.{path_correct}
use Rattle.tree.specs.Strings.{check_strings, tree_strings}
use Rattle.tree.proofs.Checks.{own_path, path_binds}
use Rattle.code.proofs.Lists.{byte_at}
use Rattle.code_encode.specs.Message.{fragment_for}
use Rattle.code_encode.proofs.Sizes.{rows_most, fragment_length}
use Rattle.code_through.specs.Through.{marks}
use Rattle.deliver.specs.Delivered.{result_of}
use Rattle.deliver.proofs.Results as D
use Rattle.line.specs.Boards.{count, Board}
use Rattle.line_fragments.specs.Hashed.{Clash}
use Rattle.line_fragments.specs.Laws.{CodeLaws}
use Rattle.line.specs.Bytes.{bytes}
use Rattle.line_code.specs.Parts.{bits_of, Sendable, code_of}
use Rattle.octets.proofs.Picks.{holds, is_true}
use Rattle.line_code.proofs.ByteLaws.{all_bytes, bytes_all}
use Rattle.line_code.proofs.Results.{bits_few, bits_has, bits_ones, first_of, fresh_coded, message_proper}

-- ---- the tree

binds : (b : Table) (m : List ℕ) (i : ℕ) (f π : List ℕ) → T (path_correct b.n i (root_of b.n (fragment_for b m)) π f)
    → (f ≡ fragment_for b m (i - 1))
    ⊎ Clash sha256 (λ y. Memᴰ y (check_strings b.n i π f)) (λ y. Memᴰ y (tree_strings b.n (fragment_for b m)))
binds b m i f π t =
    let root = root_of b.n (fragment_for b m) in
    elim (path_binds b.n i (fragment_for b m) π f (is_true (path_correct b.n i root π f) t)) [
      | inl q ↦ inl q
      | inr c ↦ inr (c.one, c.other, c.one_in, c.other_in, c.differ, c.same)
    ]

module _ (b : Table) (limited : limits b ≡ true) where
  good : (m : List ℕ) (i : ℕ) → Sendable b m → Board b.n i
      → T (path_correct b.n i (root_of b.n (fragment_for b m)) (flat (path_of b.n (fragment_for b m) (i - 1))) (fragment_for b m (i - 1)))
  good m i fits board =
      let w = within b limited in
      let pos = k_pos b w in
      let fs = fragment_for b m in
      holds (path_correct b.n i (root_of b.n fs) (flat (path_of b.n fs (i - 1))) (fs (i - 1)))
      (own_path b.n i fs (w.one, w.few) (board.low, board.high)
      (omega (arith, fragment_length b m (i - 1) pos, rows_most b (length m) pos fits.fits, s_max_le b w)))

  -- ---- the code

  back : (m : List ℕ) (U : ℕ → Bool) (F : ℕ → List ℕ) → Sendable b m → k_of b ≤ count U b.n
      → ((i : ℕ) → Board b.n i → T (U i) → F i ≡ fragment_for b m (i - 1))
      → result_of b (root_of b.n (fragment_for b m)) (bits_of b.n U) F ≡ some m
  back m U F fits enough h =
      D.result_back b (bits_of b.n U) limited (bits_few b.n U) (omega (arith, bits_ones b.n U)) m (bytes_all m fits.bytes) fits.fits F
      (λ i lt e. let z : suc i - 1 ≡ i = omega arith in
      h (suc i) (record { low = omega arith; high = omega arith }) (holds (U (suc i)) (sym (bits_has b.n U i lt) ∙ e)) ∙ ap (fragment_for b m) z)

  rooted : (v : List ℕ) (U : ℕ → Bool) (F : ℕ → List ℕ) (m : List ℕ) → ((i : ℕ) → T (U i) → bytes (F i) ≡ true)
      → result_of b v (bits_of b.n U) F ≡ some m → Sendable b m × (root_of b.n (fragment_for b m) ≡ v)
  rooted v U F m proper e =
      let set = bits_of b.n U in
      let (fits, same) = D.result_root b v set F m e limited in
      (record { fits = fits; bytes = all_bytes m (message_proper b v set F m e small) }, same)
    where
      small : (i : ℕ) → i < length (take (k_of b) (marks 1 b.n (bits_of b.n U))) → (d : ℕ)
          → get_or (F (get_or (take (k_of b) (marks 1 b.n (bits_of b.n U))) i 0)) d 0 < 256
      small i h d =
          let x = get_or (take (k_of b) (marks 1 b.n (bits_of b.n U))) i 0 in
          byte_at (F x) (bytes_all (F x) (proper x (holds (U x) (first_of b.n U (k_of b) i h)))) d

pub code_laws : (b : Table) → limits b ≡ true → CodeLaws b.n b.t (code_of b)
code_laws b limited = record {
  path_good = good b limited;
  path_binds = λ m i f π fits board t. binds b m i f π t;
  result_back = back b limited;
  result_root = rooted b limited;
  result_fresh = λ v U F m y e c. fresh_coded b v (bits_of b.n U) F m y e c;
}
