-- Laws of `record`'s definitions that the sender's record needs: how long a record is, and where its parts stand.
-- Assumes nothing.
use mathlib.Core.Path.{◌≡◌, ap, ◌∙◌}
use mathlib.Core.List.{List, [], ◌∷◌, ◌++◌, append_assoc}
use Prim.Native.Nat.{ℕ, ◌+◌, ◌*◌}
use native.Mathlib.Omega.{arith}
use lib.ListN.{length, take, length-append}
use lib.Seq.{take_at, drop_at}
use Rattle.octets.specs.Bytes.{part, two}
use Rattle.octets.proofs.Parts.{part_back}
use Rattle.record.specs.Form.{record_of}

-- a string between two others
part_between : (a m : ℕ) (u v w : List ℕ) → length u ≡ a → length v ≡ m → part a m (u ++ (v ++ w)) ≡ v
unfolding part
part_between a m u v w hu hv = ap (take m) (drop_at u (v ++ w) a hu) ∙ take_at v w m hv

module _ (k p : ℕ) (root path frag : List ℕ) (h : length root ≡ 32) (l : length path ≡ 32 * p) where
  pub record_length : length (record_of k root p path frag) ≡ 39 + 32 * p + length frag
  unfolding record_of
  record_length = simp length-append (omega arith)

  pub record_root : part 3 32 (record_of k root p path frag) ≡ root
  unfolding record_of
  record_root = part_between 3 32 (k ∷ 0 ∷ 32 ∷ []) root (two p ++ (path ++ (two (length frag) ++ frag))) (omega arith) h

  pub record_path : part 37 (32 * p) (record_of k root p path frag) ≡ path
  unfolding record_of
  record_path =
      let u = k ∷ 0 ∷ 32 ∷ (root ++ two p) in
      let e : record_of k root p path frag ≡ u ++ (path ++ (two (length frag) ++ frag)) = simp append_assoc in
      ap (part 37 (32 * p)) e ∙ part_between 37 (32 * p) u path (two (length frag) ++ frag) (simp length-append (omega arith)) l

  pub record_fragment : (f : ℕ) → length frag ≡ f → part (39 + 32 * p) f (record_of k root p path frag) ≡ frag
  unfolding record_of
  record_fragment f hf =
      let u = k ∷ 0 ∷ 32 ∷ (((root ++ two p) ++ path) ++ two (length frag)) in
      let e : record_of k root p path frag ≡ u ++ frag = simp append_assoc in
      ap (part (39 + 32 * p) f) e ∙ part_back (39 + 32 * p) f u frag (simp length-append (omega arith)) hf
