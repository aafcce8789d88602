-- The sections of a send, put in as the code does, are the record.
-- Assumes nothing.
use mathlib.Core.Path.{◌≡◌, sym, ap, ap₂, ◌∙◌}
use mathlib.Core.Logic.{inl}
use mathlib.Core.List.{List, [], ◌∷◌}
use Prim.Native.Nat.{ℕ, ◌+◌, ◌*◌, ◌<◌, ◌≤◌}
use native.Mathlib.Omega.{arith}
use lib.ListN.{length}
use Rattle.octets.specs.Bytes.{part, put, two}
use Rattle.octets.proofs.Laws.{length_put}
use Rattle.octets.proofs.Frame.{part_out}
use Rattle.sha256.specs.Sha256.{sha256}
use Rattle.tree.specs.Tree.{tree_of, depth, root_of, path_of, flat, climb}
use Rattle.tree.specs.Check.{node_of}
use Rattle.octets.proofs.Parts.{put_comm}
use Rattle.tree.proofs.Checks.{root_length, path_length, own_climb}
use Rattle.record.specs.Form.{record_of}
use Rattle.record.proofs.Writes.{written}
use Rattle.board_send.specs.Laying.{Alike}
use Rattle.octets.proofs.Puts.{part_put}
use Rattle.record.proofs.Sections.{record_length}

-- the counts, the path and the fragment first, the root last
sorted : (p : ℕ) (root path frag o : List ℕ) → length root ≡ 32 → length path ≡ 32 * p
    → put 3 root (put (39 + 32 * p) frag (put 37 path (put (37 + 32 * p) (two (length frag)) (put 35 (two p) (put 0 (1 ∷ 0 ∷ 32 ∷ []) o))))) ≡ put 0 (record_of 1 root p path frag) o
unfolding put
sorted p root path frag o h l =
    let head = put 0 (1 ∷ 0 ∷ 32 ∷ []) o in
    let at = 39 + 32 * p in
    let count = two (length frag) in
    put_comm frag root (put 37 path (put (37 + 32 * p) count (put 35 (two p) head))) at 3 (omega arith)
    ∙ ap (put at frag)
    (put_comm path root (put (37 + 32 * p) count (put 35 (two p) head)) 37 3 (omega arith)
    ∙ ap (put 37 path)
    (put_comm count root (put 35 (two p) head) (37 + 32 * p) 3 (omega arith) ∙ ap (put (37 + 32 * p) count) (put_comm (two p) root head 35 3 (omega arith)))
    ∙ put_comm count path (put 35 (two p) (put 3 root head)) (37 + 32 * p) 37 (omega arith))
    ∙ written 1 p root path frag o h l

-- the buffers o, after the counts; used, after the path was laid; full, with the fragment
module _ (n i : ℕ) (fs : ℕ → List ℕ) (few : n ≤ 64) (lt : i < n) (p at len : ℕ) (ep : p ≡ depth (tree_of n) i) (ea : at ≡ 39 + 32 * p) (size : length (fs i) ≡ len)
    (o used full : List ℕ) (room : at + len ≤ length o) (laid : Alike at len used (put 37 (flat (path_of n fs i)) o)) (ef : full ≡ put at (fs i) used) where
  nodes : length (flat (path_of n fs i)) ≡ 32 * p
  nodes = path_length n fs i ∙ ap (λ (x : ℕ). 32 * x) (sym ep)

  stands : full ≡ put at (fs i) (put 37 (flat (path_of n fs i)) o)
  stands = ef ∙ laid.same (fs i) size

  path_in : part 37 (32 * p) full ≡ flat (path_of n fs i)
  path_in =
      ap (part 37 (32 * p)) stands ∙ part_out at (fs i) (put 37 (flat (path_of n fs i)) o) 37 (32 * p) (inl (omega arith))
      ∙ part_put 37 (32 * p) (flat (path_of n fs i)) o nodes (omega arith)

  fragment_in : part at len full ≡ fs i
  fragment_in =
      ap (part at len) stands ∙ part_put at len (fs i) (put 37 (flat (path_of n fs i)) o) size (omega (arith, length_put 37 (flat (path_of n fs i)) o))

  root_is : (x : List ℕ) → x ≡ climb sha256 (node_of (part 37 (32 * p) full)) (tree_of n) i (part (39 + 32 * p) len full) → x ≡ root_of n fs
  root_is x e =
      e ∙ ap (λ (a : ℕ). climb sha256 (node_of (part 37 (32 * p) full)) (tree_of n) i (part a len full)) (sym ea)
      ∙ ap₂ (λ (u v : List ℕ). climb sha256 (node_of u) (tree_of n) i v) path_in fragment_in ∙ own_climb n i fs few lt

  pub record_made : (x first new : List ℕ) → o ≡ put (37 + 32 * p) (two len) (put 35 (two p) (put 0 (1 ∷ 0 ∷ 32 ∷ []) first))
      → x ≡ climb sha256 (node_of (part 37 (32 * p) full)) (tree_of n) i (part (39 + 32 * p) len full) → new ≡ put 3 x full
      → new ≡ put 0 (record_of 1 (root_of n fs) (depth (tree_of n) i) (flat (path_of n fs i)) (fs i)) first
  record_made x first new eo ex en =
      en ∙ ap₂ (put 3) (root_is x ex) (stands ∙ ap₂ (λ (a : ℕ) (s : List ℕ). put a (fs i) (put 37 (flat (path_of n fs i)) s)) ea
      (eo ∙ ap (λ (m : ℕ). put (37 + 32 * p) (two m) (put 35 (two p) (put 0 (1 ∷ 0 ∷ 32 ∷ []) first))) (sym size)))
      ∙ sorted p (root_of n fs) (flat (path_of n fs i)) (fs i) first (root_length n fs) nodes
      ∙ ap (λ (m : ℕ). put 0 (record_of 1 (root_of n fs) m (flat (path_of n fs i)) (fs i)) first) ep

  pub record_size : at + len ≡ length (record_of 1 (root_of n fs) (depth (tree_of n) i) (flat (path_of n fs i)) (fs i))
  record_size = omega (arith, record_length 1 (depth (tree_of n) i) (root_of n fs) (flat (path_of n fs i)) (fs i) (root_length n fs) (path_length n fs i))
