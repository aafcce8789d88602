-- Root, paths and fragments of a message are strings of bytes.
-- Assumes nothing.
use Prim.Native.Nat.{ℕ, suc, ◌/◌, ◌<◌}
use mathlib.Core.Path.{sym, subst}
use mathlib.Core.Bool.{true, false}
use mathlib.Core.List.{List, [], ◌∷◌, ◌++◌}
use native.Mathlib.Omega.{arith}
use lib.Dec.{ltb}
use lib.ListN.{length}
use Rattle.octets.specs.Bytes.{pick, tab}
use Rattle.octets.proofs.Tables.{length_tab, get_d_tab}
use Rattle.sha256.specs.Sha256.{sha256}
use Rattle.sha256.proofs.Digest.{sha256_bytes}
use Rattle.tree.specs.Tree.{Tree, tip, fork, root, path, flat, leaf_hash, node_hash, root_of, path_of, tree_of}
use Rattle.tree.proofs.Flat.{flat_snoc}
use Rattle.table.specs.Table.{k_of}
use Rattle.table.specs.declared.Table.{Table}
use Rattle.code.specs.Code.{All, Byte, value, row, fragment_byte, fragment_of}
use Rattle.code.specs.Block.{block}
use Rattle.code.proofs.Lists.{all_of, all_append}
use Rattle.code.proofs.Polynomials.{ok_eval}
use Rattle.code.proofs.Editions as E
use Rattle.code_through.proofs.Rows.{bytes_row}
use Rattle.code_through.proofs.Encoded.{bytes_block}
use Rattle.code_encode.specs.Message.{fragment_for}

-- ---- the code

value_byte : (l : List ℕ) (x : ℕ) → All Byte l → value l x < 256
value_byte l x h = subst (λ (v : ℕ). v < 256) (sym (E.value_eval l x)) (ok_eval E.bytes l x h)

tab_bytes : (n : ℕ) (f : ℕ → ℕ) → ((i : ℕ) → f i < 256) → All Byte (tab n f)
tab_bytes n f h =
    all_of Byte (tab n f) (λ i g. subst (λ (v : ℕ). v < 256) (sym (get_d_tab n f i (omega (arith, length_tab n f)))) (h i))

pub fragment_bytes : (b : Table) (message : List ℕ) (i : ℕ) → All Byte message → All Byte (fragment_for b message i)
unfolding fragment_for fragment_of fragment_byte
fragment_bytes b message i h =
    let w = block (k_of b) message in
    tab_bytes (length w / k_of b) (fragment_byte (k_of b) w (suc i))
    (λ c. value_byte (row (k_of b) w c) (suc i) (bytes_row (k_of b) c w (bytes_block (k_of b) message h)))

-- ---- the tree

pub hash_bytes : (s : List ℕ) → All Byte (sha256 s)
hash_bytes s = all_of Byte (sha256 s) (λ i h. sha256_bytes s i)

pub node_bytes : (fs : ℕ → List ℕ) (t : Tree) → All Byte (root sha256 fs t)
unfolding root leaf_hash node_hash
node_bytes fs (tip i) = hash_bytes _
node_bytes fs (fork k l r) = hash_bytes _

more_bytes : (xs : List (List ℕ)) (x : List ℕ) → All Byte (flat xs) → All Byte x → All Byte (flat (xs ++ (x ∷ [])))
more_bytes xs x h g = subst (All Byte) (sym (flat_snoc xs x)) (all_append Byte (flat xs) x h g)

nodes_bytes : (fs : ℕ → List ℕ) (t : Tree) (i : ℕ) → All Byte (flat (path sha256 fs t i))
unfolding path flat pick
nodes_bytes fs (tip j) i = tt
nodes_bytes fs (fork k l r) i =
    elim (ltb i k) as (λ b. All Byte (flat (pick b (path sha256 fs l i ++ (root sha256 fs r ∷ [])) (path sha256 fs r i ++ (root sha256 fs l ∷ []))))) [
      | true ↦ more_bytes (path sha256 fs l i) (root sha256 fs r) (nodes_bytes fs l i) (node_bytes fs r)
      | false ↦ more_bytes (path sha256 fs r i) (root sha256 fs l) (nodes_bytes fs r i) (node_bytes fs l)
    ]

pub root_bytes : (n : ℕ) (fs : ℕ → List ℕ) → All Byte (root_of n fs)
unfolding root_of
root_bytes n fs = node_bytes fs (tree_of n)

pub path_bytes : (n : ℕ) (fs : ℕ → List ℕ) (i : ℕ) → All Byte (flat (path_of n fs i))
unfolding path_of
path_bytes n fs i = nodes_bytes fs (tree_of n) i
