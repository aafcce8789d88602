-- n 4, t 1, S 1, L 16: fragments of a sender that lies, under the root of their own tree, so that their paths are correct. Of the first what they
-- give back cannot be read; of the second it is a message, but the root of its fresh encoding is another.
use Prim.Native.Nat.{ℕ, zero, suc, ◌-◌, ◌*◌, ◌≤◌}
use native.Mathlib.Omega.{arith}
use mathlib.Core.Bool.{Bool, true, false}
use mathlib.Core.Path.{◌≡◌, refl, ◌∙◌, ap}
use mathlib.Core.List.{List, [], ◌∷◌}
use mathlib.Core.Option.{Option, some, none}
use borrow.Author.Tests.{le-leb}
use lib.Dec.{ltb}
use lib.ListN.{length}
use Rattle.octets.specs.Bytes.{pick, part, tab, four_at, same}
use Rattle.octets.specs.Sets.{set_of}
use Rattle.table.specs.Table.{limits, s_max}
use Rattle.table.specs.declared.Table.{Table}
use Rattle.sha256.specs.Words.{◌⊞◌, not32, shr, rotr, ch, maj, Σ₀, Σ₁, σ₀, σ₁}
use Rattle.sha256.specs.Tables.{K, H0}
use Rattle.sha256.specs.Sha256.{word_at, expand, next_word, words, T₁, T₂, round, rounds, sums, compress, byte_of, pad_zeros, pad, block_at, chain, digest, sha256}
use Rattle.tree.specs.Tree.{tree_of, tree, half, doubled, depth, leaf_hash, node_hash, root, root_of, path_of, flat}
use Rattle.tree.proofs.Checks.{root_length, path_length, own_path}
use Rattle.field.specs.Field.{add, double, times, mul, power}
use Rattle.field.specs.Tables.{logs, inverse}
use Rattle.code.specs.Code.{All, Byte, value, row, fragment_byte, fragment_of}
use Rattle.code.specs.Block.{header, rows, block, readable, block_message}
use Rattle.code_encode.specs.Message.{fragment_for}
use Rattle.code_through.specs.Through.{marks, attach, slopes, through, block_through}
use Rattle.deliver.specs.Delivered.{all_of_length, block_read, read_from, afresh, result_from, result_of}
use Rattle.record.specs.Form.{is_kind, nodes_most, path_ok, fragment_ok, form_of}
use Rattle.record.proofs.PartLaws.{Fits}
use Rattle.line.specs.Boards.{Board, known}
use Rattle.line.proofs.Firsts.{up_to}
use Rattle.line_fragments.proofs.Spreads.{Correct}
use Rattle.line_code.specs.Parts.{bits_of, line_of}
use Rattle.line_code.proofs.Encodings.{root_bytes, path_bytes}
use Rattle.line_code.proofs.Records.{Good}
use Rattle.line_code.proofs.Lines.{read_send}

-- the table
abbrev pub small : Table
small = record { n = 4; t = 1; sender = 1; longest = 16 }

pub small_limits : limits small ≡ true
unfolding limits
small_limits = refl

-- ---- fragments under the root of their tree

two_nodes : (i : ℕ) → Board 4 i → depth (tree_of 4) (i - 1) ≡ 2
unfolding depth tree_of tree half doubled pick
two_nodes zero b = absurd (omega arith)
two_nodes (suc zero) b = refl
two_nodes (suc (suc zero)) b = refl
two_nodes (suc (suc (suc zero))) b = refl
two_nodes (suc (suc (suc (suc zero)))) b = refl
two_nodes (suc (suc (suc (suc (suc i))))) b = absurd (omega arith)

parts_fit : (p l : ℕ) → p ≡ 64 → 1 ≤ l → l ≤ 10 → Fits 1 32 p l
unfolding form_of is_kind path_ok nodes_most fragment_ok pick
parts_fit p l e least few = rw (e, le-leb 1 l least, le-leb l 16388 (omega arith))

-- fragment and path of board i, where the fragments are g 0, g 1, g 2, g 3
abbrev pub piece_of : (ℕ → List ℕ) → ℕ → List ℕ
piece_of g i = g (i - 1)

abbrev pub paths_of : (ℕ → List ℕ) → ℕ → List ℕ
paths_of g i = flat (path_of 4 g (i - 1))

module _ (g : ℕ → List ℕ) (some : (i : ℕ) → 1 ≤ length (g i)) (few : (i : ℕ) → length (g i) ≤ 10) (bytes : (i : ℕ) → All Byte (g i)) where
  path_size : (i : ℕ) → Board 4 i → length (paths_of g i) ≡ 64
  path_size i b = path_length 4 g (i - 1) ∙ ap (λ (d : ℕ). 32 * d) (two_nodes i b)

  parts_good : (i : ℕ) → Board 4 i → Good 1 (root_of 4 g) (paths_of g i) (piece_of g i)
  parts_good i b = record {
    fits = rw (root_length 4 g) (parts_fit (length (paths_of g i)) (length (piece_of g i)) (path_size i b) (some (i - 1)) (few (i - 1)));
    root_bytes = root_bytes 4 g;
    path_bytes = path_bytes 4 g (i - 1);
    fragment_bytes = bytes (i - 1);
  }

  tree_correct : Correct (line_of small) (root_of 4 g) (piece_of g) (paths_of g)
  unfolding s_max
  tree_correct = record {
    check = λ i b. own_path 4 i g (omega arith, omega arith) (b.low, b.high) (let h = few (i - 1) in omega arith);
    short = λ i b. le-leb (length (piece_of g i)) 10 (few (i - 1));
    read = λ i b. read_send (root_of 4 g) (paths_of g i) (piece_of g i) (parts_good i b);
  }

-- what a board keeps of them once all four have echoed, and what it then delivers
abbrev pub kept_all : (ℕ → List ℕ) → ℕ → List ℕ
kept_all g = up_to 4 (piece_of g) (λ i. [])

abbrev pub result_of_all : (ℕ → List ℕ) → Option (List ℕ)
result_of_all g = result_of small (root_of 4 g) (bits_of 4 (known 4)) (kept_all g)

-- ---- what cannot be read

-- the byte 255 for each board
abbrev pub lone : ℕ → List ℕ
lone i = 255 ∷ []

pub lone_correct : Correct (line_of small) (root_of 4 lone) (piece_of lone) (paths_of lone)
lone_correct = tree_correct lone (λ i. omega arith) (λ i. omega arith) (λ i. (omega arith, tt))

-- two bytes are no block: "fewer than 4 bytes .. is refused"
pub lone_void : result_of_all lone ≡ none
unfolding bits_of set_of result_of result_from read_from block_read marks all_of_length afresh readable block_through through slopes attach pick
lone_void = refl

-- ---- what is another message's

-- boards 1 and 2 have the fragments of the empty message, boards 3 and 4 have not
unfoldable pub lies : ℕ → List ℕ
lies i = 0 ∷ pick (ltb i 2) 0 1 ∷ []

lies_bytes : (i : ℕ) → All Byte (lies i)
unfolding lies pick
lies_bytes i = go (ltb i 2)
  where
    go : (c : Bool) → All Byte (0 ∷ pick c 0 1 ∷ [])
    go true = (omega arith, (omega arith, tt))
    go false = (omega arith, (omega arith, tt))

pub lies_correct : Correct (line_of small) (root_of 4 lies) (piece_of lies) (paths_of lies)
unfolding lies
lies_correct = tree_correct lies (λ i. omega arith) (λ i. omega arith) lies_bytes

-- what two equal leaves give, and whether two nodes give one root with themselves and with another: each hash below is computed once
unfoldable twin : List ℕ → List ℕ
twin h = node_hash sha256 h h

unfoldable one_root : List ℕ → List ℕ → Bool
one_root x y = same (node_hash sha256 x x) (node_hash sha256 x y)

computed : one_root (twin (leaf_hash sha256 (0 ∷ 0 ∷ []))) (twin (leaf_hash sha256 (0 ∷ 1 ∷ []))) ≡ false
unfolding twin one_root leaf_hash node_hash pick part same ◌⊞◌ not32 shr rotr ch maj Σ₀ Σ₁ σ₀ σ₁ K H0 tab word_at expand next_word words T₁ T₂ round rounds sums
    compress byte_of pad_zeros pad block_at chain digest sha256
computed = refl

other_root : same (root_of 4 (fragment_for small [])) (root_of 4 lies) ≡ false
unfolding twin one_root lies root_of root tree_of tree half doubled pick fragment_for fragment_of fragment_byte row value block header rows tab part mul times
    double add
other_root = computed

-- the fragments of boards 1 and 2, the k lowest, give a block that can be read, with the empty message
lies_read : read_from small (1 ∷ 2 ∷ []) (kept_all lies) ≡ some []
unfolding lies read_from block_read all_of_length readable rows block_message block_through through slopes attach pick part four_at mul times double add inverse
    power logs
lies_read = refl

-- so this is void because the root of the fresh encoding is another
pub lies_void : result_of_all lies ≡ none
unfolding bits_of set_of result_of result_from marks afresh pick
lies_void = rw (lies_read, other_root)
