-- What encoding answers and leaves in every buffer, for every input: document 01, "Encoding (fragments, root, paths): 1, 2, 13".
use Rattle.std.specs.Prelude.{not, ◌||◌, List, ℕ, zero, suc, ◌*◌, ltb, length}
use Rattle.octets.specs.Bytes.{pick, put, place_each}
use Rattle.table.specs.Table.{limits, k_of, s_max}
use Rattle.table.specs.declared.Table.{Table}
use Rattle.tree.specs.Tree.{root_of, path_of, flat}
use Rattle.code.specs.Block.{rows}
use Rattle.code_encode.specs.Message.{fragment_for}
use Rattle.refusal.specs.Answers.{sized}
use Rattle.refusal.specs.declared.Sized.{Sized}

-- the first refusal that applies, or 0
unfoldable pub encode_refusal : Table → List ℕ → List ℕ → List ℕ → List ℕ → ℕ
encode_refusal b message area root paths =
    pick (not (limits b)) 1
    (pick (ltb (length area) (b.n * s_max b) || (ltb (length root) 32 || ltb (length paths) (b.n * 192))) 2
    (pick (ltb b.longest (length message)) 13 0))

-- the answer, and the three buffers after the call
pub record Encoded : Type 0 where
  pub answer : Sized
  pub area : List ℕ
  pub root : List ℕ
  pub paths : List ℕ

-- the answer and the three buffers, as one
abbrev pub encoded : Sized → List ℕ → List ℕ → List ℕ → Encoded
encoded x a r p = record { answer = x; area = a; root = r; paths = p }

-- refused and nothing written, or fragments, root and paths written
unfoldable pub encode_by : ℕ → Table → List ℕ → List ℕ → List ℕ → List ℕ → Encoded
encode_by (suc q) b message area root paths = encoded (sized (suc q) 0) area root paths
encode_by zero b message area root paths =
    encoded (sized 0 (rows (k_of b) (length message))) (place_each b.n (s_max b) (fragment_for b message) area)
    (put 0 (root_of b.n (fragment_for b message)) root)
    (place_each b.n 192 (λ i. flat (path_of b.n (fragment_for b message) i)) paths)

-- "Encoding (fragments, root, paths): 1, 2, 13": the call, whole
unfoldable pub encode_of : Table → List ℕ → List ℕ → List ℕ → List ℕ → Encoded
encode_of b message area root paths = encode_by (encode_refusal b message area root paths) b message area root paths
