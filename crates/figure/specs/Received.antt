-- What a party of a figure has received, from which parties, and how many of them are for one thing.
use Rattle.std.specs.Prelude.{ℕ, zero, suc, List, Bool, false, eqb}
use Rattle.std.proofs.Math.Option.{Option, none, some}
use Rattle.octets.specs.Bytes.{pick, same}
use Rattle.octets.specs.Sets.{has, set_of}
use Rattle.table.specs.declared.Table.{Table}

-- departure of document 01: "only the first echo and vote of a board count"
unfoldable pub first : {X : Type 0} → Option X → X → Option X
first none v = some v
first (some u) v = some u

-- with v received from P_i
unfoldable pub noted : {X : Type 0} → ℕ → X → (ℕ → Option X) → ℕ → Option X
noted i v f j = pick (eqb j i) (first (f j) v) (f j)

-- "distinct parties": those of which a test holds, P_i as bit i - 1, are the ones of such a set
unfoldable pub parties : Table → (ℕ → Bool) → ℕ
parties b P = set_of (λ i. P (suc i)) 0 b.n

-- whether what was received from a party is for v
unfoldable pub is_for : List ℕ → Option (List ℕ) → Bool
is_for v none = false
is_for v (some u) = same u v

-- "received .. from" these, all for v: f has what was received from each
abbrev pub parties_for : Table → (ℕ → Option (List ℕ)) → List ℕ → ℕ
parties_for b f v = parties b (λ i. is_for v (f i))

-- what a board of bytes shows of that: the set of boards heard, and what is kept of each; P_(i + 1) is bit i
unfoldable pub shown : {X : Type 0} → ℕ → (ℕ → X) → ℕ → Option X
shown set kept zero = none
shown set kept (suc i) = pick (has set i) (some (kept i)) none
