-- What a promise fixes is one thing only: one theorem for each call.
-- Assumes nothing.
use mathlib.Core.Path.{◌≡◌, refl, sym, ap, ◌∙◌}
use mathlib.Core.Bool.{Bool}
use mathlib.Core.Logic.{⊎_elim}
use mathlib.Core.List.{List}
use Prim.Native.Nat.{ℕ, zero, suc, ◌<◌}
use lib.ListN.{get_or}
use Rattle.table.specs.Table.{k_of, s_max}
use Rattle.table.specs.declared.Table.{Table}
use Rattle.table.proofs.Within.{within, k_pos}
use Rattle.tree.specs.Check.{path_correct}
use Rattle.code_through.proofs.OneAnswer.{agrees_decided}
use Rattle.code_calls.specs.Hashing.{hash_of}
use Rattle.code_calls.specs.Encoding.{encoded, encode_of}
use Rattle.code_calls.specs.Rebuilding.{common_length, rebuild_refusal, Rebuilds}
use Rattle.code_calls.specs.Reading.{read_out, read_of}
use Rattle.refusal.specs.declared.Sized.{Sized}
use Rattle.code_calls.specs.declared.Digest.{Digest}
use Rattle.code_calls.proofs.Taken.{rebuild_taken}

pub hash_one : (m : List ℕ) (r r' : Digest) → r ≡ hash_of m → r' ≡ hash_of m → r ≡ r'
hash_one m r r' e e' = e ∙ sym e'

pub path_one : (n i : ℕ) (root path fragment : List ℕ) (r r' : Bool) → r ≡ path_correct n i root path fragment → r' ≡ path_correct n i root path fragment → r ≡ r'
path_one n i root path fragment r r' e e' = e ∙ sym e'

pub encode_one : (b : Table) (message area root paths : List ℕ) (x y : Sized) (ax rx px ay ry py : List ℕ)
    → encoded x ax rx px ≡ encode_of b message area root paths → encoded y ay ry py ≡ encode_of b message area root paths
    → (x ≡ y) × (ax ≡ ay) × (rx ≡ ry) × (px ≡ py)
encode_one b message area root paths x y ax rx px ay ry py e g =
    let z = e ∙ sym g in
    (ap (λ w. w.answer) z, ap (λ w. w.area) z, ap (λ w. w.root) z, ap (λ w. w.paths) z)

pub read_one : (b : Table) (given message : List ℕ) (x y : Sized) (mx my : List ℕ)
    → read_out x mx ≡ read_of b given message → read_out y my ≡ read_of b given message → (x ≡ y) × (mx ≡ my)
read_one b given message x y mx my e g = let z = e ∙ sym g in (ap (λ w. w.answer) z, ap (λ w. w.message) z)

-- the area is bytes, and one block at most agrees with it
pub rebuild_one : (b : Table) (marked : ℕ) (lengths area out : List ℕ) → ((p : ℕ) → get_or area p 0 < 256) → (r r' : Sized) (new new' : List ℕ)
    → Rebuilds b marked lengths area out r new → Rebuilds b marked lengths area out r' new' → (r ≡ r') × (new ≡ new')
rebuild_one b marked lengths area out small r r' new new' w w' = by (rebuild_refusal b marked lengths area out) refl
  where
    both : {q q' x : Sized} {m m' y : List ℕ} → (q ≡ x) × (m ≡ y) → (q' ≡ x) × (m' ≡ y) → (q ≡ q') × (m ≡ m')
    both (a, c) (a', c') = (a ∙ sym a', c ∙ sym c')

    by : (q : ℕ) → rebuild_refusal b marked lengths area out ≡ q → (r ≡ r') × (new ≡ new')
    by (suc q) z = both (w.refused q z) (w'.refused q z)
    by zero z =
        let t = rebuild_taken b marked lengths area out z in
        let n = within b t.limited in
        ⊎_elim
        (λ a. both (w.found z _ a) (w'.found z _ a))
        (λ no. both (w.none z no) (w'.none z no))
        (agrees_decided b.n (k_of b) (s_max b) (common_length b.n marked lengths) marked area (k_pos b n) n.few t.below t.enough small)
