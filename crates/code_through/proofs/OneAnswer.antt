-- The promise of rebuilding fixes one answer: whether a block agrees is decided.
-- Assumes nothing.
use mathlib.Core.Path.{◌≡◌, refl, sym, ap, ◌∙◌, subst}
use mathlib.Core.Logic.{◌⊎◌, inl, inr, ⊎_elim}
use mathlib.Core.Bool.{Bool, true, false}
use mathlib.Core.List.{List}
use Prim.Native.Nat.{ℕ, zero, suc, ◌*◌, ◌/◌, ◌^◌, ◌<◌, ◌≤◌}
use native.Mathlib.Nat as N
use native.Mathlib.Omega.{arith}
use lib.Count.{ones}
use lib.ListN.{get_or, take}
use Rattle.octets.specs.Bytes.{part, same}
use Rattle.octets.specs.Sets.{has}
use Rattle.code.specs.Code.{fragment_of}
use Rattle.code.proofs.Lists.{false≢true}
use Rattle.code_through.specs.Rebuild.{Agrees}
use Rattle.code_through.specs.Through.{marks, fragment_in_area, block_through}
use Rattle.octets.proofs.Sames.{same_equal, same_self}
use Rattle.code_through.proofs.Agree.{length_first}
use Rattle.code_through.proofs.Interpolation.{length_block_through, bytes_block_through, byte_in, agrees_through}

-- ---- what holds of each number below n is decided, if it is for each

abbrev Decided : Type 0 → Type 0
Decided A = A ⊎ (A → ⊥)

below_decided : (Q : ℕ → Type 0) → ((i : ℕ) → Decided (Q i)) → (n : ℕ) → Decided ((i : ℕ) → i < n → Q i)
below_decided Q d zero = inl (λ i h. absurd (omega arith))
below_decided Q d (suc n) =
    ⊎_elim
    (λ f.
    ⊎_elim
    (λ q. inl (λ i h. ⊎_elim (λ e. subst Q (sym e) q) (f i) (N.eq-or-lt_of_le (N.le_of_suc-le-suc h))))
    (λ no. inr (λ g. no (g n (omega arith))))
    (d n))
    (λ no. inr (λ g. no (λ i h. g i (omega arith))))
    (below_decided Q d n)

equal_decided : (xs ys : List ℕ) → Decided (xs ≡ ys)
equal_decided xs ys = by (same xs ys) refl
  where
    by : (b : Bool) → same xs ys ≡ b → Decided (xs ≡ ys)
    by true e = inl (same_equal xs ys e)
    by false e = inr (λ q. false≢true (sym e ∙ ap (same xs) (sym q) ∙ same_self xs))

if_decided : (b : Bool) (A : Type 0) → Decided A → Decided (b ≡ true → A)
if_decided true A d = ⊎_elim (λ a. inl (λ e. a)) (λ no. inr (λ f. no (f refl))) d
if_decided false A d = inl (λ e. absurd (false≢true e))

module _ (n k s len marked : ℕ) (area : List ℕ) (pos : 0 < k) (few : n ≤ 64) (below : marked / 2 ^ n ≡ 0) (enough : k ≤ ones marked)
    (small : (p : ℕ) → get_or area p 0 < 256) where
  -- the only block that can agree
  unfoldable pub candidate : List ℕ
  candidate = block_through len (take k (marks 1 n marked)) (fragment_in_area s len area)

  -- either it does, or none
  pub agrees_decided : Agrees n k s len marked area candidate ⊎ ((b : List ℕ) → Agrees n k s len marked area b → ⊥)
  unfolding candidate
  agrees_decided =
      ⊎_elim
      (λ f. inl (record {
        size = length_block_through (take k (marks 1 n marked)) (fragment_in_area s len area) len
            ∙ ap (λ (m : ℕ). len * m) (length_first n k s len marked area pos few below enough);
        bytes = bytes_block_through (take k (marks 1 n marked)) (fragment_in_area s len area) len (byte_in n k s len marked area pos few below small);
        same = f;
      }))
      (λ no. inr (λ b a. no (λ i h m.
      ap (λ (l : List ℕ). fragment_of k l (suc i)) (agrees_through n k s len marked area pos few below enough b a) ∙ a.same i h m)))
      (below_decided (λ (i : ℕ). has marked i ≡ true → fragment_of k candidate (suc i) ≡ part (i * s) len area)
      (λ i. if_decided (has marked i) (fragment_of k candidate (suc i) ≡ part (i * s) len area)
      (equal_decided (fragment_of k candidate (suc i)) (part (i * s) len area))) n)
