-- Values that begin with their lengths are the same when the bytes after the lengths are, so counting the ones counts the others.
-- Assumes nothing.
use mathlib.Core.Path.{◌≡◌, refl, sym, ap, ◌∙◌}
use Prim.Native.Nat.{ℕ, ◌+◌, ◌≤◌, ◌<◌}
use mathlib.Core.List.{List}
use mathlib.Core.Bool.{Bool, true, false, ◌&&◌}
use native.Mathlib.Omega.{arith}
use borrow.Author.Tests.{eq-eqb}
use lib.Count.{ones}
use lib.ListN.{length, get_or}
use lib.Dec.{leb, eqb}
use Rattle.octets.specs.Bytes.{part, same}
use Rattle.octets.specs.Sets.{has}
use Rattle.octets.proofs.Laws.{length_part}
use Rattle.octets.proofs.Members.{set_of_ext, some_ext}
use Rattle.octets.proofs.Sames.{same_equal}
use Rattle.state.specs.Sound.{naming, reaches}
use Rattle.state.proofs.Tallies.{and_none}
use Rattle.naming.proofs.Values.{sized_parts}

-- the value at a with its length, and without
abbrev pub with_length : List ℕ → ℕ → List ℕ
with_length s a = part a (1 + get_or s a 0) s

-- without
abbrev pub bare : List ℕ → ℕ → List ℕ
bare s a = part (a + 1) (get_or s a 0) s

-- such a value is whole in s
abbrev pub Whole : List ℕ → ℕ → Type 0
Whole s a = a + 1 + get_or s a 0 ≤ length s

pub same_bare : (s r : List ℕ) (a b : ℕ) → Whole s a → Whole r b → same (with_length s a) (with_length r b) ≡ same (bare s a) (bare r b)
unfolding same
same_bare s r a b h k =
    rw (sized_parts s a (get_or s a 0) (omega arith), sized_parts r b (get_or r b 0) (omega arith)) (go (same (bare s a) (bare r b)) refl)
  where
    go : (c : Bool) → same (bare s a) (bare r b) ≡ c → (eqb (get_or s a 0) (get_or r b 0) && same (bare s a) (bare r b)) ≡ same (bare s a) (bare r b)
    go true e =
        let l : length (bare s a) ≡ length (bare r b) = ap length (same_equal (bare s a) (bare r b) e) in
        let u : length (bare s a) ≡ get_or s a 0 = length_part (a + 1) (get_or s a 0) s h in
        let v : length (bare r b) ≡ get_or r b 0 = length_part (b + 1) (get_or r b 0) r k in
        rw (eq-eqb (get_or s a 0) (get_or r b 0) (sym u ∙ l ∙ v))
    go false e = rw e (and_none (eqb (get_or s a 0) (get_or r b 0)) false refl)

module _ (s : List ℕ) (place : ℕ → ℕ) (n set : ℕ) (whole : (i : ℕ) → i < n → Whole s (place i)) where
  pub naming_bare : (r : List ℕ) (b : ℕ) → Whole r b
      → naming n set (λ i. with_length s (place i)) (with_length r b) ≡ naming n set (λ i. bare s (place i)) (bare r b)
  unfolding naming
  naming_bare r b k =
      set_of_ext (λ i. has set i && same (with_length s (place i)) (with_length r b)) (λ i. has set i && same (bare s (place i)) (bare r b)) 0 n
      (λ i l. ap (λ (x : Bool). has set i && x) (same_bare s r (place i) b (whole i (omega arith)) k))

  pub reaches_bare : (q : ℕ) → reaches n q set (λ i. with_length s (place i)) ≡ reaches n q set (λ i. bare s (place i))
  unfolding reaches
  reaches_bare q =
      some_ext (λ i. has set i && leb q (ones (naming n set (λ j. with_length s (place j)) (with_length s (place i)))))
      (λ i. has set i && leb q (ones (naming n set (λ j. bare s (place j)) (bare s (place i))))) 0 n
      (λ i l. ap (λ (x : ℕ). has set i && leb q (ones x)) (naming_bare s (place i) (whole i (omega arith))))
