-- Fragments beyond those that the rows are rebuilt from.
-- Assumes nothing.
use mathlib.Core.Path.{◌≡◌, sym, ap, ◌∙◌, subst}
use mathlib.Core.Logic.{⊎_elim}
use mathlib.Core.List.{List, []}
use Prim.Native.Nat.{ℕ, suc, ◌+◌, ◌<◌, ◌≤◌}
use native.Mathlib.Omega.{arith}
use lib.ListN.{length, get_or, drop}
use borrow.Author.Count.{below_more}
use Rattle.field.specs.Field.{mul}
use Rattle.field.proofs.Laws as L
use Rattle.code.specs.Code.{All, Byte, Apart, value}
use Rattle.code_sum.specs.Sums.{cell}
use Rattle.code_through.specs.Fits.{First, Some}
use Rattle.octets.specs.Bytes.{tab}
use Rattle.octets.proofs.Tables.{length_tab, get_d_tab}
use Rattle.octets.proofs.Walk.{lt_or_le}
use Rattle.code.proofs.Lists.{all_of, map_at, at_map}
use Rattle.code_through.proofs.Rows.{solved, some_same}
use Rattle.code_sum.specs.Sums.{total, weighed}
use Rattle.code_through.specs.Sums.{quot, Master, Scales, Values, Sums}
use Rattle.code_sum.proofs.Totals.{total_same}
use Rattle.code_through.proofs.Weights.{takes, values}
use Rattle.code_through.proofs.Columns.{coefficient, coefficient_lt}

-- row c, by weights
unfoldable pub line : List ℕ → ℕ → List ℕ → List ℕ → List ℕ → ℕ → List ℕ
line area s ps m ds c = tab (length ps) (coefficient area s ps m ds c)

-- the rows by weights give the fragments xs, from those after the points to that before i
abbrev pub Good : List ℕ → ℕ → List ℕ → List ℕ → List ℕ → List ℕ → ℕ → ℕ → Type 0
Good area s ps m ds xs count i =
    (t : ℕ) → t < i → length ps ≤ t → (c : ℕ) → c < count → value (line area s ps m ds c) (get_or xs t 0) ≡ cell area s c (get_or xs t 0)

module _ (area : List ℕ) (s : ℕ) (ps m ds : List ℕ) (M : Master ps m) (apart : Apart ps) (small : (i : ℕ) → get_or ps i 0 < 256)
    (bytes_m : (i : ℕ) → get_or m i 0 < 256) (S : Scales ps m ds) (bytes_a : (i : ℕ) → get_or area i 0 < 256) where
  pub size : (c : ℕ) → length (line area s ps m ds c) ≡ length ps
  unfolding line
  size c = length_tab (length ps) (coefficient area s ps m ds c)

  pub sums : (c i : ℕ) → i < length ps → get_or (line area s ps m ds c) i 0
      ≡ total (λ j. mul (mul (get_or ds j 0) (value (drop (suc i) m) (get_or ps j 0))) (cell area s c (get_or ps j 0))) (length ps)
  unfolding line coefficient
  sums c i h = get_d_tab (length ps) (coefficient area s ps m ds c) i h

  byte : (c j : ℕ) → cell area s c (get_or ps j 0) < 256
  unfolding cell
  byte c j = bytes_a _

  pub at_points : (c i : ℕ) → i < length ps → value (line area s ps m ds c) (get_or ps i 0) ≡ cell area s c (get_or ps i 0)
  at_points c = takes ps m M apart small bytes_m ds S (λ j. cell area s c (get_or ps j 0)) (byte c) (line area s ps m ds c) (size c) (sums c)

  pub at_other : (z : ℕ) (ws : List ℕ) (c : ℕ) → Values ps m ds z ws → value (line area s ps m ds c) z ≡ weighed area s ps ws c (length ps)
  unfolding weighed
  at_other z ws c v =
      values ps m M apart small bytes_m ds S (λ j. cell area s c (get_or ps j 0)) (byte c) (line area s ps m ds c) (size c) (sums c) z
      ∙ total_same (λ j. mul (mul (get_or ds j 0) (cell area s c (get_or ps j 0))) (value (quot (get_or ps j 0) (drop 1 m)) z))
      (λ j. mul (get_or ws j 0) (cell area s c (get_or ps j 0))) (length ps)
      (λ j b. swap (get_or ds j 0) (cell area s c (get_or ps j 0)) (value (quot (get_or ps j 0) (drop 1 m)) z)
      ∙ ap (λ (w : ℕ). mul w (cell area s c (get_or ps j 0))) (sym (v j b)))
    where
      swap : (d y q : ℕ) → mul (mul d y) q ≡ mul (mul d q) y
      swap d y q = L.mul_assoc d y q ∙ ap (mul d) (L.mul_comm y q) ∙ sym (L.mul_assoc d q y)

  pub bytes_line : (c : ℕ) → All Byte (line area s ps m ds c)
  unfolding line
  bytes_line c = all_of Byte (line area s ps m ds c)
      (λ i b. subst (λ (v : ℕ). v < 256) (sym (get_d_tab (length ps) (coefficient area s ps m ds c) i (omega (arith, size c)))) (coefficient_lt area s ps m ds 0 [] c i))

  module _ (xs : List ℕ) (count : ℕ) (f : First ps xs) where
    pub good_next : (i : ℕ) (ws : List ℕ) → Values ps m ds (get_or xs i 0) ws → Good area s ps m ds xs count i
        → ((c : ℕ) → c < count → Sums area s ps ws (get_or xs i 0) c) → Good area s ps m ds xs count (i + 1)
    good_next i ws v g h =
        below_more (λ (t : ℕ). length ps ≤ t → (c : ℕ) → c < count → value (line area s ps m ds c) (get_or xs t 0) ≡ cell area s c (get_or xs t 0)) i g
        (λ l c b. at_other (get_or xs i 0) ws c v ∙ h c b)

    pub good_end : Good area s ps m ds xs count (length xs) → (c : ℕ) → c < count → Some area s c xs (length ps)
    good_end g c h = record {
      line = line area s ps m ds c;
      size = size c;
      bytes = bytes_line c;
      fits = map_at (value (line area s ps m ds c)) (cell area s c) xs
          (λ i b. ⊎_elim (λ l. subst (λ (x : ℕ). value (line area s ps m ds c) x ≡ cell area s c x) (f.same i l) (at_points c i l)) (λ l. g i b l c h)
          (lt_or_le i (length ps)));
    }

    pub bad : (i : ℕ) (ws : List ℕ) → i < length xs → Values ps m ds (get_or xs i 0) ws → (((c : ℕ) → c < count → Sums area s ps ws (get_or xs i 0) c) → ⊥)
        → ((c : ℕ) → c < count → Some area s c xs (length ps)) → ⊥
    bad i ws b v n all =
        n (λ c h. let q = all c h in
        let r = solved area s c ps (line area s ps m ds c) apart (size c) (all_of Byte ps (λ i b. small i)) (bytes_line c)
        (map_at (value (line area s ps m ds c)) (cell area s c) ps (at_points c)) in
        let e = some_same area s c ps xs (line area s ps m ds c) f r q in
        sym (at_other (get_or xs i 0) ws c v) ∙ ap (λ (l : List ℕ). value l (get_or xs i 0)) (sym e) ∙ at_map (value q.line) (cell area s c) xs q.fits i b)
