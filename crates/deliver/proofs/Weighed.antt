-- The block through the kept fragments: its bytes, and the values of its rows, are the kept bytes by their weights.
-- Assumes nothing.
use mathlib.Core.Path.{◌≡◌, sym, ap, ◌∙◌, subst}
use mathlib.Core.Logic.{⊎_elim}
use mathlib.Core.List.{List, [], map}
use Prim.Native.Nat.{ℕ, ◌-◌, ◌*◌, ◌/◌, ◌%◌, ◌<◌, ◌≤◌}
use native.Mathlib.Nat as N
use native.Mathlib.Omega.{arith}
use lib.ListN.{length, get_or, get_or-eq_default}
use Rattle.octets.specs.Bytes.{part}
use Rattle.octets.proofs.Walk.{lt_or_le}
use Rattle.octets.proofs.Tables.{get_d_tab}
use Rattle.code.specs.Code.{Byte, Apart, value, row}
use Rattle.code.proofs.Lists.{all_of, map_at}
use Rattle.code_sum.specs.Sums.{cell}
use Rattle.code_through.specs.Sums.{Master, Scales}
use Rattle.code_through.specs.Through.{block_through}
use Rattle.octets.proofs.Parts.{get_d_part}
use Rattle.code_through.proofs.Rows.{get_d_row, cell_row}
use Rattle.code_through.proofs.Columns.{coefficient, coefficient_lt, by_weights}
use Rattle.code_through.proofs.Others.{line, size, at_points, at_other, bytes_line}
use Rattle.code_through.proofs.Interpolation.{length_block_through, through_only, row_block_through}
use Rattle.deliver_afresh.specs.Working.{Made}
use Rattle.deliver.specs.Working.{Whole}

module _ (area : List ℕ) (s : ℕ) (ps m ds : List ℕ) (M : Master ps m) (apart : Apart ps) (small : (i : ℕ) → get_or ps i 0 < 256)
    (bytes_m : (i : ℕ) → get_or m i 0 < 256) (S : Scales ps m ds) (bytes_a : (i : ℕ) → get_or area i 0 < 256)
    (len : ℕ) (fragment : ℕ → List ℕ)
    (given : (i : ℕ) → i < length ps → fragment (get_or ps i 0) ≡ part ((get_or ps i 0 - 1) * s) len area) where
  -- byte c of each of the kept fragments
  there : (c : ℕ) → c < len → map (λ x. get_or (fragment x) c 0) ps ≡ map (cell area s c) ps
  unfolding cell
  there c h =
      map_at (λ x. get_or (fragment x) c 0) (cell area s c) ps
      (λ i g. ap (λ (f : List ℕ). get_or f c 0) (given i g) ∙ get_d_part ((get_or ps i 0 - 1) * s) len c area h)

  -- row c of the block
  by_line : (c : ℕ) → c < len → row (length ps) (block_through len ps fragment) c ≡ line area s ps m ds c
  by_line c h =
      row_block_through ps fragment len c h
      ∙ through_only ps (map (λ x. get_or (fragment x) c 0) ps) (line area s ps m ds c) (size area s ps m ds M apart small bytes_m S bytes_a c) apart
      (all_of Byte ps (λ i g. small i)) (bytes_line area s ps m ds M apart small bytes_m S bytes_a c)
      (map_at (value (line area s ps m ds c)) (cell area s c) ps (at_points area s ps m ds M apart small bytes_m S bytes_a c) ∙ sym (there c h))

  in_line : (c q : ℕ) → q < length ps → get_or (line area s ps m ds c) q 0 ≡ coefficient area s ps m ds c q
  unfolding line
  in_line c q h = get_d_tab (length ps) (coefficient area s ps m ds c) q h

  small_byte : 0 < length ps → (p : ℕ) → get_or (block_through len ps fragment) p 0 < 256
  small_byte pos p =
      let k = length ps in
      let b = block_through len ps fragment in
      ⊎_elim
      (λ h.
      let c : p / length ps < len = (N.div-lt_iff_lt-mul pos).1 h in
      subst (λ (v : ℕ). v < 256)
      (sym (cell_row k b p pos ∙ ap (λ (l : List ℕ). get_or l (p % k) 0) (by_line (p / k) c) ∙ in_line (p / k) (p % k) (N.mod-lt p pos)))
      (coefficient_lt area s ps m ds len [] (p / k) (p % k)))
      (λ h.
      let over : length (block_through len ps fragment) ≤ p = omega (arith, length_block_through ps fragment len) in
      subst (λ (v : ℕ). v < 256) (sym (get_or-eq_default b 0 over)) (omega arith))
      (lt_or_le p (len * length ps))

  made : 0 < length ps → Made area s ps m ds len (block_through len ps fragment)
  made pos = record {
    product = M;
    scales = S;
    size = length_block_through ps fragment len;
    small = small_byte pos;
    byte = λ ws c q h g w. by_weights area s ps m ds len [] ws q c w ∙ sym (in_line c q g)
        ∙ ap (λ (l : List ℕ). get_or l q 0) (sym (by_line c h)) ∙ get_d_row (length ps) c q (block_through len ps fragment) g;
    at = λ ws c z h v. sym (at_other area s ps m ds M apart small bytes_m S bytes_a z ws c v) ∙ ap (λ (l : List ℕ). value l z) (sym (by_line c h));
  }

-- whatever product and scales it is worked out by
pub whole : (area : List ℕ) (s : ℕ) (ps : List ℕ) → Apart ps → ((i : ℕ) → get_or ps i 0 < 256) → ((i : ℕ) → get_or area i 0 < 256) → (len : ℕ) (fragment : ℕ → List ℕ)
    → ((i : ℕ) → i < length ps → fragment (get_or ps i 0) ≡ part ((get_or ps i 0 - 1) * s) len area) → 0 < length ps
    → Whole area s ps len (block_through len ps fragment)
whole area s ps apart small bytes len fragment given pos m ds M S = made area s ps m ds M apart small M.small S bytes len fragment given pos
