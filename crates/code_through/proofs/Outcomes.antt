-- What rebuilding answers: the block that agrees, or that there is none.
-- Assumes nothing.
use mathlib.Core.Path.{◌≡◌, refl, sym, ap, ◌∙◌, subst}
use mathlib.Core.Logic.{inr, ⊎_elim}
use mathlib.Core.Bool.{Bool, true, false}
use mathlib.Core.List.{List}
use Prim.Native.Nat.{ℕ, ◌+◌, ◌*◌, ◌/◌, ◌%◌, ◌^◌, ◌<◌, ◌≤◌}
use native.Mathlib.Nat as N
use native.Mathlib.Omega.{arith}
use lib.Count.{ones}
use lib.ListN.{length, get_or, take}
use lib.Seq.{length-take-le, get_or-take, ext_get_or}
use Rattle.octets.specs.Bytes.{put}
use Rattle.octets.proofs.Laws.{length_put, get_d_put_out, get_d_put_in}
use Rattle.octets.proofs.Walk.{lt_or_le}
use Rattle.code.specs.Code.{Byte, row}
use Rattle.code.proofs.Lists.{all_of}
use Rattle.code_through.specs.Rebuild.{Agrees, Rebuilt}
use Rattle.code_through.specs.Through.{marks}
use Rattle.code_through.specs.Fits.{Fit, Solved, Some}
use Rattle.code_through.specs.Sums.{Remade}
use Rattle.code.proofs.Lists.{all_at}
use Rattle.code_through.proofs.Rows.{first_fit, first_take, some_same, row_ends, length_row, get_d_row, cell_row, same_cells}
use Rattle.code_through.proofs.Agree.{agrees_some, fit_agrees, enough_marks, length_first}

-- the rows of the front of a list
front_row : (k len c : ℕ) (new : List ℕ) → c < len → len * k ≤ length new → row k (take (len * k) new) c ≡ row k new c
front_row k len c new h room =
    let r : c * k + k ≤ len * k = row_ends c k len h in
    let m : length (row k (take (len * k) new) c) ≡ k = length_row k c (take (len * k) new) (omega (arith, length-take-le (len * k) new room)) in
    ext_get_or 0 (row k (take (len * k) new) c) (row k new c) (m ∙ sym (length_row k c new (omega arith)))
    (λ q g. let b : q < k = omega arith in
    get_d_row k c q (take (len * k) new) b ∙ get_or-take (len * k) new (c * k + q) 0 (omega arith) ∙ sym (get_d_row k c q new b))

module _ (n k s len marked : ℕ) (area : List ℕ) (pos : 0 < k) (few : n ≤ 64) (below : marked / 2 ^ n ≡ 0) (enough : k ≤ ones marked)
    (room : n * s ≤ length area) (low : len ≤ s) (old new : List ℕ) (same : length new ≡ length old) (fits : len * k ≤ length old) where
  size : length (take k (marks 1 n marked)) ≡ k
  size = length_first n k s len marked area pos few below enough

  -- ---- where all marked fragments agree, and the rows are written

  module _ (w : Remade area s (take k (marks 1 n marked)) (marks 1 n marked) len old new true) where
    each : (c : ℕ) → c < len → Solved area s c (take k (marks 1 n marked)) (row k new c)
    each c h = subst (λ (m : ℕ). Solved area s c (take k (marks 1 n marked)) (row m new c)) size ((w.found refl).1.each c h)

    -- each row written gives all marked fragments
    line : (c : ℕ) (h : c < len) → ((w.found refl).0 c h).line ≡ row k new c
    line c h =
        some_same area s c (take k (marks 1 n marked)) (marks 1 n marked) (row k new c)
        (first_take k (marks 1 n marked) (enough_marks n k s len marked area pos few below enough)) (each c h) ((w.found refl).0 c h)

    agreeing : Agrees n k s len marked area (take (len * k) new)
    agreeing =
        let l : length (take (len * k) new) ≡ len * k = length-take-le (len * k) new (omega arith) in
        fit_agrees n k s len marked area pos room low (take (len * k) new) l
        (all_of Byte (take (len * k) new) (λ p h.
        let c : p / k < len = (N.div-lt_iff_lt-mul pos).1 (omega arith) in
        let m = (w.found refl).0 (p / k) c in
        subst (λ (v : ℕ). v < 256)
        (ap (λ (r : List ℕ). get_or r (p % k) 0) (line (p / k) c ∙ sym (front_row k len (p / k) new c (omega arith))) ∙ sym (cell_row k (take (len * k) new) p pos))
        (all_at Byte m.line m.bytes (p % k) (omega (arith, m.size, size, N.mod-lt p pos)))))
        (λ c h. subst (Fit area s c (marks 1 n marked)) (line c h ∙ sym (front_row k len c new h (omega arith))) ((w.found refl).0 c h).fits)

    written : (b : List ℕ) → Agrees n k s len marked area b → new ≡ put 0 b old
    unfolding agrees_some
    written b a =
        ext_get_or 0 new (put 0 b old) (same ∙ sym (length_put 0 b old))
        (λ p h. ⊎_elim
        (λ l.
        same_cells k len new b pos
        (λ c g. let m = agrees_some n k s len marked area pos b a c g in
        sym ((each c g).only (row k b c) (m.size ∙ sym size) m.bytes
        (first_fit area s c (take k (marks 1 n marked)) (marks 1 n marked) (row k b c)
        (first_take k (marks 1 n marked) (enough_marks n k s len marked area pos few below enough)) m.fits)))
        p l
        ∙ sym (ap (λ (q : ℕ). get_or (put 0 b old) q 0) (sym (N.zero-add p)) ∙ get_d_put_in b old 0 p (omega (arith, a.size)) (omega (arith, a.size))))
        (λ l.
        (w.found refl).1.after p (subst (λ (m : ℕ). len * m ≤ p) (sym size) l)
        ∙ sym (get_d_put_out b old 0 p (inr (omega (arith, a.size)))))
        (lt_or_le p (len * k)))

  -- the answer about rows is the answer about blocks
  pub rebuilt : (r : Bool) → Remade area s (take k (marks 1 n marked)) (marks 1 n marked) len old new r → Rebuilt n k s len marked area old r new
  rebuilt true w = record {
    found = λ b a. (refl, written w b a);
    none = λ no. absurd (no (take (len * k) new) (agreeing w));
  }
  rebuilt false w = record {
    found = λ b a. absurd ((w.refused refl).1
        (λ c h. subst (Some area s c (marks 1 n marked)) (sym size) (agrees_some n k s len marked area pos b a c h)));
    none = λ no. (refl, (w.refused refl).0);
  }
