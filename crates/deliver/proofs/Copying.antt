-- The message, written column by column.
-- Assumes nothing.
use mathlib.Core.Path.{◌≡◌, sym, ap, ◌∙◌}
use mathlib.Core.Logic.{◌⊎◌, inl, inr, ⊎_elim}
use mathlib.Core.List.{List}
use Prim.Native.Nat.{ℕ, suc, ◌+◌, ◌-◌, ◌*◌, ◌/◌, ◌%◌, ◌<◌, ◌≤◌}
use native.Mathlib.Nat as N
use native.Mathlib.Omega.{arith}
use lib.ListN.{length, get_or, set}
use lib.Seq.{get_or-set_same, get_or-set_other, ext_get_or}
use Rattle.octets.specs.Bytes.{part, put}
use Rattle.octets.proofs.Laws.{length_part, length_put, get_d_put_in, get_d_put_out}
use Rattle.octets.proofs.Walk.{lt_or_le}
use Rattle.octets.proofs.Parts.{get_d_part}
use Rattle.deliver.specs.Working.{Copied}

module _ (b : List ℕ) (n k q c : ℕ) (old new : List ℕ) (w : Copied b n k (suc q) c old new) where
  -- what is in column q and row c stands at c * k + q
  here : (p : ℕ) → suc ((p + 4) % k) ≡ suc q → c ≤ (p + 4) / k → (p + 4) / k < c + 1 → p + 4 ≡ c * k + q
  here p e g h =
      let r : (p + 4) / k ≡ c = omega arith in
      let m : (p + 4) % k ≡ q = omega arith in
      sym (N.div-add-mod' (p + 4) k) ∙ ap (λ (r : ℕ). r * k + (p + 4) % k) r ∙ ap (λ (m : ℕ). c * k + m) m

  -- a byte that is not the message's is left out
  pub copied_skip : (c * k + q < 4) ⊎ (4 + n ≤ c * k + q) → Copied b n k (suc q) (c + 1) old new
  copied_skip out = record {
    columns = w.columns;
    rows = λ p h e g. ⊎_elim (λ l. w.rows p h e l) (λ l. absurd (never p h (here p e l g) out)) (lt_or_le ((p + 4) / k) c);
    after = w.after;
  }
    where
      never : (p : ℕ) → p < n → p + 4 ≡ c * k + q → (c * k + q < 4) ⊎ (4 + n ≤ c * k + q) → ⊥
      never p h e (inl l) = omega arith
      never p h e (inr l) = omega arith

  -- a byte of the message is written
  pub copied_store : (v : ℕ) → v ≡ get_or b (c * k + q) 0 → 4 ≤ c * k + q → c * k + q < 4 + n → n ≤ length new
      → Copied b n k (suc q) (c + 1) old (set new (c * k + q - 4) v)
  copied_store v e lo hi room = record {
    columns = λ p h g. at p h (λ no. w.columns p h g);
    rows = λ p h g m. at p h (λ no. ⊎_elim (λ l. w.rows p h g l) (λ l. absurd (no (here p g l m))) (lt_or_le ((p + 4) / k) c));
    after = λ p h. get_or-set_other new (c * k + q - 4) p v 0 (λ z. omega arith) ∙ w.after p h;
  }
    where
      same_or_not : (x y : ℕ) → (x ≡ y) ⊎ (x ≡ y → ⊥)
      same_or_not x y = ⊎_elim (λ l. inr (λ e. omega arith)) (λ l. ⊎_elim (λ e. inl (sym e)) (λ h. inr (λ e. omega arith)) (N.eq-or-lt_of_le l)) (lt_or_le x y)

      at : (p : ℕ) → p < n → ((p + 4 ≡ c * k + q → ⊥) → get_or new p 0 ≡ get_or b (p + 4) 0) → get_or (set new (c * k + q - 4) v) p 0 ≡ get_or b (p + 4) 0
      at p h f =
          ⊎_elim
          (λ z.
          let y : c * k + q - 4 ≡ p = omega arith in
          ap (λ (i : ℕ). get_or (set new i v) p 0) y ∙ get_or-set_same new p v 0 (omega arith) ∙ e ∙ ap (λ (i : ℕ). get_or b i 0) (sym z))
          (λ no. get_or-set_other new (c * k + q - 4) p v 0 (λ y. no (omega arith)) ∙ f no)
          (same_or_not (p + 4) (c * k + q))

module _ (b : List ℕ) (n k : ℕ) (old : List ℕ) (pos : 0 < k) where
  -- nothing is written yet
  pub copied_none : Copied b n k k 0 old old
  copied_none = record {
    columns = λ p h g. absurd (omega (arith, N.mod-lt (p + 4) pos));
    rows = λ p h e g. absurd (omega arith);
    after = λ p h. ap (λ (i : ℕ). get_or old i 0) (λ j. p);
  }

  -- a column is whole
  pub copied_next : (i len : ℕ) (new : List ℕ) → 4 + n ≤ len * k → Copied b n k (suc i) len old new → Copied b n k i 0 old new
  copied_next i len new fits w = record {
    columns = λ p h g. ⊎_elim (λ l. w.columns p h l) (λ l. w.rows p h (omega arith) ((N.div-lt_iff_lt-mul pos).1 (omega arith)))
        (lt_or_le i ((p + 4) % k));
    rows = λ p h e g. absurd (omega arith);
    after = w.after;
  }

  -- every column is
  pub copied_all : (c : ℕ) (new : List ℕ) → length new ≡ length old → n ≤ length old → 4 + n ≤ length b → Copied b n k 0 c old new → new ≡ put 0 (part 4 n b) old
  copied_all c new size room fits w =
      ext_get_or 0 new (put 0 (part 4 n b) old) (size ∙ sym (length_put 0 (part 4 n b) old))
      (λ p g.
      let l : length (part 4 n b) ≡ n = length_part 4 n b fits in
      ⊎_elim
      (λ h.
      w.columns p h (omega arith) ∙ ap (λ (i : ℕ). get_or b i 0) (N.add_comm p 4) ∙ sym (get_d_part 4 n p b h)
      ∙ sym (ap (λ (i : ℕ). get_or (put 0 (part 4 n b) old) i 0) (sym (N.zero-add p)) ∙ get_d_put_in (part 4 n b) old 0 p (omega arith) (omega arith)))
      (λ h. w.after p h ∙ sym (get_d_put_out (part 4 n b) old 0 p (inr (omega arith))))
      (lt_or_le p n))
