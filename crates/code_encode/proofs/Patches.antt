-- Runs of bytes, rooms and rows, written one after the other.
-- Assumes nothing.
use borrow.Author.Count.{below_more}
use mathlib.Core.Path.{◌≡◌, refl, sym, ap, ◌∙◌, subst}
use mathlib.Core.Logic.{◌⊎◌, inl, inr, ⊎_elim}
use mathlib.Core.List.{List}
use Prim.Native.Nat.{ℕ, suc, ◌+◌, ◌-◌, ◌*◌, ◌<◌, ◌≤◌}
use native.Mathlib.Omega.{arith}
use native.Mathlib.Nat as N
use lib.ListN.{length, get_or, set}
use lib.Seq.{ext_get_or, get_or-set_same, get_or-set_other}
use Rattle.octets.specs.Bytes.{put, place_each}
use Rattle.octets.proofs.Laws.{length_put, get_d_put_in, get_d_put_out}
use Rattle.octets.proofs.Places.{places_are}
use Rattle.octets.proofs.Walk.{lt_or_le}
use Rattle.code.specs.Code.{fragment_byte, fragment_of}
use Rattle.code.specs.Block.{rows, block}
use Rattle.code.proofs.Blocks.{enough, length_fragment, fragment_at}
use Rattle.code_encode.specs.Patch.{Filled, Patch}

-- ---- a run of bytes

-- one byte more is written
pub filled_next : (from n v : ℕ) (f : ℕ → ℕ) (old area : List ℕ) → from + n < length area → Filled from n f old area → v ≡ f n
    → Filled from (n + 1) f old (set area (from + n) v)
filled_next from n v f old area room w e = record {
  before = λ p h. get_or-set_other area (from + n) p v 0 (λ z. omega arith) ∙ w.before p h;
  each = below_more (λ (d : ℕ). get_or (set area (from + n) v) (from + d) 0 ≡ f d) n
      (λ d h. get_or-set_other area (from + n) (from + d) v 0 (λ z. omega arith) ∙ w.each d h)
      (get_or-set_same area (from + n) v 0 room ∙ e);
  after = λ p h. get_or-set_other area (from + n) p v 0 (λ z. omega arith) ∙ w.after p (omega arith);
}

-- nothing is written where the bytes are already those meant
pub filled_same : (from n : ℕ) (f : ℕ → ℕ) (old : List ℕ) → ((d : ℕ) → d < n → get_or old (from + d) 0 ≡ f d) → Filled from n f old old
filled_same from n f old e = record { each = e; before = λ p h. refl; after = λ p h. refl }

-- the same bytes, said in another way
pub filled_as : (from n : ℕ) (f g : ℕ → ℕ) (old new : List ℕ) → Filled from n f old new → ((d : ℕ) → d < n → f d ≡ g d) → Filled from n g old new
filled_as from n f g old new w e = record { each = λ d h. w.each d h ∙ e d h; before = w.before; after = w.after }

-- a column put in
pub filled_copy : (from : ℕ) (column old : List ℕ) → from + length column ≤ length old
    → Filled from (length column) (λ d. get_or column d 0) old (put from column old)
filled_copy from column old g = record {
  each = λ d b. get_d_put_in column old from d b g;
  before = λ p b. get_d_put_out column old from p (inl b);
  after = λ p b. get_d_put_out column old from p (inr b);
}

-- ---- room after room

pub patch_start : (at s n : ℕ) (f : ℕ → ℕ → ℕ) (old : List ℕ) → Patch at 0 s n f old old
patch_start at s n f old = record { each = λ i d h. absurd (omega arith); kept = λ p h. refl }

module _ (at s n : ℕ) (f : ℕ → ℕ → ℕ) (old area new : List ℕ) (i : ℕ) (fits : n ≤ s) (w : Patch at i s n f old area) where
  -- the next room is as it was
  pub untouched : (d : ℕ) → get_or area (at + i * s + d) 0 ≡ get_or old (at + i * s + d) 0
  untouched d = w.kept (at + i * s + d) (λ j e h b z. omega (arith, N.mul-le-mul_right s h))

  pub patch_next : Filled (at + i * s) n (f i) area new → Patch at (i + 1) s n f old new
  patch_next t = record {
    each = λ j d h b. ⊎_elim (λ e. subst (λ (j : ℕ). get_or new (at + j * s + d) 0 ≡ f j d) (sym e) (t.each d b))
        (λ l. t.before (at + j * s + d) (omega (arith, N.mul-le-mul_right s l)) ∙ w.each j d l b) (upto j h);
    kept = λ p h. outside p (λ d b. h i d (omega arith) b) ∙ w.kept p (λ j d l b. h j d (omega arith) b);
  }
    where
      upto : (j : ℕ) → j < i + 1 → (j ≡ i) ⊎ (j < i)
      upto j h = N.eq-or-lt_of_le (omega arith)

      outside : (p : ℕ) → ((d : ℕ) → d < n → p ≡ at + i * s + d → ⊥) → get_or new p 0 ≡ get_or area p 0
      outside p h =
          ⊎_elim (λ l. t.before p l)
          (λ l. ⊎_elim (λ b. absurd (h (p - (at + i * s)) (omega arith) (omega arith))) (λ b. t.after p b) (lt_or_le p (at + i * s + n)))
          (lt_or_le p (at + i * s))

-- as many rooms, and as many bytes of each, counted in another way
pub sized : (at count' count s n' n : ℕ) (f : ℕ → ℕ → ℕ) (old new : List ℕ) → count' ≡ count → n' ≡ n → Patch at count' s n' f old new
    → Patch at count s n f old new
sized at count' count s n' n f old new e d w = record { each = λ i b h g. w.each i b (omega arith) (omega arith); kept = λ p h. w.kept p (λ i b g l. h i b (omega arith) (omega arith)) }

-- ---- one writing after the other

module _ (at count s n : ℕ) (f : ℕ → ℕ → ℕ) (old : List ℕ) where
  -- nothing is written where the bytes are already those meant
  pub patch_same : ((i d : ℕ) → i < count → d < n → get_or old (at + i * s + d) 0 ≡ f i d) → Patch at count s n f old old
  patch_same e = record { each = e; kept = λ p h. refl }

  -- the same bytes, said in another way
  pub patch_as : (g : ℕ → ℕ → ℕ) (new : List ℕ) → Patch at count s n f old new → ((i d : ℕ) → i < count → d < n → f i d ≡ g i d) → Patch at count s n g old new
  patch_as g new w e = record { each = λ i d h b. w.each i d h b ∙ e i d h b; kept = w.kept }

  -- the same places again
  pub patch_then : (g : ℕ → ℕ → ℕ) (area new : List ℕ) → Patch at count s n f old area → Patch at count s n g area new → Patch at count s n g old new
  patch_then g area new u v = record { each = v.each; kept = λ p h. v.kept p h ∙ u.kept p h }

-- ---- rows after rows

-- two places of rooms are the same only at the same distance
apart : (s i j x y : ℕ) → x < s → y < s → i * s + x ≡ j * s + y → x ≡ y
apart s i j x y h g e =
    ⊎_elim (λ l. absurd (omega (arith, N.mul-le-mul_right s l)))
    (λ l. ⊎_elim (λ m. absurd (omega (arith, N.mul-le-mul_right s m)))
    (λ m. let q : i ≡ j = omega arith in omega (arith, ap (λ (r : ℕ). r * s) q)) (lt_or_le j i)) (lt_or_le i j)

-- first the rows before `done`, then n from c on, some of them again
pub patch_join : (at count s done c n : ℕ) (f : ℕ → ℕ → ℕ) (old area new : List ℕ) → c ≤ done → done ≤ c + n → c + n ≤ s
    → Patch at count s done f old area → Patch (at + c) count s n (λ i d. f i (c + d)) area new → Patch at count s (c + n) f old new
patch_join at count s done c n f old area new early late fits u v = record {
  each = λ i d h b. ⊎_elim (λ l. v.kept (at + i * s + d) (λ j e m g z. elsewhere i j d e b l g z) ∙ u.each i d h (omega arith))
      (λ l. again i d h l b) (lt_or_le d c);
  kept = λ p h. v.kept p (λ j d l b z. h j (c + d) l (omega arith) (z ∙ place j d)) ∙ u.kept p (λ j d l b. h j d l (omega arith));
}
  where
    place : (j d : ℕ) → at + c + j * s + d ≡ at + j * s + (c + d)
    place j d = omega arith

    elsewhere : (i j d e : ℕ) → d < c + n → d < c → e < n → at + i * s + d ≡ at + c + j * s + e → ⊥
    elsewhere i j d e b l g z = let q : d ≡ c + e = apart s i j d (c + e) (omega arith) (omega arith) (omega arith) in omega arith

    again : (i d : ℕ) → i < count → c ≤ d → d < c + n → get_or new (at + i * s + d) 0 ≡ f i d
    again i d h l b =
        let e : c + (d - c) ≡ d = omega arith in
        let q : at + i * s + d ≡ at + c + i * s + (d - c) = omega arith in
        ap (λ (p : ℕ). get_or new p 0) q ∙ v.each i (d - c) h (omega arith) ∙ ap (f i) e

pub patch_none : (at count s : ℕ) (f : ℕ → ℕ → ℕ) (old : List ℕ) → Patch at count s 0 f old old
patch_none at count s f old = record { each = λ i d h b. absurd (omega arith); kept = λ p h. refl }

-- ---- what is left in the end

-- a block has a row
pub some_row : (k s : ℕ) (msg : List ℕ) → 0 < k → rows k (length msg) ≤ s → 0 < s
some_row k s msg pos h = ⊎_elim (λ g. g) (λ g. absurd (none (omega arith))) (lt_or_le 0 s)
  where
    none : rows k (length msg) ≡ 0 → ⊥
    none z = omega (arith, enough k pos msg, ap (λ (r : ℕ). r * k) z ∙ N.zero-mul k)

-- all fragments: the area is the old one with each fragment in its room
pub patch_places : (n k s : ℕ) (msg old new : List ℕ) → 0 < k → rows k (length msg) ≤ s → n * s ≤ length old → length new ≡ length old
    → Patch 0 n s (rows k (length msg)) (λ i d. fragment_byte k (block k msg) (suc (0 + i)) d) old new
    → new ≡ place_each n s (λ i. fragment_of k (block k msg) (suc i)) old
patch_places n k s msg old new pos fits room size t =
    places_are s (λ i. fragment_of k (block k msg) (suc i)) old (λ i. N.le_trans (N.le_of_eq (len i)) fits) n new (some_row k s msg pos fits) room size
    (λ i d h g. let l : d < rows k (length msg) = omega (arith, len i) in
    ap (λ (p : ℕ). get_or new p 0) (from_zero i d) ∙ t.each i d h l ∙ ap (λ (j : ℕ). fragment_byte k (block k msg) (suc j) d) (N.zero-add i)
    ∙ sym (fragment_at k pos msg (suc i) d l))
    (λ i d h g l. t.kept (i * s + d) (λ j e m b z. beyond i j d e (omega (arith, len i)) l b z))
    (λ p h. t.kept p (λ j e m b z. omega (arith, N.mul-le-mul_right s m)))
  where
    len : (i : ℕ) → length (fragment_of k (block k msg) (suc i)) ≡ rows k (length msg)
    len i = length_fragment k pos msg (suc i)

    from_zero : (i d : ℕ) → i * s + d ≡ 0 + i * s + d
    from_zero i d = omega arith

    beyond : (i j d e : ℕ) → rows k (length msg) ≤ d → d < s → e < rows k (length msg) → i * s + d ≡ 0 + j * s + e → ⊥
    beyond i j d e g l b z = let q : d ≡ e = apart s i j d e l (omega arith) (omega arith) in omega arith

-- one fragment alone: the buffer is the old one with the fragment put in
pub patch_put : (k at i s : ℕ) (msg old new : List ℕ) → 0 < k → at + rows k (length msg) ≤ length old → length new ≡ length old
    → Patch at 1 s (rows k (length msg)) (λ j d. fragment_byte k (block k msg) (suc (i + j)) d) old new → new ≡ put at (fragment_of k (block k msg) (suc i)) old
patch_put k at i s msg old new pos room size t =
    ext_get_or 0 new (put at f old) (size ∙ sym (length_put at f old))
    (λ p h. ⊎_elim (λ l. t.kept p (λ j e m b z. omega (arith, alone j m)) ∙ sym (get_d_put_out f old at p (inl l)))
    (λ l. ⊎_elim (λ b. inside p l b)
    (λ b. t.kept p (λ j e m g z. omega (arith, alone j m)) ∙ sym (get_d_put_out f old at p (inr (omega (arith, len)))))
    (lt_or_le p (at + rows k (length msg))))
    (lt_or_le p at))
  where
    f : List ℕ
    f = fragment_of k (block k msg) (suc i)

    len : length f ≡ rows k (length msg)
    len = length_fragment k pos msg (suc i)

    alone : (j : ℕ) → j < 1 → j * s ≡ 0
    alone j m = let z : j ≡ 0 = omega arith in ap (λ (r : ℕ). r * s) z ∙ N.zero-mul s

    inside : (p : ℕ) → at ≤ p → p < at + rows k (length msg) → get_or new p 0 ≡ get_or (put at f old) p 0
    inside p l b =
        let q : p ≡ at + (p - at) = omega arith in
        let o : p ≡ at + 0 * s + (p - at) = omega (arith, N.zero-mul s) in
        ap (λ (x : ℕ). get_or new x 0) o ∙ t.each 0 (p - at) (omega arith) (omega arith)
        ∙ ap (λ (x : ℕ). fragment_byte k (block k msg) (suc x) (p - at)) (N.add-zero i) ∙ sym (fragment_at k pos msg (suc i) (p - at) (omega arith))
        ∙ sym (get_d_put_in f old at (p - at) (omega (arith, len)) (omega (arith, len))) ∙ ap (λ (x : ℕ). get_or (put at f old) x 0) (sym q)
