-- Strings put in at equal distances: what stands at each place afterwards.
use mathlib.Core.Path.{subst, ap₂, ◌≡◌, refl, sym, ap, ◌∙◌}
use mathlib.Core.Logic.{◌⊎◌, inl, inr, ⊎_elim}
use mathlib.Core.List.{List, [], ◌++◌}
use Prim.Native.Nat.{ℕ, zero, suc, ◌+◌, ◌*◌, ◌/◌, ◌%◌, ◌≤◌, ◌<◌}
use native.Mathlib.Nat as N
use native.Mathlib.Omega.{arith}
use lib.ListN.{length, get_or}
use lib.Seq.{ext_get_or}
use Rattle.octets.specs.Bytes.{part, put, place_each}
use Rattle.octets.proofs.Walk.{lt_or_le}
use Rattle.octets.proofs.Laws.{length_put, length_part, put_next, get_d_put_out, get_d_put_in}
use Rattle.octets.proofs.Parts.{get_d_part, put_comm}

module _ (room : ℕ) (f : ℕ → List ℕ) (s : List ℕ) where
  pub length_places : (n : ℕ) → length (place_each n room f s) ≡ length s
  unfolding place_each
  length_places zero = refl
  length_places (suc n) = length_put (n * room) (f n) (place_each n room f s) ∙ length_places n

  module _ (fits : (i : ℕ) → length (f i) ≤ room) where
    -- past all rooms nothing changes
    pub place_past : (n p : ℕ) → n * room ≤ p → get_or (place_each n room f s) p 0 ≡ get_or s p 0
    unfolding place_each
    place_past zero p h = refl
    place_past (suc n) p h =
        get_d_put_out (f n) (place_each n room f s) (n * room) p (inr (omega (arith, N.suc-mul n room, fits n)))
        ∙ place_past n p (omega (arith, N.suc-mul n room))

    -- inside a room stands its string
    pub place_in : (n i d : ℕ) → i < n → d < length (f i) → n * room ≤ length s → get_or (place_each n room f s) (i * room + d) 0 ≡ get_or (f i) d 0
    unfolding place_each
    place_in zero i d h g r = absurd (omega arith)
    place_in (suc n) i d h g r =
        ⊎_elim
        (λ e. rw e
        (get_d_put_in (f n) (place_each n room f s) (n * room) d (rw e at g)
        (rw (length_places n) (omega (arith, N.suc-mul n room, fits n)))))
        (λ l.
        get_d_put_out (f n) (place_each n room f s) (n * room) (i * room + d) (inl (omega (arith, fits i, N.mul-le-mul_right room l, N.suc-mul i room)))
        ∙ place_in n i d l g (omega (arith, N.suc-mul n room)))
        (N.eq-or-lt_of_le {n = i} {m = n} (omega arith))

    -- and after it what stood there before
    pub place_after : (n i d : ℕ) → i < n → length (f i) ≤ d → d < room → get_or (place_each n room f s) (i * room + d) 0 ≡ get_or s (i * room + d) 0
    unfolding place_each
    place_after zero i d h g r = absurd (omega arith)
    place_after (suc n) i d h g r =
        ⊎_elim
        (λ e.
        get_d_put_out (f n) (place_each n room f s) (n * room) (i * room + d) (inr (rw e (omega (arith, rw e at g))))
        ∙ place_past n (i * room + d) (rw e (omega arith)))
        (λ l.
        get_d_put_out (f n) (place_each n room f s) (n * room) (i * room + d) (inl (omega (arith, N.mul-le-mul_right room l, N.suc-mul i room)))
        ∙ place_after n i d l g r)
        (N.eq-or-lt_of_le {n = i} {m = n} (omega arith))

    -- a buffer with the right byte at each place is the one meant
    pub places_are : (n : ℕ) (new : List ℕ) → 0 < room → n * room ≤ length s → length new ≡ length s
        → ((i d : ℕ) → i < n → d < length (f i) → get_or new (i * room + d) 0 ≡ get_or (f i) d 0)
        → ((i d : ℕ) → i < n → length (f i) ≤ d → d < room → get_or new (i * room + d) 0 ≡ get_or s (i * room + d) 0)
        → ((p : ℕ) → n * room ≤ p → get_or new p 0 ≡ get_or s p 0)
        → new ≡ place_each n room f s
    places_are n new pos fit size each rest past =
        ext_get_or 0 new (place_each n room f s) (size ∙ sym (length_places n)) (λ p h. at p (lt_or_le (p / room) n))
      where
        back : (p : ℕ) → p / room * room + p % room ≡ p
        back p = N.div-add-mod' p room

        at : (p : ℕ) → (p / room < n) ⊎ (n ≤ p / room) → get_or new p 0 ≡ get_or (place_each n room f s) p 0
        at p (inl h) =
            ap (λ (q : ℕ). get_or new q 0) (sym (back p))
            ∙ ⊎_elim (λ g. each (p / room) (p % room) h g ∙ sym (place_in n (p / room) (p % room) h g fit))
            (λ g. rest (p / room) (p % room) h g (N.mod-lt p pos) ∙ sym (place_after n (p / room) (p % room) h g (N.mod-lt p pos)))
            (lt_or_le (p % room) (length (f (p / room))))
            ∙ ap (λ (q : ℕ). get_or (place_each n room f s) q 0) (back p)
        at p (inr h) = past p ((N.le-div_iff_mul-le pos).0 h) ∙ sym (place_past n p ((N.le-div_iff_mul-le pos).0 h))

-- ---- strings that differ, or grow

module _ (room : ℕ) (s : List ℕ) where
  pub places_alike : (n : ℕ) (f g : ℕ → List ℕ) → ((i : ℕ) → i < n → f i ≡ g i) → place_each n room f s ≡ place_each n room g s
  unfolding place_each
  places_alike zero f g h = refl
  places_alike (suc n) f g h = ap₂ (put (n * room)) (h n (omega arith)) (places_alike n f g (λ i lt. h i (omega arith)))

  pub places_none : (n : ℕ) → place_each n room (λ i. []) s ≡ s
  unfolding place_each put
  places_none zero = refl
  places_none (suc n) = places_none n

  -- a string more, after that in place k
  module _ (f g : ℕ → List ℕ) (k : ℕ) (h : List ℕ) (here : g k ≡ f k ++ h) (there : (i : ℕ) → (i ≡ k → ⊥) → g i ≡ f i) (fits : length (f k) + length h ≤ room) where
    pub place_more : (n : ℕ) → k < n → put (k * room + length (f k)) h (place_each n room f s) ≡ place_each n room g s
    unfolding place_each
    place_more zero lt = absurd (omega arith)
    place_more (suc n) lt =
        ⊎_elim
        (λ e. subst (λ (m : ℕ). put (k * room + length (f k)) h (put (m * room) (f m) (place_each m room f s)) ≡ put (m * room) (g m) (place_each m room g s)) e
        (put_next (f k) h (place_each k room f s) (k * room) (k * room + length (f k)) refl
        ∙ ap₂ (put (k * room)) (sym here) (places_alike k f g (λ i l. sym (there i (λ q. omega arith))))))
        (λ l.
        put_comm (f n) h (place_each n room f s) (n * room) (k * room + length (f k)) (omega (arith, N.mul-le-mul_right room l, N.suc-mul k room))
        ∙ ap₂ (put (n * room)) (sym (there n (λ q. omega arith))) (place_more n l))
        (N.eq-or-lt_of_le {n = k} {m = n} (omega arith))

-- a part of what stands in place i
module _ (room : ℕ) (f : ℕ → List ℕ) (s : List ℕ) (fits : (i : ℕ) → length (f i) ≤ room) where
  pub place_part : (n i a m : ℕ) → i < n → a + m ≤ length (f i) → n * room ≤ length s → part (i * room + a) m (place_each n room f s) ≡ part a m (f i)
  place_part n i a m lt h r =
      let inside : i * room + a + m ≤ length (place_each n room f s) =
      rw (length_places room f s n) (omega (arith, fits i, N.mul-le-mul_right room lt, N.suc-mul i room)) in
      let size : length (part (i * room + a) m (place_each n room f s)) ≡ m = length_part (i * room + a) m (place_each n room f s) inside in
      ext_get_or 0 (part (i * room + a) m (place_each n room f s)) (part a m (f i)) (size ∙ sym (length_part a m (f i) h))
      (λ j g.
      let k : j < m = omega arith in
      let e : i * room + a + j ≡ i * room + (a + j) = omega arith in
      get_d_part (i * room + a) m j (place_each n room f s) k ∙ ap (λ (p : ℕ). get_or (place_each n room f s) p 0) e
      ∙ place_in room f s fits n i (a + j) lt (omega arith) r ∙ sym (get_d_part a m j (f i) k))
