-- The bytes of a notice board's state: what is read back once a notice is kept or what was heard is written, and what stays. One law for echoes and
-- votes.
use mathlib.Core.Path.{◌≡◌, refl, sym, ap, ◌∙◌}
use Prim.Native.Nat.{ℕ, ◌+◌, ◌*◌, ◌≤◌, ◌<◌}
use mathlib.Core.List.{List, [], ◌∷◌, ◌++◌}
use mathlib.Core.Bool.{Bool, true, false, not}
use mathlib.Core.Logic.{◌⊎◌, inl, inr, ⊎_elim}
use native.Mathlib.Omega.{arith}
use native.Mathlib.Nat.{add-zero}
use lib.ListN.{length, get_or, get_or-append}
use lib.Dec.{eqb}
use Rattle.octets.specs.Bytes.{pick, put, part, eight_at, eight}
use Rattle.octets.specs.Sets.{bit}
use Rattle.octets.proofs.Laws.{length_put, get_d_put_in, put_next}
use Rattle.octets.proofs.Frame.{Apart, byte_out, part_out, eight_out, part_in, eight_in}
use Rattle.octets.proofs.Walk.{lt_or_le}
use Rattle.state.specs.State.{flag}
use Rattle.state.proofs.Writes.{flag_bit}
use Rattle.notice.specs.Form.{notice_most}
use Rattle.notice.specs.State.{
  notice_state_bytes,
  heard_at,
  heard_echoes_at,
  heard_votes_at,
  echo_notices,
  vote_notices,
  place_at,
  notice_table,
  notice_own,
  heard_in,
  heard_bytes,
  notice_len,
  notice_kept,
  notice_view,
  notice_view_of,
}
use Rattle.notice.specs.declared.Heard.{Heard}

-- ---- places

-- what is kept: an echo (2) or a vote (3)
abbrev pub Word : ℕ → Type 0
Word k = (k ≡ 2) ⊎ (k ≡ 3)

-- neither is a send (1)
pub not_send : (k : ℕ) → Word k → eqb k 1 ≡ false
not_send k (inl e) = rw e
not_send k (inr e) = rw e

-- where the places of echoes, of votes begin
abbrev From : ℕ → ℕ → Type 0
From k a = ((k ≡ 2) × (a ≡ echo_notices)) ⊎ ((k ≡ 3) × (a ≡ vote_notices))

begins : (k : ℕ) → Word k → From k (pick (eqb k 2) echo_notices vote_notices)
unfolding pick
begins k (inl e) = inl (e, rw e)
begins k (inr e) = inr (e, rw e)

places_apart : (k a l b i j : ℕ) → From k a → From l b → i < 64 → j < 64 → (l ≡ k → j ≡ i → ⊥) → Apart (b + 65 * j) 65 (a + 65 * i) 65
places_apart k a l b i j (inl (e, p)) (inl (g, q)) hi hj ne =
    ⊎_elim (λ h. inl (omega arith)) (λ h. inr (omega (arith, ne (g ∙ sym e)))) (lt_or_le j i)
places_apart k a l b i j (inl (e, p)) (inr (g, q)) hi hj ne = inr (omega arith)
places_apart k a l b i j (inr (e, p)) (inl (g, q)) hi hj ne = inl (omega arith)
places_apart k a l b i j (inr (e, p)) (inr (g, q)) hi hj ne =
    ⊎_elim (λ h. inl (omega arith)) (λ h. inr (omega (arith, ne (g ∙ sym e)))) (lt_or_le j i)

-- a place lies after what was heard and before the state's end
pub place_within : (k i : ℕ) → Word k → i < 64 → (32 ≤ place_at k i) × (place_at k i + 65 ≤ notice_state_bytes)
place_within k i w h = go (begins k w)
  where
    go : {a : ℕ} → From k a → (32 ≤ a + 65 * i) × (a + 65 * i + 65 ≤ notice_state_bytes)
    go (inl (e, p)) = (omega arith, omega arith)
    go (inr (e, p)) = (omega arith, omega arith)

-- ---- what a put among the places leaves

module _ (a : ℕ) (v s : List ℕ) (h : 32 ≤ a) where
  pub put_table : notice_table (put a v s) ≡ notice_table s
  unfolding notice_table
  put_table =
      let o : (i : ℕ) → i < 32 → get_or (put a v s) i 0 ≡ get_or s i 0 = λ i l. byte_out a v s i (inl (omega arith)) in
      rw (o 0 (omega arith), o 1 (omega arith), o 2 (omega arith))

  pub put_own : notice_own (put a v s) ≡ notice_own s
  unfolding notice_own
  put_own = byte_out a v s 3 (inl (omega arith))

  pub put_heard : heard_in (put a v s) ≡ heard_in s
  unfolding heard_in
  put_heard =
      let o : (i : ℕ) → i < 32 → get_or (put a v s) i 0 ≡ get_or s i 0 = λ i l. byte_out a v s i (inl (omega arith)) in
      rw (
        o heard_at (omega arith),
        o (heard_at + 1) (omega arith),
        o (heard_at + 2) (omega arith),
        eight_out a v s heard_echoes_at (inl (omega arith)),
        eight_out a v s heard_votes_at (inl (omega arith)),
      )

-- ---- a notice kept, after its length

module _ (k i f : ℕ) (v s : List ℕ) (w : Word k) (hi : i < 64) (lv : length v ≡ f) (hf : f ≤ notice_most) (long : notice_state_bytes ≤ length s) where
  -- the state with the notice kept
  abbrev pub noted : List ℕ
  noted = put (place_at k i) (f ∷ v) s

  pub noted_length : length noted ≡ length s
  noted_length = length_put (place_at k i) (f ∷ v) s

  pub noted_table : notice_table noted ≡ notice_table s
  noted_table = put_table (place_at k i) (f ∷ v) s (place_within k i w hi).0

  pub noted_own : notice_own noted ≡ notice_own s
  noted_own = put_own (place_at k i) (f ∷ v) s (place_within k i w hi).0

  pub noted_heard : heard_in noted ≡ heard_in s
  noted_heard = put_heard (place_at k i) (f ∷ v) s (place_within k i w hi).0

  pub len_new : notice_len noted k i ≡ f
  len_new =
      rw add-zero at (get_d_put_in (f ∷ v) s (place_at k i) 0 (omega arith) (omega (arith, (place_within k i w hi).1)))

  pub kept_new : notice_kept noted k i ≡ v
  kept_new =
      let a = place_at k i in
      let s1 = put a (f ∷ []) s in
      let l1 : length s1 ≡ length s = length_put a (f ∷ []) s in
      ap (λ (x : ℕ). part (a + 1) x noted) (len_new ∙ sym lv)
      ∙ ap (part (a + 1) (length v)) (sym (put_next (f ∷ []) v s a (a + 1) refl))
      ∙ part_in (a + 1) v s1 (omega (arith, (place_within k i w hi).1))

  module _ (l j : ℕ) (u : Word l) (hj : j < 64) (ne : l ≡ k → j ≡ i → ⊥) where
    -- the other place, with its 65 bytes, is apart from what was put
    other : Apart (place_at l j) 65 (place_at k i) 65
    other = places_apart k _ l _ i j (begins k w) (begins l u) hi hj ne

    pub len_old : notice_len noted l j ≡ notice_len s l j
    len_old = byte_out (place_at k i) (f ∷ v) s (place_at l j) (⊎_elim (λ h. inl (omega arith)) (λ h. inr (omega arith)) other)

    pub kept_old : notice_len s l j ≤ notice_most → notice_kept noted l j ≡ notice_kept s l j
    kept_old h = ap (λ (x : ℕ). part (place_at l j + 1) x noted) len_old
        ∙ part_out (place_at k i) (f ∷ v) s (place_at l j + 1) (notice_len s l j) (⊎_elim (λ p. inl (omega arith)) (λ p. inr (omega arith)) other)

-- ---- what was heard, written

-- sets of 64 bits
pub record HeardFit (m : Heard) : Type 0 where
  pub echoes : m.echoes < 18446744073709551616
  pub votes : m.votes < 18446744073709551616

flags : Heard → List ℕ
flags m = bit m.acquired ∷ bit m.voted ∷ bit m.done ∷ []

in_three : (m : Heard) (s : List ℕ)
    → put heard_at (heard_bytes m) s ≡ put heard_votes_at (eight m.votes) (put heard_echoes_at (eight m.echoes) (put heard_at (flags m) s))
unfolding put heard_bytes flags
in_three m s = refl

length_heard : (m : Heard) → length (heard_bytes m) ≡ 19
unfolding heard_bytes
length_heard m = refl

module _ (m : Heard) (s : List ℕ) where
  -- the state with it written
  abbrev pub told : List ℕ
  told = put heard_at (heard_bytes m) s

  pub told_length : length told ≡ length s
  told_length = length_put heard_at (heard_bytes m) s

  pub told_table : notice_table told ≡ notice_table s
  unfolding notice_table
  told_table =
      let o : (i : ℕ) → i < 4 → get_or told i 0 ≡ get_or s i 0 = λ i l. byte_out heard_at (heard_bytes m) s i (inl (omega arith)) in
      rw (o 0 (omega arith), o 1 (omega arith), o 2 (omega arith))

  pub told_own : notice_own told ≡ notice_own s
  unfolding notice_own
  told_own = byte_out heard_at (heard_bytes m) s 3 (inl (omega arith))

  module _ (k i : ℕ) where
    beyond : 32 ≤ place_at k i
    unfolding pick
    beyond = go (eqb k 2)
      where
        go : (c : Bool) → 32 ≤ pick c echo_notices vote_notices + 65 * i
        go true = omega arith
        go false = omega arith

    pub told_len : notice_len told k i ≡ notice_len s k i
    told_len = byte_out heard_at (heard_bytes m) s (place_at k i) (inr (omega (arith, beyond, length_heard m)))

    pub told_kept : notice_kept told k i ≡ notice_kept s k i
    told_kept = ap (λ (x : ℕ). part (place_at k i + 1) x told) told_len
        ∙ part_out heard_at (heard_bytes m) s (place_at k i + 1) (notice_len s k i) (inr (omega (arith, beyond, length_heard m)))

  module _ (long : notice_state_bytes ≤ length s) where
    -- a flag is read back
    flag_back : (i : ℕ) (b : Bool) → i < 3 → get_or (flags m) i 0 ≡ bit b → flag told (heard_at + i) ≡ b
    unfolding heard_bytes flags
    flag_back i b k e =
        ap (λ (x : ℕ). not (eqb x 0)) (get_d_put_in (heard_bytes m) s heard_at i (omega arith) (omega arith)
        ∙ (get_or-append (flags m) (eight m.echoes ++ eight m.votes) 0 i k ∙ e))
        ∙ flag_bit b

    -- what was heard is read back
    pub told_heard : HeardFit m → heard_in told ≡ m
    unfolding heard_in flags
    told_heard f =
        let s1 = put heard_at (flags m) s in
        let s2 = put heard_echoes_at (eight m.echoes) s1 in
        let l1 : length s1 ≡ length s = length_put heard_at (flags m) s in
        let l2 : length s2 ≡ length s1 = length_put heard_echoes_at (eight m.echoes) s1 in
        let e : eight_at told heard_echoes_at ≡ m.echoes =
        ap (λ (x : List ℕ). eight_at x heard_echoes_at) (in_three m s) ∙ eight_out heard_votes_at (eight m.votes) s2 heard_echoes_at (inl (omega arith))
        ∙ eight_in heard_echoes_at m.echoes s1 (omega arith) f.echoes in
        let v : eight_at told heard_votes_at ≡ m.votes =
        ap (λ (x : List ℕ). eight_at x heard_votes_at) (in_three m s) ∙ eight_in heard_votes_at m.votes s2 (omega arith) f.votes in
        λ j. record {
          acquired = flag_back 0 m.acquired (omega arith) refl j;
          voted = flag_back 1 m.voted (omega arith) refl j;
          done = flag_back 2 m.done (omega arith) refl j;
          echoes = e j;
          votes = v j;
        }

    -- so the state is the one before, with what was heard
    pub told_view : HeardFit m → notice_view told ≡ notice_view_of (notice_table s) m s
    told_view f =
        rw (told_table, told_heard f)
        (λ j. record { table = notice_table s; own = told_own j; heard = m; len = λ k i. told_len k i j; kept = λ k i. told_kept k i j })
