-- What is put into one place of the room is read back there, and every other place stays.
use mathlib.Core.Path.{◌≡◌, refl, sym, ap, ap₂, ◌∙◌, fun_ext}
use Prim.Native.Nat.{ℕ, ◌+◌, ◌*◌, ◌≤◌, ◌<◌}
use mathlib.Core.List.{List, ◌++◌}
use mathlib.Core.Bool.{Bool, true, false}
use mathlib.Core.Logic.{◌⊎◌, inl, inr, ⊎_elim}
use native.Mathlib.Omega.{arith}
use borrow.Author.Tests.{eqb-true, eqb-false, leb-true, le-leb, ne_eqb}
use lib.Dec.{eqb, leb}
use lib.ListN.{length, get_or}
use Rattle.std.proofs.lemmas.Bool.Decides.{nat_tests}
use Rattle.octets.specs.Bytes.{pick, part, put, two_at, two}
use Rattle.octets.proofs.Laws.{put_put, length_put, length_part}
use Rattle.octets.proofs.Walk.{lt_or_le}
use Rattle.octets.proofs.Frame.{part_out, two_out, part_in, two_in}
use Rattle.drill_boards.specs.Held.{with_record, with_state}
use Rattle.drill_boards.specs.Room.{state_at, slot_length, slot, boards_in}

-- two numbers that differ
apart : (j k : ℕ) → (j ≡ k → ⊥) → (j < k) ⊎ (k < j)
apart j k h = ⊎_elim (λ p. inl p) (λ q. inr (omega arith)) (lt_or_le j k)

-- ---- states

state_out : (j i : ℕ) (v s : List ℕ) → length v ≡ 5084 → (j ≡ i → ⊥) → state_at j (put (i * 5084) v s) ≡ state_at j s
state_out j i v s l h = part_out (i * 5084) v s (j * 5084) 5084 (⊎_elim (λ p. inl (omega arith)) (λ p. inr (omega arith)) (apart j i h))

state_in : (i : ℕ) (v s : List ℕ) → length v ≡ 5084 → i * 5084 + 5084 ≤ length s → state_at i (put (i * 5084) v s) ≡ v
state_in i v s l h =
    let q : i * 5084 + length v ≤ length s = omega arith in
    ap (λ (n : ℕ). part (i * 5084) n (put (i * 5084) v s)) (sym l) ∙ part_in (i * 5084) v s q

pub state_case : (j i : ℕ) (v s : List ℕ) (c : Bool) → eqb j i ≡ c → length v ≡ 5084 → i * 5084 + 5084 ≤ length s
    → state_at j (put (i * 5084) v s) ≡ pick c v (state_at j s)
unfolding pick
state_case j i v s true e l h = let q : j ≡ i = eqb-true j i e in rw q (state_in i v s l h)
state_case j i v s false e l h = state_out j i v s l (eqb-false j i e)

-- a new state of board i + 1
pub state_put : (i : ℕ) (v s kept : List ℕ) → length v ≡ 5084 → i * 5084 + 5084 ≤ length s → boards_in (put (i * 5084) v s) kept ≡ with_state (boards_in s kept) i v
unfolding boards_in with_state
state_put i v s kept l h = ap (λ (f : ℕ → List ℕ). record { state = f; echo = λ j. slot (2 * j) kept; vote = λ j. slot (2 * j + 1) kept })
    (fun_ext (λ j. state_case j i v s (eqb j i) refl l h))

-- ---- slots

cap_case : (x : ℕ) (c : Bool) → leb x 1022 ≡ c → pick c x 1022 ≤ 1022
unfolding pick
cap_case x true e = leb-true x 1022 e
cap_case x false e = omega arith

pub slot_short : (j : ℕ) (m : List ℕ) → slot_length j m ≤ 1022
unfolding slot_length
slot_short j m = cap_case (two_at m (j * 1024)) (leb (two_at m (j * 1024)) 1022) refl

-- a slot's record has the length that it says
pub slot_size : (j : ℕ) (m : List ℕ) → j < 14 → 14336 ≤ length m → length (slot j m) ≡ slot_length j m
unfolding slot
slot_size j m h l = length_part (j * 1024 + 2) (slot_length j m) m (omega (arith, slot_short j m))

capped_few : (x : ℕ) → x ≤ 1022 → pick (leb x 1022) x 1022 ≡ x
unfolding pick
capped_few x h = rw (le-leb x 1022 h)

slot_out : (j k : ℕ) (v m : List ℕ) → length v ≤ 1024 → (j ≡ k → ⊥) → slot j (put (k * 1024) v m) ≡ slot j m
unfolding slot slot_length
slot_out j k v m l h =
    let e = two_out (k * 1024) v m (j * 1024) (⊎_elim (λ p. inl (omega arith)) (λ p. inr (omega arith)) (apart j k h)) in
    let s = slot_short j m in
    ap (λ (x : ℕ). part (j * 1024 + 2) (pick (leb x 1022) x 1022) (put (k * 1024) v m)) e
    ∙ part_out (k * 1024) v m (j * 1024 + 2) (slot_length j m) (⊎_elim (λ p. inl (omega arith)) (λ p. inr (omega arith)) (apart j k h))

slot_in : (k : ℕ) (r m : List ℕ) → length r ≤ 1022 → k * 1024 + 1024 ≤ length m → slot k (put (k * 1024) (two (length r) ++ r) m) ≡ r
unfolding slot slot_length
slot_in k r m l h =
    let a = k * 1024 in
    let m1 = put a (two (length r)) m in
    let w : put (a + 2) r m1 ≡ put a (two (length r) ++ r) m = put_put (two (length r)) r m a in
    let e : two_at (put (a + 2) r m1) a ≡ length r = two_out (a + 2) r m1 a (inl (omega arith)) ∙ two_in a m (length r) (omega arith) (omega arith) in
    rw (← w)
    (ap (λ (x : ℕ). part (a + 2) (pick (leb x 1022) x 1022) (put (a + 2) r m1)) e
    ∙ ap (λ (x : ℕ). part (a + 2) x (put (a + 2) r m1)) (capped_few (length r) l)
    ∙ part_in (a + 2) r m1 (rw length_put (omega arith)))

echo_case : (j i : ℕ) (w m : List ℕ) (c : Bool) → eqb j i ≡ c → length w ≤ 1022 → 2 * i * 1024 + 1024 ≤ length m
    → slot (2 * j) (put (2 * i * 1024) (two (length w) ++ w) m) ≡ pick c w (slot (2 * j) m)
unfolding pick
echo_case j i w m true e l h = let q : j ≡ i = eqb-true j i e in rw q (slot_in (2 * i) w m l h)
echo_case j i w m false e l h = slot_out (2 * j) (2 * i) (two (length w) ++ w) m (omega arith) (λ q. eqb-false j i e (omega arith))

vote_case : (j i : ℕ) (w m : List ℕ) (c : Bool) → eqb j i ≡ c → length w ≤ 1022 → (2 * i + 1) * 1024 + 1024 ≤ length m
    → slot (2 * j + 1) (put ((2 * i + 1) * 1024) (two (length w) ++ w) m) ≡ pick c w (slot (2 * j + 1) m)
unfolding pick
vote_case j i w m true e l h = let q : j ≡ i = eqb-true j i e in rw q (slot_in (2 * i + 1) w m l h)
vote_case j i w m false e l h = slot_out (2 * j + 1) (2 * i + 1) (two (length w) ++ w) m (omega arith) (λ q. eqb-false j i e (omega arith))

-- what board i + 1 has put out is noted: an echo, a vote, nothing
module _ (states m : List ℕ) (i : ℕ) (w : List ℕ) (few : i < 7) (short : length w ≤ 1022) (room : length m ≡ 14336) where
  pub note_echo : get_or w 0 0 ≡ 2 → boards_in states (put (2 * i * 1024) (two (length w) ++ w) m) ≡ with_record (boards_in states m) i w
  unfolding boards_in with_record pick
  note_echo e =
      rw (e)
      (ap₂ (λ (f g : ℕ → List ℕ). record { state = λ j. state_at j states; echo = f; vote = g })
      (fun_ext (λ j. echo_case j i w m (eqb j i) refl short (omega arith)))
      (fun_ext (λ j. slot_out (2 * j + 1) (2 * i) (two (length w) ++ w) m (omega arith) (λ q. omega arith))))

  pub note_vote : get_or w 0 0 ≡ 3 → boards_in states (put ((2 * i + 1) * 1024) (two (length w) ++ w) m) ≡ with_record (boards_in states m) i w
  unfolding boards_in with_record pick
  note_vote e =
      rw (e)
      (ap₂ (λ (f g : ℕ → List ℕ). record { state = λ j. state_at j states; echo = f; vote = g })
      (fun_ext (λ j. slot_out (2 * j) (2 * i + 1) (two (length w) ++ w) m (omega arith) (λ q. omega arith)))
      (fun_ext (λ j. vote_case j i w m (eqb j i) refl short (omega arith))))

  pub note_none : (get_or w 0 0 ≡ 2 → ⊥) → (get_or w 0 0 ≡ 3 → ⊥) → boards_in states m ≡ with_record (boards_in states m) i w
  unfolding boards_in with_record pick
  note_none e f = rw (ne_eqb (get_or w 0 0) 2 e, ne_eqb (get_or w 0 0) 3 f)

pub ruleset slots = (nat_tests, slot_size, slot_short, note_echo, note_vote, note_none)
