-- The fresh states, one after the other.
use mathlib.Core.Path.{◌≡◌, refl, sym, ap, ap₂, ◌∙◌, fun_ext}
use Prim.Native.Nat.{ℕ, ◌+◌, ◌-◌, ◌*◌, ◌≤◌, ◌<◌}
use mathlib.Core.List.{List, [], ◌++◌, append_assoc}
use mathlib.Core.Bool.{Bool, true, false, not, ◌&&◌}
use mathlib.Core.Logic.{⊎_elim}
use native.Mathlib.Omega.{arith}
use borrow.Author.Tests.{lt-ltb, le-ltb, eqb-true, eqb-false}
use borrow.Rule.Slice.PartMut.{put_mid, Post-is}
use lib.Dec.{ltb, eqb}
use lib.ListN.{length, take, drop, drop_of_length-le}
use lib.Seq.{sets-eq, take-nil}
use Rattle.octets.specs.Bytes.{pick, part, put}
use Rattle.octets.proofs.Laws.{length_put, length_part}
use Rattle.octets.proofs.Walk.{lt_or_le}
use Rattle.table.specs.Table.{limits, is_board}
use Rattle.table.specs.declared.Table.{Table}
use Rattle.state.specs.State.{state_size}
use Rattle.board.specs.Started.{Begun, begun, fresh_bytes, start_of}
use Rattle.drill_boards.specs.Held.{zeros}
use Rattle.drill_step.specs.Boards.{fresh}
use Rattle.drill_boards.specs.Room.{state_at, slot, boards_in}
use Rattle.drill_boards.proofs.Slots.{state_case}
use Rattle.drill_boards.proofs.Zeros.{zeros_length, slot_zero, part_zero}

-- a part that was lent and came back is a put
pub mid_put : (a e : ℕ) (xs ys : List ℕ) → a ≤ e → e ≤ length xs → length ys ≡ e - a → put_mid a (e - a) xs ys ≡ put a ys xs
unfolding put
mid_put a e xs ys h g l =
    let q : a + length ys ≡ e = omega arith in
    ap (λ (z : List ℕ). take a xs ++ (ys ++ z)) (Post-is a e xs h ∙ ap (λ (n : ℕ). drop n xs) (sym q))
    ∙ sym (sets-eq ys xs a (omega arith) ∙ append_assoc (take a xs) ys (drop (a + length ys) xs))

begun_length : (c d : Bool) (s v : List ℕ) → length (pick c (begun 1 s) (pick d (begun 2 s) (begun 0 (put 0 v s)))).state ≡ length s
unfolding pick
begun_length true d s v = refl
begun_length false true s v = refl
begun_length false false s v = length_put 0 v s

start_length : (b : Table) (own : ℕ) (s : List ℕ) → length (start_of b own s).state ≡ length s
unfolding start_of
start_length b own s = begun_length (not (limits b && is_board b own)) (ltb (length s) (state_size b)) s (fresh_bytes b own)

-- boards 1 to i have a fresh state, the others none yet
pub record Started (b : Table) (i : ℕ) (states : List ℕ) : Type 0 where
  pub long : length states ≡ 35588
  pub each : (j : ℕ) → j < 7 → state_at j states ≡ pick (ltb j i) (start_of b (j + 1) (zeros 5084)).state (zeros 5084)

pub none_started : (b : Table) (states : List ℕ) → states ≡ zeros 35588 → Started b 0 states
unfolding pick
none_started b states e = record {
  long = ap length e ∙ zeros_length 35588;
  each = λ j h. rw (e, le-ltb j 0 (omega arith)) (part_zero 35588 (j * 5084) 5084 (omega arith));
}

more_case : (j i : ℕ) (f : ℕ → List ℕ) (z : List ℕ) (c : Bool) → eqb j i ≡ c → pick c (f i) (pick (ltb j i) (f j) z) ≡ pick (ltb j (i + 1)) (f j) z
unfolding pick
more_case j i f z true e = let q : j ≡ i = eqb-true j i e in rw (lt-ltb j (i + 1) (omega arith)) (ap f (sym q))
more_case j i f z false e =
    ⊎_elim (λ h. rw (lt-ltb j i h, lt-ltb j (i + 1) (omega arith)))
    (λ h. let n = eqb-false j i e in let q : i + 1 ≤ j = omega arith in rw (le-ltb j i h, le-ltb j (i + 1) q)) (lt_or_le j i)

pub more_started : (b : Table) (i : ℕ) (states new : List ℕ) → i < 7 → Started b i states
    → new ≡ put (i * 5084) (start_of b (i + 1) (state_at i states)).state states → Started b (i + 1) new
unfolding pick
more_started b i states new h s e =
    let z : state_at i states ≡ (zeros 5084) = s.each i h ∙ rw (le-ltb i i (omega arith)) in
    let l : length (start_of b (i + 1) (zeros 5084)).state ≡ 5084 = start_length b (i + 1) (zeros 5084) ∙ zeros_length 5084 in
    let n : new ≡ put (i * 5084) (start_of b (i + 1) (zeros 5084)).state states = e ∙ ap (λ (x : List ℕ). put (i * 5084) (start_of b (i + 1) x).state states) z in
    record {
      long = ap length n ∙ length_put (i * 5084) (start_of b (i + 1) (zeros 5084)).state states ∙ s.long;
      each = λ j k. ap (state_at j) n ∙ each_more j k l;
    }
  where
    each_more : (j : ℕ) → j < 7 → length (start_of b (i + 1) (zeros 5084)).state ≡ 5084
        → state_at j (put (i * 5084) (start_of b (i + 1) (zeros 5084)).state states) ≡ pick (ltb j (i + 1)) (start_of b (j + 1) (zeros 5084)).state (zeros 5084)
    each_more j k l =
        state_case j i (start_of b (i + 1) (zeros 5084)).state states (eqb j i) refl l (omega (arith, s.long))
        ∙ ap (pick (eqb j i) (start_of b (i + 1) (zeros 5084)).state) (s.each j k)
        ∙ more_case j i (λ m. (start_of b (m + 1) (zeros 5084)).state) (zeros 5084) (eqb j i) refl

beyond : (j : ℕ) (states : List ℕ) → length states ≡ 35588 → 7 ≤ j → state_at j states ≡ []
unfolding part
beyond j states l h = let q : length states ≤ j * 5084 = omega arith in rw (drop_of_length-le states q) (take-nil 5084)

state_at_last : (b : Table) (states : List ℕ) → Started b 7 states → (j : ℕ) → state_at j states ≡ pick (ltb j 7) (start_of b (j + 1) (zeros 5084)).state []
unfolding pick
state_at_last b states s j =
    ⊎_elim (λ h. s.each j h ∙ rw (lt-ltb j 7 h)) (λ h. beyond j states s.long h ∙ rw (le-ltb j 7 h)) (lt_or_le j 7)

pub all_started : (b : Table) (states : List ℕ) → Started b 7 states → boards_in states (zeros 14336) ≡ fresh b
unfolding boards_in fresh
all_started b states s =
    ap (λ (f : ℕ → List ℕ). record { state = f; echo = λ j. slot (2 * j) (zeros 14336); vote = λ j. slot (2 * j + 1) (zeros 14336) }) (fun_ext (state_at_last b states s))
    ∙ ap₂ (λ (f g : ℕ → List ℕ). record { state = (fresh b).state; echo = f; vote = g })
    (fun_ext (λ j. slot_zero 14336 (2 * j))) (fun_ext (λ j. slot_zero 14336 (2 * j + 1)))

-- one start, in its part of the buffer
pub starting : (b : Table) (i : ℕ) (states new : List ℕ) (x : ℕ) → i < 7 → length states ≡ 35588
    → length new ≡ length (take (i * 5084 + 5084 - i * 5084) (drop (i * 5084) states))
    → begun x new ≡ start_of b (i + 1) (take (i * 5084 + 5084 - i * 5084) (drop (i * 5084) states))
    → put_mid (i * 5084) (i * 5084 + 5084 - i * 5084) states new ≡ put (i * 5084) (start_of b (i + 1) (state_at i states)).state states
unfolding part
starting b i states new x h l n e =
    let q : i * 5084 + 5084 - i * 5084 ≡ 5084 = omega arith in
    let p : length (take (i * 5084 + 5084 - i * 5084) (drop (i * 5084) states)) ≡ 5084 = rw q (length_part (i * 5084) 5084 states (omega arith)) in
    let w : new ≡ (start_of b (i + 1) (state_at i states)).state = ap (λ (y : Begun). y.state) e ∙ rw q in
    mid_put (i * 5084) (i * 5084 + 5084) states new (omega arith) (omega arith) (n ∙ p ∙ sym q) ∙ ap (λ (y : List ℕ). put (i * 5084) y states) w
