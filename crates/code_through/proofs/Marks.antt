-- The boards of a set, as a list and as bits.
-- Assumes nothing.
use mathlib.Core.Path.{◌≡◌, sym, ap, ◌∙◌}
use mathlib.Core.Logic.{◌≢◌, ◌⊎◌, inl, inr, ⊎_elim}
use mathlib.Core.Bool.{true}
use mathlib.Core.List.{List, [], ◌∷◌, ◌++◌, append_assoc, append-nil}
use Prim.Native.Nat.{ℕ, zero, suc, ◌+◌, ◌-◌, ◌/◌, ◌%◌, ◌^◌, ◌<◌, ◌≤◌}
use native.Mathlib.Nat as N
use native.Mathlib.Numerals.{add-one}
use native.Mathlib.Omega.{arith}
use lib.Count.{ones, ones_step}
use lib.Dec.{eqb}
use lib.ListN.{length, get_or, take, set}
use lib.Seq.{take-suc-set}
use borrow.Author.Tests.{eqb-true, eq-eqb}
use Rattle.octets.specs.Sets.{has}
use Rattle.code.specs.Code.{Apart}
use Rattle.code_through.specs.Through.{also, marks}

-- ---- the lowest bit

pub odd_or_even : (s : ℕ) → (s % 2 ≡ 1) ⊎ (s % 2 ≡ 0)
odd_or_even s = ⊎_elim (λ e. inr e) (λ h. inl (omega (arith, N.mod-lt s (N.zero-lt-suc 1)))) (N.eq-zero-or-pos (s % 2))

module _ (i n s : ℕ) where
  pub marked_first : s % 2 ≡ 1 → marks i (suc n) s ≡ i ∷ marks (suc i) n (s / 2)
  unfolding marks
  marked_first e = ap (λ (b : ℕ). also b i (marks (suc i) n (s / 2))) e

  pub marked_later : s % 2 ≡ 0 → marks i (suc n) s ≡ marks (suc i) n (s / 2)
  unfolding marks
  marked_later e = ap (λ (b : ℕ). also b i (marks (suc i) n (s / 2))) e

  by_bit : (P : List ℕ → Type 0) → (s % 2 ≡ 1 → P (i ∷ marks (suc i) n (s / 2))) → (s % 2 ≡ 0 → P (marks (suc i) n (s / 2))) → P (marks i (suc n) s)
  by_bit P p q = ⊎_elim (λ e. rw (marked_first e) (p e)) (λ e. rw (marked_later e) (q e)) (odd_or_even s)

pub has_first : (s : ℕ) → has s 0 ≡ eqb (s % 2) 1
unfolding has
has_first s = ap (λ (q : ℕ). eqb (q % 2) 1) (N.div-one s)

pub has_later : (s i : ℕ) → has s (suc i) ≡ has (s / 2) i
unfolding has
has_later s i = ap (λ (q : ℕ). eqb (q % 2) 1) (ap (λ (p : ℕ). s / p) (N.pow-suc 2 i ∙ N.mul_comm (2 ^ i) 2) ∙ sym (N.div-div-eq-div-mul s 2 (2 ^ i)))

-- ---- each board of the list is at least i and less than i + n

abbrev pub Between : ℕ → ℕ → List ℕ → Type 0
Between i n l = (k : ℕ) → k < length l → (i ≤ get_or l k 0) × (get_or l k 0 < i + n)

in_front : (i n : ℕ) (l : List ℕ) → Between (suc i) n l → Between i (suc n) (i ∷ l)
in_front i n l w zero h = (omega arith, omega arith)
in_front i n l w (suc k) h = let v = w k (omega arith) in (omega arith, omega arith)

left_out : (i n : ℕ) (l : List ℕ) → Between (suc i) n l → Between i (suc n) l
left_out i n l w k h = let v = w k h in (omega arith, omega arith)

pub between : (i n s : ℕ) → Between i n (marks i n s)
unfolding marks
between i zero s = λ k h. absurd (omega arith)
between i (suc n) s =
    let l = marks (suc i) n (s / 2) in
    let w = between (suc i) n (s / 2) in
    by_bit i n s (Between i (suc n)) (λ e. in_front i n l w) (λ e. left_out i n l w)

-- ---- no board stands twice

in_front_apart : (i n : ℕ) (l : List ℕ) → Between (suc i) n l → Apart l → Apart (i ∷ l)
in_front_apart i n l w a zero zero h g e = omega arith
in_front_apart i n l w a zero (suc k) h g e = let v = w k (omega arith) in omega arith
in_front_apart i n l w a (suc j) zero h g e = omega arith
in_front_apart i n l w a (suc j) (suc k) h g e = a j k (omega arith) (omega arith) e

pub apart_marks : (i n s : ℕ) → Apart (marks i n s)
unfolding marks
apart_marks i zero s = λ j k h g e. omega arith
apart_marks i (suc n) s =
    let l = marks (suc i) n (s / 2) in
    let a = apart_marks (suc i) n (s / 2) in
    by_bit i n s Apart (λ e. in_front_apart i n l (between (suc i) n (s / 2)) a) (λ e. a)

-- ---- the boards of the list are those in the set

Listed : ℕ → ℕ → List ℕ → Type 0
Listed i s l = (j : ℕ) → j < length l → has s (get_or l j 0 - i) ≡ true

later_listed : (i n s : ℕ) (l : List ℕ) → Between (suc i) n l → Listed (suc i) (s / 2) l → Listed i s l
unfolding Listed
later_listed i n s l w h j b =
    let v = w j b in
    let e : get_or l j 0 - i ≡ suc (get_or l j 0 - suc i) = omega arith in
    ap (has s) e ∙ has_later s (get_or l j 0 - suc i) ∙ h j b

first_listed : (i s : ℕ) (l : List ℕ) → s % 2 ≡ 1 → Listed i s l → Listed i s (i ∷ l)
unfolding Listed
first_listed i s l e h zero b = let z : i - i ≡ 0 = omega arith in ap (has s) z ∙ has_first s ∙ eq-eqb (s % 2) 1 e
first_listed i s l e h (suc j) b = h j (omega arith)

listed : (i n s : ℕ) → Listed i s (marks i n s)
unfolding marks Listed
listed i zero s = λ j h. absurd (omega arith)
listed i (suc n) s =
    let l = marks (suc i) n (s / 2) in
    let h = later_listed i n s l (between (suc i) n (s / 2)) (listed (suc i) n (s / 2)) in
    by_bit i n s (Listed i s) (λ e. first_listed i s l e h) (λ e. h)

pub marks_have : (i n s j : ℕ) → j < length (marks i n s) → has s (get_or (marks i n s) j 0 - i) ≡ true
unfolding Listed
marks_have i n s = listed i n s

-- where board i + p stands
pub marks_find : (i n s p : ℕ) → p < n → has s p ≡ true → (j : ℕ) × (j < length (marks i n s)) × (get_or (marks i n s) j 0 ≡ i + p)
unfolding marks
marks_find i zero s p h e = absurd (omega arith)
marks_find i (suc n) s zero h e =
    rw (marked_first i n s (eqb-true (s % 2) 1 (sym (has_first s) ∙ e))) (0, omega arith, sym (N.add-zero i))
marks_find i (suc n) s (suc p) h e =
    let q = marks_find (suc i) n (s / 2) p (omega arith) (sym (has_later s p) ∙ e) in
    let z : suc i + p ≡ i + suc p = omega arith in
    by_bit i n s (λ (l : List ℕ). (j : ℕ) × (j < length l) × (get_or l j 0 ≡ i + suc p)) (λ o. (suc q.0, omega (arith, q.1), q.2 ∙ z))
    (λ o. (q.0, q.1, q.2 ∙ z))

-- as many boards as bits
count_marks : (i n s : ℕ) → length (marks i n s) + ones (s / 2 ^ n) ≡ ones s
unfolding marks
count_marks i zero s = N.zero-add (ones (s / 2 ^ 0)) ∙ ap ones (N.div-one s)
count_marks i (suc n) s =
    let e : s / 2 ^ suc n ≡ s / 2 / 2 ^ n = ap (λ (p : ℕ). s / p) (N.pow-suc 2 n ∙ N.mul_comm (2 ^ n) 2) ∙ sym (N.div-div-eq-div-mul s 2 (2 ^ n)) in
    let r = count_marks (suc i) n (s / 2) in
    rw e (by_bit i n s (λ (l : List ℕ). length l + ones (s / 2 / 2 ^ n) ≡ ones s) (λ o. omega (arith, r, ones_step s)) (λ o. omega (arith, r, ones_step s)))

pub length_marks : (i n s : ℕ) → s / 2 ^ n ≡ 0 → length (marks i n s) ≡ ones s
unfolding ones
length_marks i n s e = omega (arith, count_marks i n s, ap ones e)

-- ---- the list, one board after the other

next_board : (b n i s : ℕ) → i < n → marks b (n - i) s ≡ marks b (suc (n - (i + 1))) s
next_board b n i s h = ap (λ (m : ℕ). marks b m s) fewer
  where
    fewer : n - i ≡ suc (n - (i + 1))
    fewer = omega arith

pub take_board : (out : List ℕ) (m b n i s : ℕ) → m < length out → i < n → s % 2 ≡ 1
    → take m out ++ marks b (n - i) s ≡ take (m + 1) (set out m b) ++ marks (b + 1) (n - (i + 1)) (s / 2)
take_board out m b n i s h g e =
    let r = marks (suc b) (n - (i + 1)) (s / 2) in
    ap (λ (l : List ℕ). take m out ++ l) (next_board b n i s g ∙ marked_first b (n - (i + 1)) s e)
    ∙ sym (append_assoc (take m out) (b ∷ []) r)
    ∙ ap (λ (l : List ℕ). l ++ r) (sym (ap (λ (n : ℕ). take n (set out m b)) (add-one m) ∙ take-suc-set out m b h))
    ∙ ap (λ (c : ℕ). take (m + 1) (set out m b) ++ marks c (n - (i + 1)) (s / 2)) (sym (add-one b))

pub skip_board : (out : List ℕ) (m b n i s : ℕ) → i < n → s % 2 ≢ 1
    → take m out ++ marks b (n - i) s ≡ take m out ++ marks (b + 1) (n - (i + 1)) (s / 2)
skip_board out m b n i s g o =
    ap (λ (l : List ℕ). take m out ++ l) (next_board b n i s g ∙ marked_later b (n - (i + 1)) s (⊎_elim (λ e. absurd (o e)) (λ e. e) (odd_or_even s)))
    ∙ ap (λ (c : ℕ). take m out ++ marks c (n - (i + 1)) (s / 2)) (sym (add-one b))

pub last_board : (out : List ℕ) (m b n i s : ℕ) → n ≤ i → take m out ++ marks b (n - i) s ≡ take m out
unfolding marks
last_board out m b n i s h = ap (λ (j : ℕ). take m out ++ marks b j s) none ∙ append-nil (take m out)
  where
    none : n - i ≡ 0
    none = omega arith
