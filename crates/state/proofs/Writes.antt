-- The marks' write: what it says is read back, and nothing else of the state changes.
use mathlib.Core.Path.{◌≡◌, refl, ap, ◌∙◌}
use Prim.Native.Nat.{ℕ, ◌+◌, ◌≤◌, ◌<◌}
use mathlib.Core.List.{List, [], ◌∷◌, ◌++◌}
use mathlib.Core.Bool.{Bool, true, false, not}
use mathlib.Core.Logic.{inl, inr}
use native.Mathlib.Omega.{arith}
use lib.ListN.{length, get_or, get_or-append}
use lib.Dec.{eqb}
use Rattle.octets.specs.Bytes.{put, part, eight_at, eight}
use Rattle.octets.proofs.Laws.{length_put, get_d_put_in}
use Rattle.octets.proofs.Frame.{byte_out, part_out, two_out, eight_out, eight_in}
use Rattle.octets.specs.Sets.{bit}
use Rattle.state.specs.State.{fixed_bytes, table_of, own_of, marks_of, marks_bytes, flag, view, view_of, len_at, echo_at, vote_at}
use Rattle.table.specs.declared.Table.{Table}
use Rattle.state.specs.declared.Marks.{Marks}

-- sets of 64 bits
pub record Fit (m : Marks) : Type 0 where
  pub echoes : m.echoes < 18446744073709551616
  pub usable : m.usable < 18446744073709551616
  pub votes : m.votes < 18446744073709551616

pub flag_bit : (b : Bool) → not (eqb (bit b) 0) ≡ b
flag_bit true = refl
flag_bit false = refl

flags : Marks → List ℕ
flags m = bit m.acquired ∷ bit m.voted ∷ bit m.output ∷ bit m.done ∷ []

apart : (m : Marks) (s : List ℕ) → put 6 (marks_bytes m) s ≡ put 26 (eight m.votes) (put 18 (eight m.usable) (put 10 (eight m.echoes) (put 6 (flags m) s)))
unfolding put marks_bytes flags
apart m s = refl

length_marks : (m : Marks) → length (marks_bytes m) ≡ 28
unfolding marks_bytes
length_marks m = refl

-- a flag is read back
flag_back : (m : Marks) (s : List ℕ) (i : ℕ) (b : Bool) → fixed_bytes ≤ length s → i < 4 → get_or (flags m) i 0 ≡ bit b → flag (put 6 (marks_bytes m) s) (6 + i) ≡ b
unfolding marks_bytes flags
flag_back m s i b h k e =
    ap (λ (x : ℕ). not (eqb x 0)) (get_d_put_in (marks_bytes m) s 6 i (omega arith) (omega arith) ∙ (get_or-append (flags m) (eight m.echoes ++ (eight m.usable ++ eight m.votes)) 0 i k ∙ e))
    ∙ flag_bit b

-- the table, the own number and what is kept of each board stay
pub table_kept : (m : Marks) (s : List ℕ) → table_of (put 6 (marks_bytes m) s) ≡ table_of s
unfolding table_of
table_kept m s =
    let o : (i : ℕ) → i < 6 → get_or (put 6 (marks_bytes m) s) i 0 ≡ get_or s i 0 = λ i h. byte_out 6 (marks_bytes m) s i (inl (omega arith)) in
    rw (o 0 (omega arith), o 1 (omega arith), o 2 (omega arith), two_out 6 (marks_bytes m) s 4 (inl (omega arith)))

pub own_kept : (m : Marks) (s : List ℕ) → own_of (put 6 (marks_bytes m) s) ≡ own_of s
unfolding own_of
own_kept m s = byte_out 6 (marks_bytes m) s 3 (inl (omega arith))

pub rest_kept : (m : Marks) (s : List ℕ) (b : Table) (n : Marks) → view_of b n (put 6 (marks_bytes m) s) ≡ view_of b n s
rest_kept m s b n =
    let e = length_marks m in
    λ j. record {
      table = b;
      own = own_kept m s j;
      marks = n;
      len = λ i. two_out 6 (marks_bytes m) s (len_at i) (inr (omega arith)) j;
      echo_root = λ i. part_out 6 (marks_bytes m) s (echo_at i) 32 (inr (omega arith)) j;
      vote_root = λ i. part_out 6 (marks_bytes m) s (vote_at i) 32 (inr (omega arith)) j;
    }

-- nor any fragment
pub fragment_kept : (m : Marks) (s : List ℕ) (a n : ℕ) → fixed_bytes ≤ a → part a n (put 6 (marks_bytes m) s) ≡ part a n s
fragment_kept m s a n h = part_out 6 (marks_bytes m) s a n (inr (omega (arith, length_marks m)))

-- the marks are read back
pub marks_back : (m : Marks) (s : List ℕ) → fixed_bytes ≤ length s → Fit m → marks_of (put 6 (marks_bytes m) s) ≡ m
unfolding marks_of flags
marks_back m s h f =
    let s1 = put 6 (flags m) s in
    let s2 = put 10 (eight m.echoes) s1 in
    let s3 = put 18 (eight m.usable) s2 in
    let l1 : length s1 ≡ length s = length_put 6 (flags m) s in
    let l2 : length s2 ≡ length s1 = length_put 10 (eight m.echoes) s1 in
    let l3 : length s3 ≡ length s2 = length_put 18 (eight m.usable) s2 in
    let e : eight_at (put 6 (marks_bytes m) s) 10 ≡ m.echoes =
    ap (λ (x : List ℕ). eight_at x 10) (apart m s) ∙ eight_out 26 (eight m.votes) s3 10 (inl (omega arith))
    ∙ eight_out 18 (eight m.usable) s2 10 (inl (omega arith)) ∙ eight_in 10 m.echoes s1 (omega arith) f.echoes in
    let u : eight_at (put 6 (marks_bytes m) s) 18 ≡ m.usable =
    ap (λ (x : List ℕ). eight_at x 18) (apart m s) ∙ eight_out 26 (eight m.votes) s3 18 (inl (omega arith))
    ∙ eight_in 18 m.usable s2 (omega arith) f.usable in
    let v : eight_at (put 6 (marks_bytes m) s) 26 ≡ m.votes =
    ap (λ (x : List ℕ). eight_at x 26) (apart m s) ∙ eight_in 26 m.votes s3 (omega arith) f.votes in
    λ j. record {
      acquired = flag_back m s 0 m.acquired h (omega arith) refl j;
      voted = flag_back m s 1 m.voted h (omega arith) refl j;
      output = flag_back m s 2 m.output h (omega arith) refl j;
      done = flag_back m s 3 m.done h (omega arith) refl j;
      echoes = e j;
      usable = u j;
      votes = v j;
    }

-- so the state is the one before, with these marks
pub view_marks : (m : Marks) (s : List ℕ) → fixed_bytes ≤ length s → Fit m → view (put 6 (marks_bytes m) s) ≡ view_of (table_of s) m s
view_marks m s h f = rw (table_kept m s, marks_back m s h f) (rest_kept m s (table_of s) m)
