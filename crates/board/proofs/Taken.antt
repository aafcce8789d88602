-- What a record that is taken gives; and a refusal's number is never 0.
use mathlib.Core.Path.{◌≡◌, refl, subst, ap, ◌∙◌}
use Prim.Native.Nat.{ℕ, suc, ◌+◌, ◌-◌, ◌*◌, ◌≤◌}
use mathlib.Core.List.{List}
use mathlib.Core.Bool.{Bool, true, false, not}
use mathlib.Core.Logic.{◌⊎◌, inl, inr}
use native.Mathlib.Omega.{arith}
use native.Mathlib.Nat.{mul-le-mul_right, suc-mul}
use borrow.Author.Tests.{ltb-false, not-false}
use lib.ListN.{length}
use lib.Dec.{ltb}
use Rattle.octets.specs.Bytes.{pick}
use Rattle.table.specs.Table.{s_max, is_board}
use Rattle.table.specs.declared.Table.{Table}
use Rattle.record.specs.Form.{Read, Form, Fault, out_bytes, parse}
use Rattle.record.proofs.Cuts.{fault_placed}
use Rattle.state.specs.State.{fixed_bytes, view, state_size, table_of, marks_of, fragment_at}
use Rattle.state.specs.Sound.{sound}
use Rattle.state.specs.declared.Marks.{Marks}
use Rattle.table.proofs.Within.{board_number}
use Rattle.board.specs.Planned.{Plan, Refuse, Take, is_short, is_stray, is_late, is_again, by_marks, by_form, plan_by, plan_of}
use Rattle.octets.proofs.Picks.{or_none_l}
use Rattle.board.proofs.Buffers.{not_short}

-- a test on the way to taking a record was not met
pub unmet : (b : Bool) (q a : ℕ) (y : Plan) (k p f : ℕ) → pick b (Refuse q a) y ≡ Take k p f → (b ≡ false) × (y ≡ Take k p f)
unfolding pick
unmet true q a y k p f e = absurd (let z : ◌≡◌ {A = ℕ} 0 1 = cc in omega arith)
unmet false q a y k p f e = (refl, e)

-- the marks allow it
pub record Allowed (b : Table) (m : Marks) (from k f : ℕ) : Type 0 where
  pub stray : is_stray b from k ≡ false
  pub short : f ≤ s_max b
  pub late : is_late m k ≡ false
  pub again : is_again m (from - 1) k ≡ false

-- what a record that is taken gives
pub record Taken (s : List ℕ) (from : ℕ) (r o d : List ℕ) (k p f : ℕ) : Type 0 where
  pub long : fixed_bytes ≤ length s
  pub sound : sound (view s) ≡ true
  pub room : state_size (table_of s) ≤ length s
  pub out : out_bytes ≤ length o
  pub delivery : (table_of s).longest ≤ length d
  pub board : is_board (table_of s) from ≡ true
  pub form : parse r ≡ Form k p f
  pub allowed : Allowed (table_of s) (marks_of s) from k f

allow : (b : Table) (m : Marks) (from k p f k' p' f' : ℕ) → by_marks b m from k p f ≡ Take k' p' f' → (Form k p f ≡ Form k' p' f') × Allowed b m from k f
unfolding by_marks
allow b m from k p f k' p' f' e =
    let h1 = unmet (is_stray b from k) _ _ _ _ _ _ e in
    let h2 = unmet (ltb (s_max b) f) _ _ _ _ _ _ h1.1 in
    let h3 = unmet (is_late m k) _ _ _ _ _ _ h2.1 in
    let h4 = unmet (is_again m (from - 1) k) _ _ _ _ _ _ h3.1 in
    let z = h4.1 in
    (cc, record { stray = h1.0; short = ltb-false (s_max b) f h2.0; late = h3.0; again = h4.0 })

read : (b : Table) (m : Marks) (from : ℕ) (x : Read) (k p f : ℕ) → by_form b m from x ≡ Take k p f → (x ≡ Form k p f) × Allowed b m from k f
unfolding by_form
read b m from (Fault w a) k p f e = absurd (let z : ◌≡◌ {A = ℕ} 0 1 = cc in omega arith)
read b m from (Form k p f) k' p' f' e =
    let h = allow b m from k p f k' p' f' e in
    let x : k ≡ k' = cc h.0 in
    let y : f ≡ f' = cc h.0 in
    (h.0, rw (x, y) at h.1)

pub taken : (s : List ℕ) (from : ℕ) (r o d : List ℕ) (k p f : ℕ) → plan_of s from r o d ≡ Take k p f → Taken s from r o d k p f
unfolding plan_of plan_by
taken s from r o d k p f e =
    let b = table_of s in
    let h1 = unmet (ltb (length s) fixed_bytes) _ _ _ _ _ _ e in
    let h2 = unmet (not (sound (view s))) _ _ _ _ _ _ h1.1 in
    let h3 = unmet (is_short b (length s) (length o) (length d)) _ _ _ _ _ _ h2.1 in
    let fit = not_short b (length s) (length o) (length d) h3.0 in
    let h4 = unmet (not (is_board b from)) _ _ _ _ _ _ h3.1 in
    let h5 = read b (marks_of s) from (parse r) k p f h4.1 in
    record {
      long = ltb-false (length s) fixed_bytes h1.0;
      sound = not-false (sound (view s)) h2.0;
      room = fit.0;
      out = fit.1;
      delivery = fit.2;
      board = not-false (is_board b from) h4.0;
      form = h5.0;
      allowed = h5.1;
    }

-- the board is not done
pub not_done : {s : List ℕ} {from : ℕ} {r o d : List ℕ} {k p f : ℕ} → Taken s from r o d k p f → (marks_of s).done ≡ false
unfolding is_late
not_done {s} t = or_none_l (marks_of s).done _ t.allowed.late

-- a fragment of at most s_max bytes has room in its board's place
pub fragment_room : (b : Table) (from f len : ℕ) → is_board b from ≡ true → f ≤ s_max b → state_size b ≤ len → fragment_at (s_max b) (from - 1) + f ≤ len
unfolding state_size
fragment_room b from f len h l m =
    let (one, few) = board_number b from h in
    let e : from ≡ suc (from - 1) = omega arith in
    let p : from * s_max b ≤ b.n * s_max b = mul-le-mul_right (s_max b) few in
    let q : from * s_max b ≡ (from - 1) * s_max b + s_max b = ap (λ (x : ℕ). x * s_max b) e ∙ suc-mul (from - 1) (s_max b) in
    omega arith

-- a refusal's number is from 2 to 9, and 0 stands beside it; or it is one of 20 to 25, with a place in the record of n bytes or at its end
abbrev pub Listed : ℕ → ℕ → ℕ → Type 0
Listed n q a = ((2 ≤ q) × (q ≤ 9) × (a ≡ 0)) ⊎ ((20 ≤ q) × (q ≤ 25) × (a ≤ n))

unfoldable pub ListedBy : ℕ → Plan → Type 0
ListedBy n (Refuse q a) = Listed n q a
ListedBy n (Take k p f) = Unit

pub listed_pick : (n : ℕ) (b : Bool) (q : ℕ) (y : Plan) → 2 ≤ q → q ≤ 9 → ListedBy n y → ListedBy n (pick b (Refuse q 0) y)
unfolding ListedBy pick
listed_pick n true q y h k l = inl (h, k, refl)
listed_pick n false q y h k l = l

listed_form : (b : Table) (m : Marks) (from : ℕ) (r : List ℕ) (x : Read) → parse r ≡ x → ListedBy (length r) (by_form b m from x)
unfolding ListedBy by_form by_marks
listed_form b m from r (Fault w a) e = inr (fault_placed r w a e)
listed_form b m from r (Form k p f) e =
    listed_pick (length r) (is_stray b from k) 6 _ (omega arith) (omega arith)
    (listed_pick (length r) (ltb (s_max b) f) 7 _ (omega arith) (omega arith)
    (listed_pick (length r) (is_late m k) 8 _ (omega arith) (omega arith)
    (listed_pick (length r) (is_again m (from - 1) k) 9 (Take k p f) (omega arith) (omega arith) tt)))

pub listed : (s : List ℕ) (from : ℕ) (r o d : List ℕ) (q a : ℕ) → plan_of s from r o d ≡ Refuse q a → Listed (length r) q a
unfolding ListedBy plan_of plan_by
listed s from r o d q a e = subst (ListedBy (length r)) e
    (listed_pick (length r) (ltb (length s) fixed_bytes) 2 _ (omega arith) (omega arith)
    (listed_pick (length r) (not (sound (view s))) 3 _ (omega arith) (omega arith)
    (listed_pick (length r) (is_short (table_of s) (length s) (length o) (length d)) 2 _ (omega arith) (omega arith)
    (listed_pick (length r) (not (is_board (table_of s) from)) 4 _ (omega arith) (omega arith)
    (listed_form (table_of s) (marks_of s) from r (parse r) refl)))))

-- so it is from 2 to 25
pub listed_between : {n q a : ℕ} → Listed n q a → (2 ≤ q) × (q ≤ 25)
listed_between (inl (low, high, none)) = (low, omega arith)
listed_between (inr (low, high, place)) = (omega arith, high)
