-- What a notice record that is taken gives; and which numbers a refusal has.
use mathlib.Core.Path.{◌≡◌, refl, subst, ap, ◌∙◌}
use Prim.Native.Nat.{ℕ, zero, suc, ◌+◌, ◌-◌, ◌≤◌, ◌<◌}
use mathlib.Core.List.{List}
use mathlib.Core.Bool.{true, false, not, ◌||◌}
use mathlib.Core.Logic.{◌⊎◌, inl, inr}
use native.Mathlib.Omega.{arith}
use borrow.Author.Tests.{ltb-false, not-false}
use lib.ListN.{length}
use lib.Dec.{ltb}
use Rattle.octets.proofs.Laws.{length_part}
use Rattle.octets.proofs.Picks.{or_none_l, or_none_r}
use Rattle.table.specs.Table.{is_board}
use Rattle.table.specs.declared.Table.{Table}
use Rattle.table.proofs.Within.{within, board_number}
use Rattle.record.specs.Form.{Read, Form, Fault}
use Rattle.board.specs.Planned.{Refuse, Take, is_stray}
use Rattle.board.proofs.Taken.{unmet, Listed, ListedBy, listed_pick}
use Rattle.notice.specs.Form.{notice_most, notice_out_bytes, parse_notice, notice_in, sort_of}
use Rattle.notice.specs.State.{notice_state_bytes, notice_table, heard_in, notice_view}
use Rattle.notice.specs.Sound.{notice_sound}
use Rattle.notice.specs.declared.Heard.{Heard}
use Rattle.notice.proofs.Cuts.{NoticeFault, notice_fault_placed}
use Rattle.notice.proofs.Facts.{NoticeWhole, notice_whole, notice_kind_few}
use Rattle.notice.proofs.Kept.{Word}
use Rattle.notice.proofs.Sounds.{NoticeSounds, notice_sounds}
use Rattle.notice_step.specs.Planned.{heard_again, by_heard, by_notice_form, notice_plan_by, notice_plan}

-- what was heard allows a record of sort k
pub record HeardAllows (b : Table) (m : Heard) (from k : ℕ) : Type 0 where
  pub stray : is_stray b from k ≡ false
  pub not_done : m.done ≡ false
  pub again : heard_again m (from - 1) k ≡ false

-- what a record that is taken gives: k is its sort (1 a send, 2 an echo, 3 a vote), f its notice bytes
pub record NoticeTaken (s : List ℕ) (from : ℕ) (r o d : List ℕ) (k f : ℕ) : Type 0 where
  pub long : notice_state_bytes ≤ length s
  pub sound : notice_sound (notice_view s) ≡ true
  pub out : notice_out_bytes ≤ length o
  pub delivery : notice_most ≤ length d
  pub board : is_board (notice_table s) from ≡ true
  pub form : parse_notice r ≡ Form (3 + k) 0 f
  pub one : 1 ≤ k
  pub few : k ≤ 3
  pub allowed : HeardAllows (notice_table s) (heard_in s) from k

read : (b : Table) (m : Heard) (from : ℕ) (x : Read) (k p f : ℕ) → by_notice_form b m from x ≡ Take k p f
    → (j : ℕ) × (i : ℕ) × (x ≡ Form j i f) × (sort_of j ≡ k) × HeardAllows b m from k
unfolding by_notice_form by_heard
read b m from (Fault w a) k p f e = absurd (let z : ◌≡◌ {A = ℕ} 0 1 = cc in omega arith)
read b m from (Form j i l) k p f e =
    let h1 = unmet (is_stray b from (sort_of j)) _ _ _ _ _ _ e in
    let h2 = unmet m.done _ _ _ _ _ _ h1.1 in
    let h3 = unmet (heard_again m (from - 1) (sort_of j)) _ _ _ _ _ _ h2.1 in
    let x : sort_of j ≡ k = cc h3.1 in
    let y : l ≡ f = cc h3.1 in
    let g : HeardAllows b m from (sort_of j) = record { stray = h1.0; not_done = h2.0; again = h3.0 } in
    (j, i, ap (λ (z : ℕ). Form j i z) y, x, rw x at g)

pub notice_taken_lem : (s : List ℕ) (from : ℕ) (r o d : List ℕ) (k p f : ℕ) → notice_plan s from r o d ≡ Take k p f → NoticeTaken s from r o d k f
unfolding notice_plan notice_plan_by
notice_taken_lem s from r o d k p f e =
    let b = notice_table s in
    let h1 = unmet (ltb (length s) notice_state_bytes) _ _ _ _ _ _ e in
    let h2 = unmet (not (notice_sound (notice_view s))) _ _ _ _ _ _ h1.1 in
    let h3 = unmet (ltb (length o) notice_out_bytes || ltb (length d) notice_most) _ _ _ _ _ _ h2.1 in
    let h4 = unmet (not (is_board b from)) _ _ _ _ _ _ h3.1 in
    let (j, i, x, y, a) = read b (heard_in s) from (parse_notice r) k p f h4.1 in
    let w = notice_whole r j i f x in
    let (low, high) = notice_kind_few j w.kind_ok in
    let q : j ≡ 3 + k = omega arith in
    record {
      long = ltb-false (length s) notice_state_bytes h1.0;
      sound = not-false (notice_sound (notice_view s)) h2.0;
      out = ltb-false (length o) notice_out_bytes (or_none_l (ltb (length o) notice_out_bytes) _ h3.0);
      delivery = ltb-false (length d) notice_most (or_none_r (ltb (length o) notice_out_bytes) _ h3.0);
      board = not-false (is_board b from) h4.0;
      form = x ∙ rw (q, w.no_path);
      one = omega arith;
      few = omega arith;
      allowed = a;
    }

module _ {s : List ℕ} {from : ℕ} {r o d : List ℕ} {k f : ℕ} (t : NoticeTaken s from r o d k f) where
  pub taken_whole : NoticeWhole r (3 + k) 0 f
  taken_whole = notice_whole r (3 + k) 0 f t.form

  pub taken_sounds : NoticeSounds (notice_view s)
  taken_sounds = notice_sounds (notice_view s) t.sound

  pub taken_notice : length (notice_in f r) ≡ f
  taken_notice = length_part 3 f r (omega (arith, taken_whole.ends))

  pub taken_board : from - 1 < (notice_table s).n
  taken_board = let (one, few) = board_number (notice_table s) from t.board in omega arith

  pub taken_place : from - 1 < 64
  taken_place = omega (arith, taken_board, (within (notice_table s) taken_sounds.lim).few)

  -- a send, or an echo or a vote
  pub taken_sort : (k ≡ 1) ⊎ Word k
  taken_sort = go k t.one t.few
    where
      go : (k : ℕ) → 1 ≤ k → k ≤ 3 → (k ≡ 1) ⊎ Word k
      go zero l h = absurd (omega arith)
      go (suc zero) l h = inl refl
      go (suc (suc zero)) l h = inr (inl refl)
      go (suc (suc (suc zero))) l h = inr (inr refl)
      go (suc (suc (suc (suc k)))) l h = absurd (omega arith)

-- ---- refusals

-- a fault of a notice record is a listed one
fault_listed : (n why at : ℕ) → NoticeFault why → at ≤ n → Listed n why at
fault_listed n why at (inl e) h = inr (omega arith, omega arith, h)
fault_listed n why at (inr (inl e)) h = inr (omega arith, omega arith, h)
fault_listed n why at (inr (inr (inl e))) h = inr (omega arith, omega arith, h)
fault_listed n why at (inr (inr (inr e))) h = inr (omega arith, omega arith, h)

listed_form : (b : Table) (m : Heard) (from : ℕ) (r : List ℕ) (x : Read) → parse_notice r ≡ x → ListedBy (length r) (by_notice_form b m from x)
unfolding ListedBy by_notice_form by_heard
listed_form b m from r (Fault w a) e = let (why, place) = notice_fault_placed r w a e in fault_listed (length r) w a why place
listed_form b m from r (Form k p f) e =
    listed_pick (length r) (is_stray b from (sort_of k)) 6 _ (omega arith) (omega arith)
    (listed_pick (length r) m.done 8 _ (omega arith) (omega arith)
    (listed_pick (length r) (heard_again m (from - 1) (sort_of k)) 9 (Take (sort_of k) 0 f) (omega arith) (omega arith) tt))

-- a refusal's number is listed
pub notice_listed : (s : List ℕ) (from : ℕ) (r o d : List ℕ) (q a : ℕ) → notice_plan s from r o d ≡ Refuse q a → Listed (length r) q a
unfolding ListedBy notice_plan notice_plan_by
notice_listed s from r o d q a e = subst (ListedBy (length r)) e
    (listed_pick (length r) (ltb (length s) notice_state_bytes) 2 _ (omega arith) (omega arith)
    (listed_pick (length r) (not (notice_sound (notice_view s))) 3 _ (omega arith) (omega arith)
    (listed_pick (length r) (ltb (length o) notice_out_bytes || ltb (length d) notice_most) 2 _ (omega arith) (omega arith)
    (listed_pick (length r) (not (is_board (notice_table s) from)) 4 _ (omega arith) (omega arith)
    (listed_form (notice_table s) (heard_in s) from r (parse_notice r) refl)))))
