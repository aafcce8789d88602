-- What a notice record that is taken gives to the functions that take it; and what they leave is what the step's definitions say.
use mathlib.Core.Path.{◌≡◌, refl, sym, ap, ◌∙◌}
use Prim.Native.Nat.{ℕ, ◌-◌}
use mathlib.Core.List.{List, []}
use mathlib.Core.Bool.{Bool, true, false, not, ◌&&◌, ◌||◌}
use mathlib.Core.Logic.{inl, inr}
use native.Mathlib.Omega.{arith}
use lib.Dec.{eqb}
use lib.ListN.{length}
use Rattle.octets.specs.Bytes.{pick, put}
use Rattle.deliver.specs.Delivered.{left_by}
use Rattle.board_step.specs.Step.{stepped, outcome, delivered}
use Rattle.notice.specs.Form.{notice_record, notice_in}
use Rattle.notice.specs.State.{
  heard_at,
  notice_table,
  heard_in,
  heard_bytes,
  notice_view_of,
  notice_kept,
  hearing,
  notice_due,
  notice_won,
  notice_settled,
}
use Rattle.notice.specs.declared.Heard.{Heard}
use Rattle.notice.proofs.Sounds.{notice_short}
use Rattle.notice_step.specs.Asked.{said_by, Comparable}
use Rattle.notice_step.specs.Step.{kept_notice, notice_leaves, notice_said, notice_ends, notice_taken}
use Rattle.notice_step.proofs.Taken.{NoticeTaken, taken_whole, taken_sounds, taken_notice}
use Rattle.notice_step.proofs.Leaves.{kept_length, heard_after, leaves_heard}
use Rattle.notice_step.proofs.Stays.{after_sounds}

-- a vote is put out if the board has voted and had not
says : (send voted due : Bool) (a b : List ℕ)
    → pick send a (pick (not voted && (voted || (not send && due))) b []) ≡ pick send a (pick (not voted && due) b [])
unfolding pick
says true voted due a b = refl
says false true due a b = refl
says false false due a b = refl

-- a board that was not done is done if it ends now
ends : (done send voted due w : Bool) → done ≡ false → (done || (not send && ((voted || (not send && due)) && w))) ≡ (not send && ((voted || due) && w))
ends done true voted due w e = rw e
ends done false voted due w e = rw e

module _ {s : List ℕ} {from : ℕ} {r o d : List ℕ} {k f : ℕ} (t : NoticeTaken s from r o d k f) where
  abbrev m : Heard
  m = hearing k (from - 1) (heard_in s)

  abbrev s1 : List ℕ
  s1 = kept_notice k (from - 1) f r s

  -- its notice can be held against those that are then kept
  pub taken_compares : Comparable (notice_table s) (kept_notice k (from - 1) f r s) r f
  taken_compares =
      let w = taken_whole t in
      let v = notice_view_of (notice_table s) (heard_after t) s1 in
      record {
        long = rw (kept_length t) t.long;
        lim = (taken_sounds t).lim;
        most = w.most;
        room = omega (arith, w.ends);
        count = omega (arith, w.count, w.most);
        echoes = λ i h. notice_short v (after_sounds t) 2 i (inl refl) h;
        votes = λ i h. notice_short v (after_sounds t) 3 i (inr refl) h;
      }

  said_now : notice_said k f from r s ≡ said_by (eqb k 1) (not m.voted && (heard_after t).voted) f r
  unfolding notice_said said_by notice_settled
  said_now =
      sym (says (eqb k 1) m.voted (notice_due (notice_table s) m (notice_kept s1) (notice_in f r)) (notice_record 5 (notice_in f r)) (notice_record 6 (notice_in f r)))

  ends_now : (heard_after t).done ≡ notice_ends k f from r s
  unfolding notice_settled notice_ends hearing
  ends_now =
      ends (heard_in s).done (eqb k 1) (heard_in s).voted (notice_due (notice_table s) m (notice_kept s1) (notice_in f r))
      (notice_won (notice_table s) m (notice_kept s1) (notice_in f r)) t.allowed.not_done

  -- what is kept, settled, written and put out is what the record leaves and has said
  pub takes_in : (after : Heard) (mid new out : List ℕ) (x : ℕ) → mid ≡ kept_notice k (from - 1) f r s
      → after ≡ notice_settled (notice_table s) (not (eqb k 1)) (hearing k (from - 1) (heard_in s)) (notice_kept mid) (notice_in f r)
      → new ≡ put heard_at (heard_bytes after) mid
      → x ≡ length (said_by (eqb k 1) (not (hearing k (from - 1) (heard_in s)).voted && after.voted) f r)
      → out ≡ put 0 (said_by (eqb k 1) (not (hearing k (from - 1) (heard_in s)).voted && after.voted) f r) o
      → (new ≡ notice_leaves k f from r s) × (x ≡ length (notice_said k f from r s)) × (out ≡ put 0 (notice_said k f from r s) o)
  unfolding notice_leaves
  takes_in after mid new out x e1 e2 e3 e4 e5 =
      let z : after ≡ heard_after t = e2 ∙ ap (λ q. notice_settled (notice_table s) (not (eqb k 1)) m (notice_kept q) (notice_in f r)) e1 in
      (rw (e3, z, e1), e4 ∙ rw (z, said_now), e5 ∙ rw (z, said_now))

  done_is : (new : List ℕ) → new ≡ notice_leaves k f from r s → (heard_in new).done ≡ notice_ends k f from r s
  done_is new e = ap (λ q. (heard_in q).done) e ∙ ap (λ q. q.done) (leaves_heard t) ∙ ends_now

  module _ (new out : List ℕ) (x : ℕ) (e : new ≡ notice_leaves k f from r s) (len : x ≡ length (notice_said k f from r s))
      (said : out ≡ put 0 (notice_said k f from r s) o) where
    -- nothing is delivered, if the board is not done
    pub takes_quietly : (heard_in new).done ≡ false → outcome (stepped x 0 0) new out d ≡ notice_taken k f s from r o d
    unfolding notice_taken delivered pick
    takes_quietly h = let z : notice_ends k f from r s ≡ false = sym (done_is new e) ∙ h in rw (z, e, len, said)

    -- the notice is, if it is
    pub takes_delivering : (d2 : List ℕ) → (heard_in new).done ≡ true → d2 ≡ put 0 (notice_in f r) d
        → outcome (stepped x 1 f) new out d2 ≡ notice_taken k f s from r o d
    unfolding notice_taken delivered left_by pick
    takes_delivering d2 h g = let z : notice_ends k f from r s ≡ true = sym (done_is new e) ∙ h in rw (z, e, len, said, g, taken_notice t)
