-- A notice board's bytes once a record is kept show figure 4's party once the message is received; and the bytes left show what was heard.
use mathlib.Core.Path.{◌≡◌, refl}
use Prim.Native.Nat.{ℕ, suc, ◌-◌, ◌^◌, ◌<◌}
use mathlib.Core.List.{List}
use mathlib.Core.Bool.{true, false}
use mathlib.Core.Option.{none}
use mathlib.Core.Logic.{inl, inr}
use native.Mathlib.Omega.{arith}
use lib.Bits.{bit_or}
use Rattle.octets.specs.Bytes.{pick}
use Rattle.octets.specs.Sets.{has}
use Rattle.octets.proofs.Members.{has_low}
use Rattle.octets.proofs.Picks.{or_true, or_false}
use Rattle.table.specs.declared.Table.{Table}
use Rattle.table.proofs.Within.{within, board_number}
use Rattle.notice.specs.Form.{notice_in}
use Rattle.notice.specs.State.{notice_table, heard_in, notice_kept, heard_of, hearing}
use Rattle.notice.specs.declared.Heard.{Heard}
use Rattle.notice.proofs.Kept.{Word}
use Rattle.notice_step.specs.Planned.{heard_again}
use Rattle.notice_step.specs.Step.{kept_notice, notice_leaves}
use Rattle.notice_step.proofs.Taken.{NoticeTaken, taken_sounds}
use Rattle.notice_step.proofs.Leaves.{noted_kept, other_kept, heard_after, leaves_heard, leaves_kept}
use Rattle.figure.specs.Received.{noted, shown}
use Rattle.figure.proofs.Noting.{shown_same, shown_more}
use Rattle.notice_figure.specs.Figure.{echo, vote, receive, acquire}
use Rattle.notice_figure.specs.Shown.{figure_in, figure_of}

module _ {s : List ℕ} {from : ℕ} {r o d : List ℕ} {k f : ℕ} (t : NoticeTaken s from r o d k f) where
  abbrev b : Table
  b = notice_table s

  abbrev m0 : Heard
  m0 = heard_in s

  abbrev i : ℕ
  i = from - 1

  abbrev s1 : List ℕ
  s1 = kept_notice k i f r s

  number : suc (from - 1) ≡ from
  number = let (one, few) = board_number b from t.board in omega arith

  low : (l j : ℕ) → Word l → has (heard_of l m0) j ≡ true → j < 64
  low l j w h = omega (arith, (within b (taken_sounds t).lim).few, has_low b.n (heard_of l m0) j ((taken_sounds t).heard l w) h)

  -- one echo or vote more
  more : Word k → has (heard_of k m0) i ≡ false → (j : ℕ)
      → shown (bit_or (heard_of k m0) (2 ^ i)) (notice_kept s1 k) j ≡ noted (suc i) (notice_in f r) (shown (heard_of k m0) (notice_kept s k)) j
  more w out =
      shown_more (heard_of k m0) i (notice_kept s k) (notice_kept s1 k) (notice_in f r) out (noted_kept t w)
      (λ j ne h. other_kept t k j w (low k j w h) (λ _. ne))

  -- those of the other sort stay
  others : (l : ℕ) → Word l → (l ≡ k → ⊥) → (j : ℕ) → shown (heard_of l m0) (notice_kept s1 l) j ≡ shown (heard_of l m0) (notice_kept s l) j
  others l w ne = shown_same (heard_of l m0) (notice_kept s1 l) (notice_kept s l) (λ j h. other_kept t l j w (low l j w h) (λ e _. ne e))

  -- the bytes left show what was heard, and what is then due done
  pub left_shown : figure_of (notice_leaves k f from r s) ≡ figure_in (heard_after t) (kept_notice k (from - 1) f r s)
  left_shown =
      rw (leaves_heard t)
      (λ j. record {
        acquired = (heard_after t).acquired;
        voted = (heard_after t).voted;
        done = (heard_after t).done;
        sent = none;
        echo_of = shown (heard_after t).echoes (λ l. leaves_kept t 2 l j);
        vote_of = shown (heard_after t).votes (λ l. leaves_kept t 3 l j);
      })

-- an echo, a vote
module _ {s : List ℕ} {from : ℕ} {r o d : List ℕ} {f : ℕ} where
  echo_there : NoticeTaken s from r o d 2 f
      → figure_in (hearing 2 (from - 1) (heard_in s)) (kept_notice 2 (from - 1) f r s) ≡ receive (notice_table s) (suc (from - 1)) (echo (notice_in f r)) (figure_of s)
  unfolding hearing receive heard_again pick
  echo_there t = λ j. record {
    acquired = or_false (heard_in s).acquired j;
    voted = (heard_in s).voted;
    done = (heard_in s).done;
    sent = none;
    echo_of = λ l. more t (inl refl) t.allowed.again l j;
    vote_of = λ l. others t 3 (inr refl) (λ z. omega arith) l j;
  }

  pub echo_received : NoticeTaken s from r o d 2 f
      → figure_in (hearing 2 (from - 1) (heard_in s)) (kept_notice 2 (from - 1) f r s) ≡ receive (notice_table s) from (echo (notice_in f r)) (figure_of s)
  echo_received t = rw (number t) at (echo_there t)

  vote_there : NoticeTaken s from r o d 3 f
      → figure_in (hearing 3 (from - 1) (heard_in s)) (kept_notice 3 (from - 1) f r s) ≡ receive (notice_table s) (suc (from - 1)) (vote (notice_in f r)) (figure_of s)
  unfolding hearing receive heard_again pick
  vote_there t = λ j. record {
    acquired = or_false (heard_in s).acquired j;
    voted = (heard_in s).voted;
    done = (heard_in s).done;
    sent = none;
    echo_of = λ l. others t 2 (inl refl) (λ z. omega arith) l j;
    vote_of = λ l. more t (inr refl) t.allowed.again l j;
  }

  pub vote_received : NoticeTaken s from r o d 3 f
      → figure_in (hearing 3 (from - 1) (heard_in s)) (kept_notice 3 (from - 1) f r s) ≡ receive (notice_table s) from (vote (notice_in f r)) (figure_of s)
  vote_received t = rw (number t) at (vote_there t)

-- a send, acted on
pub send_acquired : (m : Heard) (i : ℕ) (s : List ℕ) → figure_in (hearing 1 i m) s ≡ acquire (figure_in m s)
unfolding hearing pick
send_acquired m i s = λ j. record {
  acquired = or_true m.acquired j;
  voted = m.voted;
  done = m.done;
  sent = none;
  echo_of = shown m.echoes (notice_kept s 2);
  vote_of = shown m.votes (notice_kept s 3);
}
