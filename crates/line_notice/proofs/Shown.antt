-- The state on paper that a notice board's bytes show, and a step's tests on the one and on the other.
use Prim.Native.Nat.{ℕ}
use mathlib.Core.Bool.{Bool, true, false, ◌&&◌, ◌||◌}
use mathlib.Core.Path.{◌≡◌, refl, ap}
use mathlib.Core.Logic.{inl, inr}
use mathlib.Core.List.{List, []}
use mathlib.Core.Option.{some, none}
use lib.Dec.{eqb}
use Rattle.octets.specs.Bytes.{pick, same}
use Rattle.table.specs.declared.Table.{Table}
use Rattle.notice.specs.State.{heard_of, notice_due, notice_won, notice_settled}
use Rattle.notice.specs.declared.Heard.{Heard}
use Rattle.notice.proofs.Kept.{Word as Sort}
use Rattle.line.specs.Core.{Word, echo, vote, Core, set_word, due, quorum, with_vote}
use Rattle.line.specs.Notice.{notice}
use Rattle.line.specs.Plain.{Simple, simple, given, full}
use Rattle.line.specs.Run.{Machine}
use Rattle.line.proofs.Tests.{off}
use Rattle.line_desk.proofs.Shown.{core_by, due_by_lem, won_by}
use Rattle.line_notice.proofs.Notes.{form_of}

-- the boards on paper; nothing stands where nothing was kept yet
abbrev pub broadcast : Table → Machine
broadcast b = simple b.n b.t same (notice (form_of b)) (λ i. [])

-- the sort of a record that says a word: 2 an echo, 3 a vote
abbrev pub sort_for : Word → ℕ
sort_for echo = 2
sort_for vote = 3

pub is_sort : (w : Word) → Sort (sort_for w)
is_sort echo = inl refl
is_sort vote = inr refl

pub one_word : (u w : Word) → sort_for u ≡ sort_for w → u ≡ w
one_word echo echo e = refl
one_word vote vote e = refl
one_word echo vote e = off (cc)
one_word vote echo e = off (cc)

-- it is no send
pub no_send : (w : Word) → eqb (sort_for w) 1 ≡ false
no_send echo = refl
no_send vote = refl

abbrev pub spoke_in : Heard → Word → Bool
spoke_in m echo = m.acquired
spoke_in m vote = m.voted

abbrev pub set_in : Heard → Word → ℕ
set_in m w = heard_of (sort_for w) m

-- kept k i: the notice kept of board i + 1's echo (k is 2) or vote (3)
abbrev pub core_of : Heard → (ℕ → ℕ → List ℕ) → Core (List ℕ)
core_of m kept = core_by (spoke_in m) (set_in m) (λ w. kept (sort_for w))

abbrev pub shown_by : Heard → (ℕ → ℕ → List ℕ) → Simple (List ℕ)
shown_by m kept = record { core = core_of m kept; done = m.done }

-- ---- the tests of a step

module _ (b : Table) (m : Heard) (kept : ℕ → ℕ → List ℕ) (v : List ℕ) where
  pub due_is : notice_due b m kept v ≡ due b.n b.t same (core_of m kept) v
  unfolding notice_due
  due_is = due_by_lem b.n b.t (spoke_in m) (set_in m) (λ w. kept (sort_for w)) v

  pub won_is : notice_won b m kept v ≡ quorum b.n b.t same (core_of m kept) v
  unfolding notice_won
  won_is = won_by b.n b.t (spoke_in m) (set_in m) (λ w. kept (sort_for w)) v

  -- voted, if that is due
  abbrev voted : Core (List ℕ)
  voted = with_vote b.n b.t same (core_of m kept) v

  -- whether it is delivered
  pub ends_is : ((m.voted || notice_due b m kept v) && notice_won b m kept v) ≡ full b.n b.t same (notice (form_of b)) voted v
  ends_is = rw (due_is, won_is)

  -- what is due is done
  pub settled_is : shown_by (notice_settled b true m kept v) kept
      ≡ record { core = voted; done = m.done || full b.n b.t same (notice (form_of b)) voted v }
  unfolding notice_settled
  settled_is = λ i. record {
    core = record { spoke = λ w. words w i; set = λ w. sets w i; val = λ w. vals w i };
    done = m.done || ends_is i;
  }
    where
      m2 : Heard
      m2 = notice_settled b true m kept v

      words : (w : Word) → spoke_in m2 w ≡ set_word (spoke_in m) vote (m.voted || due b.n b.t same (core_of m kept) v) w
      words echo = refl
      words vote = ap (λ (c : Bool). m.voted || c) due_is

      sets : (w : Word) → (core_of m2 kept).set w ≡ (core_of m kept).set w
      sets w = refl

      vals : (w : Word) → (core_of m2 kept).val w ≡ (core_of m kept).val w
      vals w = refl

pub given_pick : (c : Bool) (v : List ℕ) → c ≡ given (pick c (some v) none)
unfolding pick
given_pick true v = refl
given_pick false v = refl
