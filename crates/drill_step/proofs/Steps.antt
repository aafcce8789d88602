-- What the receiver's step leaves, and how large its results are.
use mathlib.Core.Path.{◌≡◌, sym, ap, ◌∙◌}
use Prim.Native.Nat.{ℕ, ◌+◌, ◌-◌, ◌*◌, ◌≤◌}
use mathlib.Core.List.{List}
use native.Mathlib.Omega.{arith}
use borrow.Rule.Slice.PartMut.{put_mid}
use lib.ListN.{length, take, drop, replicate}
use Rattle.record.specs.Form.{out_bytes}
use Rattle.octets.specs.Bytes.{part, put}
use Rattle.octets.proofs.Laws.{length_part}
use Rattle.board_step.specs.declared.Stepped.{Stepped}
use Rattle.board_step.specs.Step.{Outcome, outcome, step_of}
use Rattle.drill_boards.specs.Held.{zeros}
use Rattle.drill_boards.specs.Room.{state_at}
use Rattle.drill_step.specs.Asked.{Shaped, step_from, Stepping}
use Rattle.drill_boards.proofs.Zeros.{zeros_length}
use Rattle.drill_step.proofs.Starts.{mid_put}
use Rattle.drill_step.proofs.Bounds.{Bounded, step_bounded}

-- a buffer filled with zeros
pub filled : (n : ℕ) (s new : List ℕ) → length s ≡ n → new ≡ replicate (length s) 0 → new ≡ zeros n
unfolding zeros
filled n s new l e = e ∙ ap (λ (m : ℕ). replicate m 0) l

module _ (states : List ℕ) (from to : ℕ) (r : List ℕ) (lo : 1 ≤ to) (hi : to ≤ 7) (ls : length states ≡ 35588) where
  abbrev a : ℕ
  a = (to - 1) * 5084

  state_long : length (state_at (to - 1) states) ≡ 5084
  state_long = length_part a 5084 states (omega arith)

  pub stepping : (x : Stepped) (new out₁ out d₁ d : List ℕ) → out₁ ≡ zeros out_bytes → d₁ ≡ zeros 64
      → length new ≡ length (take (a + 5084 - a) (drop a states))
      → outcome x new out d ≡ step_of (take (a + 5084 - a) (drop a states)) from r out₁ d₁
      → Stepping states from to r x (put_mid a (a + 5084 - a) states new) out d
  unfolding step_from part
  stepping x new out₁ out d₁ d eo ed ln e =
      let q : a + 5084 - a ≡ 5084 = omega arith in
      let w : outcome x new out d ≡ step_from states from to r = e ∙ rw (eo, ed, q) in
      let n : length new ≡ 5084 = ln ∙ rw q state_long in
      record {
        answer_is = ap (λ (y : Outcome). y.answer) w;
        state_is = mid_put a (a + 5084) states new (omega arith) (omega arith) (n ∙ sym q) ∙ ap (λ (y : Outcome). put a y.state states) w;
        out_is = ap (λ (y : Outcome). y.out) w;
        delivery_is = ap (λ (y : Outcome). y.delivery) w;
        long = ap (λ (y : Outcome). length y.state) (sym w) ∙ n;
      }

  pub bounded : Bounded (step_from states from to r)
  unfolding step_from
  bounded = step_bounded (state_at (to - 1) states) from r (zeros out_bytes) (zeros 64) state_long (zeros_length 64)

  module _ (x : Stepped) (states' out d : List ℕ) (S : Stepping states from to r x states' out d) where
    pub number_few : x.number ≤ 25
    number_few = rw S.answer_is bounded.number

    pub record_short : x.record_length ≤ 1022
    record_short = rw S.answer_is bounded.put_out_lem

    pub message_short : x.message_length ≤ 64
    message_short = rw S.answer_is bounded.message

    pub shape : Shaped x.delivery x.message_length
    shape = rw S.answer_is bounded.shape
