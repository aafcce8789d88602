-- How large the results of a step are, whatever its state and its record: from what the step itself asks of its buffers.
use mathlib.Core.Path.{◌≡◌, refl}
use Prim.Native.Nat.{ℕ, ◌+◌, ◌-◌, ◌*◌, ◌≤◌}
use mathlib.Core.List.{List}
use mathlib.Core.Bool.{Bool, true, false, not, ◌&&◌}
use mathlib.Core.Option.{Option, none, some}
use native.Mathlib.Omega.{arith}
use native.Mathlib.Nat.{mul-le-mul_right, one-mul}
use lib.Dec.{eqb}
use lib.ListN.{length}
use Rattle.octets.specs.Bytes.{pick}
use Rattle.table.specs.Table.{s_max}
use Rattle.table.proofs.Within.{within}
use Rattle.state.specs.State.{view, state_size, table_of, marks_of}
use Rattle.state.proofs.Facts.{sound_limits}
use Rattle.board.specs.Planned.{Plan, Refuse, Take, plan_of}
use Rattle.board.specs.Stepped.{record_root, marked, kept, voted_now, ends_now}
use Rattle.board.proofs.Taken.{Taken, taken, listed, listed_between}
use Rattle.deliver.specs.Delivered.{left_by}
use Rattle.deliver.proofs.Results.{result_root}
use Rattle.board_step.specs.Asked.{Formed}
use Rattle.board_step.specs.Step.{Outcome, good, put_out, usable_for, kept_of, delivered, result_in, said_by, taken_of, by_plan, step_of}
use Rattle.board_step.proofs.Taking.{formed}
use Rattle.board_step.proofs.Records.{echo_length, root_length}
use Rattle.record.proofs.Round.{vote_length}
use Rattle.drill_step.specs.Asked.{Shaped}

-- a number that is a refusal's or 0, a record of at most 1,022 bytes, a message of at most 64
pub record Bounded (x : Outcome) : Type 0 where
  pub number : x.answer.number ≤ 25
  pub put_out_lem : x.answer.record_length ≤ 1022
  pub message : x.answer.message_length ≤ 64
  pub shape : Shaped x.answer.delivery x.answer.message_length

out_length : (r : List ℕ) (p f : ℕ) → Formed r p f → (e v : Bool) → length (put_out e v p f r) ≤ 39 + 32 * p + f
unfolding put_out pick
out_length r p f h true v = omega (arith, echo_length r p f h)
out_length r p f h false true = omega (arith, vote_length (record_root r) (root_length r p f h))
out_length r p f h false false = omega arith

size_by : (ends : Bool) (o : Option (List ℕ)) (d : List ℕ) (l : ℕ) → ((m : List ℕ) → o ≡ some m → length m ≤ l) → (delivered ends o d).size ≤ l
unfolding delivered pick left_by
size_by false o d l h = omega arith
size_by true none d l h = omega arith
size_by true (some m) d l h = h m refl

shape_by : (ends : Bool) (o : Option (List ℕ)) (d : List ℕ) → Shaped (delivered ends o d).kind (delivered ends o d).size
unfolding delivered pick left_by
shape_by false o d = (omega arith, λ h. refl)
shape_by true none d = (omega arith, λ h. refl)
shape_by true (some m) d = (omega arith, λ h. absurd (h refl))

module _ (s : List ℕ) (from : ℕ) (r o d : List ℕ) (ls : length s ≡ 5084) (ld : length d ≡ 64) where
  taken_bounded : (k p f : ℕ) → Taken s from r o d k p f → Bounded (taken_of k p f s from r o d)
  unfolding taken_of state_size result_in said_by
  taken_bounded k p f t =
      let b = table_of s in
      let lim = sound_limits (view s) t.sound in
      let w = within b lim in
      let h = formed s from r o d k p f t in
      let yes = good k p f from r s in
      let m = marked k (from - 1) yes (marks_of s) in
      let s1 = kept (s_max b) k (from - 1) p f r s in
      let word = not (eqb k 1) in
      let q : 1 * s_max b ≤ b.n * s_max b = mul-le-mul_right (s_max b) w.one in
      record {
        number = omega arith;
        put_out_lem = omega (arith, out_length r p f h (eqb k 1 && yes) (not m.voted && voted_now b word m s1 (record_root r)), h.nodes, t.allowed.short, t.room, q, one-mul (s_max b));
        message = omega (
          arith,
          size_by (ends_now b word m s1 (record_root r)) (result_in b m s1 (record_root r)) d b.longest
              (λ x e. (result_root b (record_root r) (usable_for b m s1 (record_root r)) (kept_of (s_max b) s1) x e lim).0),
          t.delivery,
        );
        shape = shape_by (ends_now b word m s1 (record_root r)) (result_in b m s1 (record_root r)) d;
      }

  by_plan_lem : (p : Plan) → plan_of s from r o d ≡ p → Bounded (by_plan p s from r o d)
  unfolding by_plan
  by_plan_lem (Refuse q a) e = record { number = (listed_between (listed s from r o d q a e)).1; put_out_lem = omega arith; message = omega arith; shape = (omega arith, λ h. refl) }
  by_plan_lem (Take k p f) e = taken_bounded k p f (taken s from r o d k p f e)

  pub step_bounded : Bounded (step_of s from r o d)
  unfolding step_of
  step_bounded = by_plan_lem (plan_of s from r o d) refl
