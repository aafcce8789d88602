-- What a step delivers is what the broadcast's step delivers.
use Prim.Native.Nat.{ℕ}
use native.Mathlib.Omega.{arith}
use mathlib.Core.Bool.{Bool, not}
use mathlib.Core.Path.{◌≡◌, refl, ap, ◌∙◌}
use mathlib.Core.List.{List}
use mathlib.Core.Option.{Option, some, none}
use lib.Dec.{eqb}
use Rattle.octets.specs.Bytes.{pick}
use Rattle.table.specs.declared.Table.{Table}
use Rattle.state.specs.State.{table_of, own_of, marks_of}
use Rattle.board.specs.Planned.{Plan, plan_of}
use Rattle.board.specs.Stepped.{record_root, ends_now}
use Rattle.board.proofs.Taken.{Taken, taken}
use Rattle.board_step.specs.Step.{place_of, good, said_by, taken_of, by_plan}
use Rattle.board_step.specs.Step as Step
use Rattle.board_step.proofs.Taking.{limited}
use Rattle.line_fragments.specs.Step.{vote, Line, BoardState, Act, take}
use Rattle.line_fragments.specs.Step as Fragments
use Rattle.line_code.specs.Parts.{code_of, line_of}
use Rattle.line_demand.specs.Boards.{given_in}
use Rattle.line_demand.proofs.Shown.{shown_of}
use Rattle.line_demand.proofs.Acts.{send_in, echo_in, Follow, refuses, sends, echoes, votes}
use Rattle.line_demand.proofs.Nexts.{marked_by, kept_by, correct, inside, half_echo, half_vote}
use Rattle.line_demand.proofs.Results.{given_is, given_half, message_fits}

module _ (s : List ℕ) (from : ℕ) (r o d : List ℕ) where
  abbrev b : Table
  b = table_of s

  abbrev B : Line b.n b.t (code_of b)
  B = line_of b

  abbrev S : BoardState B
  S = shown_of b (own_of s) (marks_of s) s

  -- the delivery of what is taken, by whether its path is correct
  abbrev given_by : ℕ → Bool → ℕ → ℕ → Option (Option (List ℕ))
  given_by k ok p f =
      pick (ends_now b (not (eqb k 1)) (marked_by s from r o d k ok) (kept_by s from r o d k p f) (record_root r))
      (some (Step.result_in b (marked_by s from r o d k ok) (kept_by s from r o d k p f) (record_root r))) none

  give_at : (k p f : ℕ) → Taken s from r o d k p f → given_in (taken_of k p f s from r o d) ≡ given_by k (good k p f from r s) p f
  unfolding taken_of said_by
  give_at k p f t =
      let ok = good k p f from r s in
      let m = marked_by s from r o d k ok in
      let s1 = kept_by s from r o d k p f in
      given_is (ends_now b (not (eqb k 1)) m s1 (record_root r)) (Step.result_in b m s1 (record_root r)) d
      (λ y e. omega (arith, message_fits b (own_of s) m s1 (record_root r) (inside s from r o d k p f t ok) (limited s from r o d k p f t) y e, t.delivery))

  send_gives : (p f : ℕ) → Taken s from r o d 1 p f → given_in (taken_of 1 p f s from r o d) ≡ Fragments.give B S (take from (send_in r p f))
  unfolding ends_now pick
  send_gives p f t = give_at 1 p f t

  echo_gives : (p f : ℕ) → Taken s from r o d 2 p f → given_in (taken_of 2 p f s from r o d) ≡ Fragments.give B S (take from (echo_in r p f))
  unfolding good place_of pick
  echo_gives p f t =
      let ok = correct s from r o d p f in
      give_at 2 p f t
      ∙ given_half b (own_of s) (marked_by s from r o d 2 ok) (kept_by s from r o d 2 p f) (record_root r) (inside s from r o d 2 p f t ok) (limited s from r o d 2 p f t)
      ∙ ap (λ (x : BoardState B). Fragments.result_at B x (record_root r)) (half_echo s from r o d p f t)

  vote_gives : (p f : ℕ) → Taken s from r o d 3 p f → given_in (taken_of 3 p f s from r o d) ≡ Fragments.give B S (take from (vote (record_root r)))
  vote_gives p f t =
      let ok = good 3 p f from r s in
      give_at 3 p f t
      ∙ given_half b (own_of s) (marked_by s from r o d 3 ok) (kept_by s from r o d 3 p f) (record_root r) (inside s from r o d 3 p f t ok) (limited s from r o d 3 p f t)
      ∙ ap (λ (x : BoardState B). Fragments.result_at B x (record_root r)) (half_vote s from r o d p f t ok)

  pub gives_by_lem : (x : Plan) (a : Act B) → plan_of s from r o d ≡ x → Follow b from r x a → given_in (by_plan x s from r o d) ≡ Fragments.give B S a
  unfolding by_plan
  gives_by_lem x a e refuses = refl
  gives_by_lem x a e (sends {p} {f}) = send_gives p f (taken s from r o d 1 p f e)
  gives_by_lem x a e (echoes {p} {f}) = echo_gives p f (taken s from r o d 2 p f e)
  gives_by_lem x a e (votes {p} {f}) = vote_gives p f (taken s from r o d 3 p f e)
