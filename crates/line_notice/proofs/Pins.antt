-- What the words of the statement rest on: a notice board's step never delivers void, so a delivery that is not none is a notice.
use Prim.Native.Nat.{ℕ, ◌≤◌}
use native.Mathlib.Omega.{arith}
use mathlib.Core.Bool.{Bool, true, false}
use mathlib.Core.List.{List}
use mathlib.Core.Option.{some}
use Rattle.octets.specs.Bytes.{pick}
use Rattle.deliver.specs.Delivered.{left_by}
use Rattle.board.specs.Planned.{Plan, Refuse, Take}
use Rattle.board_step.specs.Step.{delivered}
use Rattle.notice.specs.Form.{notice_in}
use Rattle.notice_step.specs.Planned.{notice_plan}
use Rattle.notice_step.specs.Step.{notice_ends, notice_taken, notice_by_plan, notice_step_of}

none_or_notice : (e : Bool) (v d : List ℕ) → (delivered e (some v) d).kind ≤ 1
unfolding delivered left_by pick
none_or_notice true v d = omega arith
none_or_notice false v d = omega arith

module _ (s : List ℕ) (from : ℕ) (r o d : List ℕ) where
  by_plan_lem : (x : Plan) → (notice_by_plan x s from r o d).answer.delivery ≤ 1
  unfolding notice_by_plan notice_taken
  by_plan_lem (Refuse q a) = omega arith
  by_plan_lem (Take k p f) = none_or_notice (notice_ends k f from r s) (notice_in f r) d

  pub never_void : (notice_step_of s from r o d).answer.delivery ≤ 1
  unfolding notice_step_of
  never_void = by_plan_lem (notice_plan s from r o d)
