-- Which strings are not hashed: a statement that counts more of them as hashed says less, and fails here.
use Prim.Native.Nat.{ℕ, ◌-◌}
use mathlib.Core.Bool.{true, false}
use mathlib.Core.Path.{◌≡◌, refl}
use mathlib.Core.List.{List, []}
use mathlib.Core.Option.{some}
use Rattle.octets.specs.Bytes.{pick}
use Rattle.table.specs.Table.{s_max}
use Rattle.state.specs.State.{table_of, marks_of}
use Rattle.board.specs.Planned.{Refuse, Take}
use Rattle.board.specs.Stepped.{record_root, marked, kept, ends_now}
use Rattle.board_step.specs.Step.{good}
use Rattle.line.specs.Run.{hand, tell}
use Rattle.line.specs.Bytes.{bytes}
use Rattle.line_desk.specs.Desk.{Desk, Lend}
use Rattle.line_demand.specs.Strings.{path_strings, delivery_strings, plan_strings, step_strings}

-- a record that is refused
pub refused_none : (q a : ℕ) (s : List ℕ) (from : ℕ) (r : List ℕ) → plan_strings (Refuse q a) s from r ≡ []
unfolding plan_strings
refused_none q a s from r = refl

-- what is no string of bytes, and an order of the board's own firmware
pub no_bytes_none : (d : Desk) (i : ℕ) (r : List ℕ) → bytes r ≡ false → step_strings (some d) (hand i r) ≡ []
unfolding step_strings pick
no_bytes_none d i r e = rw e

pub order_none : (d : Desk) (l : Lend) → step_strings (some d) (tell l) ≡ []
unfolding step_strings
order_none d l = refl

-- a vote that delivers nothing
pub vote_none : (p f : ℕ) (s : List ℕ) (from : ℕ) (r : List ℕ)
    → ends_now (table_of s) true (marked 3 (from - 1) (good 3 p f from r s) (marks_of s)) (kept (s_max (table_of s)) 3 (from - 1) p f r s) (record_root r) ≡ false
    → plan_strings (Take 3 p f) s from r ≡ []
unfolding plan_strings path_strings delivery_strings pick
vote_none p f s from r e = rw e
