-- What the functions of a notice board's step ask of one another.
use Rattle.std.specs.Prelude.{◌≡◌, ℕ, ◌+◌, ◌≤◌, ◌<◌, List, [], Bool, true, length, get_or}
use Rattle.octets.specs.Bytes.{pick}
use Rattle.table.specs.Table.{limits}
use Rattle.table.specs.declared.Table.{Table}
use Rattle.notice.specs.Form.{notice_most, notice_record, notice_in}
use Rattle.notice.specs.State.{notice_state_bytes, notice_len}

-- the record put out: an echo, a vote, or none, with the f notice bytes of r
unfoldable pub said_by : Bool → Bool → ℕ → List ℕ → List ℕ
said_by echo vote f r = pick echo (notice_record 5 (notice_in f r)) (pick vote (notice_record 6 (notice_in f r)) [])

-- the f notice bytes of a record r can be held against those that the state s keeps
pub record Comparable (b : Table) (s r : List ℕ) (f : ℕ) : Type 0 where
  pub long : notice_state_bytes ≤ length s
  pub lim : limits b ≡ true
  pub most : f ≤ notice_most
  pub room : 3 + f ≤ length r
  pub count : get_or r 2 0 ≡ f
  pub echoes : (i : ℕ) → i < 64 → notice_len s 2 i ≤ notice_most
  pub votes : (i : ℕ) → i < 64 → notice_len s 3 i ≤ notice_most
