-- What the functions of a step ask of one another.
use Rattle.std.specs.Prelude.{◌≡◌, ℕ, ◌+◌, ◌*◌, ◌≤◌, ◌<◌, List, Bool, true, length, eqb}
use Rattle.octets.specs.Bytes.{pick, two_at}
use Rattle.octets.specs.Sets.{has}
use Rattle.table.specs.Table.{limits, s_max}
use Rattle.table.specs.declared.Table.{Table}
use Rattle.record.specs.Form.{out_bytes, vote_bytes}
use Rattle.state.specs.State.{state_size, len_at}
use Rattle.state.specs.declared.Marks.{Marks}
use Rattle.board.specs.Stepped.{record_root, enough_usable}

-- a record r with p path nodes and f fragment bytes
pub record Formed (r : List ℕ) (p f : ℕ) : Type 0 where
  pub nodes : p ≤ 6
  pub short : f ≤ 16388
  pub ends : 39 + 32 * p + f ≡ length r

-- how many bytes what a record of kind k has put out can have: an echo, as long as the send; or a vote
unfoldable pub out_room : ℕ → ℕ
out_room k = pick (eqb k 1) out_bytes vote_bytes

-- what a delivery asks of the bytes kept, s, and of the delivery buffer d
pub record Deliverable (b : Table) (m : Marks) (s r d : List ℕ) (ends : Bool) : Type 0 where
  pub lim : limits b ≡ true
  pub room : state_size b ≤ length s
  pub root : 35 ≤ length r
  pub longest : b.longest ≤ length d
  pub due : ends ≡ true → enough_usable b m s (record_root r) ≡ true
  pub lengths : (i : ℕ) → i < 64 → has m.usable i ≡ true → (1 ≤ two_at s (len_at i)) × (two_at s (len_at i) ≤ s_max b)
