-- Source document 000, section 3.2.1, Bracha broadcast, as request 3 of document 02 words it: "the sender sends the notice, the first
-- send is echoed whole, n-t echoes or t+1 votes for one notice bring a vote, n-t votes deliver it".
use Rattle.std.specs.Prelude.{ℕ, Bool, not, ◌&&◌, eqb}
use Rattle.std.proofs.Math.Option.{Option, some, none}
use Rattle.octets.specs.Bytes.{pick}
use Rattle.line.specs.Boards.{known}
use Rattle.line.specs.Run.{Input, hand, tell}
use Rattle.line.specs.Core.{Word, echo, Move, still, acquire, hear}
use Rattle.line.specs.Plain.{Simple, Kind}

-- a record, read
pub data Note (Val : Type 0) : Type 0 where
  send : Val → Note Val
  say : Word → Val → Note Val

-- the sender, and the records' form
pub record Form (n : ℕ) (Val : Type 0) : Type 1 where
  pub S : ℕ
  pub Bytes : Type 0
  pub read : Bytes → Option (Note Val)
  pub write : Note Val → Bytes

module _ {n : ℕ} {Val : Type 0} (B : Form n Val) where
  -- until the board is done: the first send of S; the first echo, the first vote of board i
  abbrev pub first_send : Simple Val → ℕ → Bool
  first_send s i = known n i && (eqb i B.S && (not s.done && not (s.core.spoke echo)))

  abbrev pub first_word : Simple Val → ℕ → Word → Bool
  first_word s i w = known n i && (not s.done && not (s.core.set w i))

  -- "the first send is echoed whole"
  abbrev pub takes : Simple Val → ℕ → Option (Note Val) → Move Val
  takes s i none = still
  takes s i (some (send v)) = pick (first_send s i) (acquire (some v)) still
  takes s i (some (say w v)) = pick (first_word s i w) (hear w i v) still

  abbrev pub answers : Simple Val → Input ⊥ B.Bytes → Move Val
  answers s (hand i b) = takes s i (B.read b)
  answers s (tell e) = still

  abbrev pub notice : Kind Val
  notice = record { Order = ⊥; Rec = B.Bytes; write = λ w v. B.write (say w v); move = answers }
