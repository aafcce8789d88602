-- The record put out.
use mathlib.Core.Path.{◌≡◌, refl}
use Prim.Native.Nat.{ℕ, ◌+◌, ◌*◌, ◌≤◌}
use mathlib.Core.List.{List, []}
use mathlib.Core.Bool.{Bool, true, false, not, ◌&&◌, ◌||◌}
use native.Mathlib.Omega.{arith}
use lib.Dec.{eqb}
use lib.ListN.{length, length-append}
use Rattle.octets.specs.Bytes.{pick, put}
use Rattle.octets.proofs.Laws.{length_part}
use Rattle.record.specs.Form.{out_bytes, vote_bytes, record_of}
use Rattle.record.proofs.Round.{vote_length}
use Rattle.board.specs.Stepped.{record_root, record_path, record_fragment}
use Rattle.board_step.specs.Asked.{Formed, out_room}
use Rattle.board_step.specs.Step.{put_out}

module _ (r : List ℕ) (p f : ℕ) (h : Formed r p f) where
  pub root_length : length (record_root r) ≡ 32
  root_length = length_part 3 32 r (omega arith)

  pub path_length : length (record_path p r) ≡ 32 * p
  path_length = length_part 37 (32 * p) r (omega arith)

  pub fragment_length : length (record_fragment p f r) ≡ f
  fragment_length = length_part (39 + 32 * p) f r (omega arith)

  -- an echo is as long as the send
  pub echo_length : length (record_of 2 (record_root r) p (record_path p r) (record_fragment p f r)) ≡ 39 + 32 * p + f
  unfolding record_of
  echo_length = let a = root_length in let b = path_length in let c = fragment_length in simp length-append (omega arith)

  -- what a record of one kind can have put out
  room_by : (send ok v : Bool) → length (put_out (send && ok) v p f r) ≤ pick send out_bytes vote_bytes
  unfolding put_out pick
  room_by true true v = omega (arith, echo_length, h.nodes, h.short)
  room_by true false true = omega (arith, vote_length (record_root r) root_length)
  room_by true false false = omega arith
  room_by false ok true = omega (arith, vote_length (record_root r) root_length)
  room_by false ok false = omega arith

  pub said_room : (k : ℕ) (ok v : Bool) → length (put_out (eqb k 1 && ok) v p f r) ≤ out_room k
  unfolding out_room
  said_room k ok v = room_by (eqb k 1) ok v

-- no more than a whole record
pub room_most : (k : ℕ) → out_room k ≤ out_bytes
unfolding out_room pick
room_most k = go (eqb k 1)
  where
    go : (b : Bool) → pick b out_bytes vote_bytes ≤ out_bytes
    go true = omega arith
    go false = omega arith

-- a send brings no vote: v is whether the board has voted
pub no_vote : (v : Bool) → not v && (v || false) ≡ false
no_vote true = refl
no_vote false = refl

-- no byte put in
pub put_none : (o : List ℕ) → put 0 [] o ≡ o
unfolding put
put_none o = refl
