-- What the code writes, piece after piece, is what the definitions say at once.
use mathlib.Core.Path.{◌≡◌, refl, ap, ◌∙◌}
use Prim.Native.Nat.{ℕ, ◌+◌, ◌-◌, ◌*◌, ◌≤◌, ◌<◌}
use mathlib.Core.List.{List, [], ◌∷◌}
use mathlib.Core.Bool.{Bool, true, false}
use native.Mathlib.Omega.{arith}
use lib.Dec.{eqb}
use lib.ListN.{length, set, replicate, take, drop}
use Rattle.refusal.specs.Answers.{sized}
use Rattle.octets.specs.Bytes.{pick, part, put}
use Rattle.octets.proofs.Laws.{put_one, put_next, length_part}
use Rattle.table.specs.declared.Table.{Table}
use Rattle.board.proofs.Fresh.{head}
use Rattle.board_send.specs.Sent.{send_out}
use Rattle.notice.specs.Form.{notice_record, notice_in}
use Rattle.notice.specs.State.{notice_state_bytes, echo_notices, vote_notices, place_at}
use Rattle.notice.proofs.Round.{notice_length}
use Rattle.notice_step.specs.Sent.{notice_send_refusal, notice_send_by, notice_send_of}

-- a fresh state: four bytes, then zeros
pub fresh_written : (n t sender own zeros : ℕ) (s : List ℕ)
    → put 4 (replicate zeros 0) (set (set (set (set s 0 n) 1 t) 2 sender) 3 own) ≡ put 0 (n ∷ t ∷ sender ∷ own ∷ replicate zeros 0) s
fresh_written n t sender own zeros s =
    rw (head n t sender own s) (put_next (n ∷ t ∷ sender ∷ own ∷ []) (replicate zeros 0) s 0 4 (omega arith))

-- a notice kept: its length, then its bytes
pub note_written : (a f : ℕ) (v s : List ℕ) → put (a + 1) v (set s a f) ≡ put a (f ∷ v) s
note_written a f v s = rw (put_one s a f) (put_next (f ∷ []) v s a (a + 1) refl)

-- a place is within the state, whatever the kind
pub place_most : (k i : ℕ) → i < 64 → place_at k i + 65 ≤ notice_state_bytes
unfolding pick
place_most k i h = go (eqb k 2)
  where
    go : (c : Bool) → pick c echo_notices vote_notices + 65 * i + 65 ≤ notice_state_bytes
    go true = omega arith
    go false = omega arith

-- a record with the f notice bytes of r
pub said_length : (k f : ℕ) (r : List ℕ) → 3 + f ≤ length r → length (notice_record k (notice_in f r)) ≡ 3 + f
said_length k f r h = notice_length k (notice_in f r) ∙ ap (λ (x : ℕ). 3 + x) (length_part 3 f r h)

-- the slice of r from 3 to 3 + f is the notice
pub slice_notice : (k f : ℕ) (r new o : List ℕ) → new ≡ put 0 (notice_record k (take (3 + f - 3) (drop 3 r))) o
    → new ≡ put 0 (notice_record k (notice_in f r)) o
unfolding part
slice_notice k f r new o e = let z : 3 + f - 3 ≡ f = omega arith in rw z at e

-- ---- the sender's record

module _ (b : Table) (notice : List ℕ) (to : ℕ) (out : List ℕ) where
  pub notice_send_made : (new : List ℕ) → notice_send_refusal b notice to out ≡ 0 → new ≡ put 0 (notice_record 4 notice) out
      → send_out (sized 0 (3 + length notice)) new ≡ notice_send_of b notice to out
  unfolding notice_send_of notice_send_by
  notice_send_made new none e = rw (none, notice_length 4 notice, e)
