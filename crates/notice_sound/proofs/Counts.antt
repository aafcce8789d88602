-- The notices kept, counted with their lengths, are the notices counted.
-- Assumes nothing.
use mathlib.Core.Path.{◌≡◌, subst, ap, ◌∙◌}
use Prim.Native.Nat.{ℕ, ◌+◌, ◌-◌, ◌*◌, ◌≤◌, ◌<◌}
use mathlib.Core.List.{List}
use mathlib.Core.Bool.{Bool, true, false}
use native.Mathlib.Omega.{arith}
use lib.Count.{ones}
use lib.ListN.{length, get_or, take, drop}
use lib.Dec.{eqb}
use Rattle.octets.specs.Bytes.{pick, part}
use Rattle.octets.specs.Sets.{every}
use Rattle.octets.proofs.Picks.{and_l, and_r}
use Rattle.octets.proofs.SetLaws.{every_at}
use Rattle.table.specs.Table.{limits}
use Rattle.table.specs.declared.Table.{Table}
use Rattle.table.proofs.Within.{within}
use Rattle.state.specs.Sound.{naming, reaches}
use Rattle.naming.proofs.Sized.{with_length, Whole, naming_bare, reaches_bare}
use Rattle.notice.specs.Form.{notice_most, notice_in}
use Rattle.notice.specs.State.{NoticeState, notice_state_bytes, echo_notices, vote_notices, place_at, notice_len, notice_kept, heard_of, how_many}
use Rattle.notice.specs.Sound.{notice_length_ok, notice_board_ok}
use Rattle.notice.specs.declared.Heard.{Heard}
use Rattle.notice.proofs.Facts.{length_short}

-- a kept notice of at most 64 bytes is in the state
kept_whole : (s : List ℕ) (k i : ℕ) → notice_state_bytes ≤ length s → i < 64 → notice_len s k i ≤ notice_most → Whole s (place_at k i)
unfolding pick
kept_whole s k i long h l = go (eqb k 2) l
  where
    go : (c : Bool) → get_or s (pick c echo_notices vote_notices + 65 * i) 0 ≤ notice_most → Whole s (pick c echo_notices vote_notices + 65 * i)
    go true m = omega arith
    go false m = omega arith

module _ (s : List ℕ) (k : ℕ) (b : Table) (m : Heard) (long : notice_state_bytes ≤ length s) (lim : limits b ≡ true)
    (short : (i : ℕ) → i < 64 → notice_len s k i ≤ notice_most) where
  kept_wholes : (i : ℕ) → i < b.n → Whole s (place_at k i)
  kept_wholes i h =
      let w = within b lim in
      let l : i < 64 = omega arith in
      kept_whole s k i long l (short i l)

  -- how many boards' notices are the one of so many bytes in r; c: they are echoes
  pub counted : (c : Bool) → eqb k 2 ≡ c → (r : List ℕ) (len : ℕ) → get_or r 2 0 ≡ len → 3 + len ≤ length r
      → ones (naming b.n (pick c m.echoes m.votes) (λ i. with_length s (pick c echo_notices vote_notices + 65 * i)) (with_length r 2))
      ≡ how_many b m (notice_kept s) k (notice_in len r)
  counted c e r len q h =
      subst
      (λ (x : Bool). ones (naming b.n (pick x m.echoes m.votes) (λ i. with_length s (pick x echo_notices vote_notices + 65 * i)) (with_length r 2))
      ≡ how_many b m (notice_kept s) k (notice_in len r)) e
      (ap ones (naming_bare s (place_at k) b.n (heard_of k m) kept_wholes r 2 (omega arith))
      ∙ ap (λ (x : ℕ). how_many b m (notice_kept s) k (part 3 x r)) q)

  -- whether a notice is kept of at least q boards
  pub reaches_kept : (q set : ℕ) → reaches b.n q set (λ i. with_length s (place_at k i)) ≡ reaches b.n q set (notice_kept s k)
  reaches_kept q set = reaches_bare s (place_at k) b.n set kept_wholes q

-- lengths that are in order are at most 64
pub kept_short : (v : NoticeState) → every (notice_board_ok v) 0 64 ≡ true → (i : ℕ) → i < 64 → (v.len 2 i ≤ notice_most) × (v.len 3 i ≤ notice_most)
unfolding notice_board_ok
kept_short v h i l =
    let ok : notice_board_ok v i ≡ true = every_at (notice_board_ok v) 0 64 h i (omega arith) (omega arith) in
    (length_short v 2 i (and_l (notice_length_ok v 2 i) _ ok), length_short v 3 i (and_r (notice_length_ok v 2 i) _ ok))

-- the notice of a record after its length
pub lent_notice : (len : ℕ) (r : List ℕ) → get_or r 2 0 ≡ len → take (3 + len - 2) (drop 2 r) ≡ with_length r 2
unfolding part
lent_notice len r e = ap (λ (m : ℕ). take m (drop 2 r)) (omega arith)
