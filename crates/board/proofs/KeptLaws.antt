-- What is kept of a record leaves the table, the own number and the length of the state alone; so does a step.
use mathlib.Core.Path.{◌≡◌, refl, ◌∙◌}
use Prim.Native.Nat.{ℕ, ◌-◌}
use mathlib.Core.List.{List}
use mathlib.Core.Bool.{Bool, true, false}
use native.Mathlib.Omega.{arith}
use lib.Dec.{eqb}
use lib.ListN.{length}
use Rattle.octets.specs.Bytes.{pick, put, two}
use Rattle.octets.proofs.Laws.{length_put}
use Rattle.table.specs.Table.{s_max}
use Rattle.state.specs.State.{table_of, own_of, len_at, echo_at, vote_at, fragment_at}
use Rattle.state.proofs.Writes.{table_kept, own_kept}
use Rattle.state.proofs.Views.{put_table, put_own}
use Rattle.board.specs.Stepped.{record_root, record_fragment, kept, leaves}

module _ (max k i p f : ℕ) (r s : List ℕ) where
  abbrev rooted : List ℕ
  rooted = put (echo_at i) (record_root r) s

  abbrev sized : List ℕ
  sized = put (len_at i) (two f) rooted

  abbrev echoed : List ℕ
  echoed = put (fragment_at max i) (record_fragment p f r) sized

  abbrev voted : List ℕ
  voted = put (vote_at i) (record_root r) s

  -- what holds after an echo, after a vote and before holds after any record
  pub by_kind : (Q : List ℕ → Type 0) → Q echoed → Q voted → Q s → Q (kept max k i p f r s)
  unfolding kept pick
  by_kind Q e v o = go (eqb k 2) (eqb k 3)
    where
      go : (a b : Bool) → Q (pick a echoed (pick b voted s))
      go true b = e
      go false true = v
      go false false = o

  pub kept_length : length (kept max k i p f r s) ≡ length s
  kept_length =
      by_kind (λ x. length x ≡ length s)
      (length_put (fragment_at max i) (record_fragment p f r) sized ∙ length_put (len_at i) (two f) rooted ∙ length_put (echo_at i) (record_root r) s)
      (length_put (vote_at i) (record_root r) s) refl

  pub kept_table : table_of (kept max k i p f r s) ≡ table_of s
  kept_table =
      by_kind (λ x. table_of x ≡ table_of s)
      (put_table (fragment_at max i) (record_fragment p f r) sized (omega arith) ∙ put_table (len_at i) (two f) rooted (omega arith)
      ∙ put_table (echo_at i) (record_root r) s (omega arith))
      (put_table (vote_at i) (record_root r) s (omega arith)) refl

  pub kept_own : own_of (kept max k i p f r s) ≡ own_of s
  kept_own =
      by_kind (λ x. own_of x ≡ own_of s)
      (put_own (fragment_at max i) (record_fragment p f r) sized (omega arith) ∙ put_own (len_at i) (two f) rooted (omega arith)
      ∙ put_own (echo_at i) (record_root r) s (omega arith))
      (put_own (vote_at i) (record_root r) s (omega arith)) refl

-- so does a step
module _ (ok : Bool) (k p f from : ℕ) (r s : List ℕ) where
  pub left_table : table_of (leaves ok k p f from r s) ≡ table_of s
  unfolding leaves
  left_table = table_kept _ (kept (s_max (table_of s)) k (from - 1) p f r s) ∙ kept_table (s_max (table_of s)) k (from - 1) p f r s

  pub left_own : own_of (leaves ok k p f from r s) ≡ own_of s
  unfolding leaves
  left_own = own_kept _ (kept (s_max (table_of s)) k (from - 1) p f r s) ∙ kept_own (s_max (table_of s)) k (from - 1) p f r s

  pub left_length : length (leaves ok k p f from r s) ≡ length s
  unfolding leaves
  left_length = length_put 6 _ (kept (s_max (table_of s)) k (from - 1) p f r s) ∙ kept_length (s_max (table_of s)) k (from - 1) p f r s
