-- What a notice record that is taken leaves of the state: the notices kept, what was heard, and what stays.
use mathlib.Core.Path.{◌≡◌, refl, ◌∙◌}
use Prim.Native.Nat.{ℕ, ◌-◌, ◌^◌, ◌<◌}
use mathlib.Core.List.{List, ◌∷◌}
use mathlib.Core.Bool.{Bool, true, false, not}
use mathlib.Core.Logic.{◌⊎◌, inl, inr}
use borrow.Author.Tests.{eqb-true, eqb-false}
use lib.Dec.{eqb}
use lib.ListN.{length}
use Rattle.octets.specs.Bytes.{pick, put}
use Rattle.octets.proofs.Members.{or_below}
use Rattle.table.proofs.Within.{within}
use Rattle.notice.specs.Form.{notice_in}
use Rattle.notice.specs.State.{place_at, notice_table, notice_own, heard_in, notice_view, notice_len, notice_kept, heard_of, hearing, notice_settled}
use Rattle.notice.specs.declared.Heard.{Heard}
use Rattle.notice.proofs.Kept.{
  Word,
  not_send,
  HeardFit,
  noted_length,
  noted_table,
  noted_own,
  noted_heard,
  len_new,
  kept_new,
  len_old,
  kept_old,
  told_length,
  told_table,
  told_own,
  told_len,
  told_kept,
  told_heard,
}
use Rattle.notice.proofs.Sounds.{heard_fit, notice_short, hears_new, hears_old}
use Rattle.notice_step.specs.Step.{kept_notice, notice_leaves}
use Rattle.notice_step.proofs.Taken.{NoticeTaken, taken_whole, taken_sounds, taken_notice, taken_board, taken_place, taken_sort}

module _ {s : List ℕ} {from : ℕ} {r o d : List ℕ} {k f : ℕ} (t : NoticeTaken s from r o d k f) where
  abbrev i : ℕ
  i = from - 1

  abbrev v : List ℕ
  v = notice_in f r

  -- ---- what is kept of it

  -- of a send, nothing
  pub kept_send : k ≡ 1 → kept_notice k (from - 1) f r s ≡ s
  unfolding kept_notice pick
  kept_send e = rw e

  -- of an echo or a vote, the notice after its length
  pub kept_word : Word k → kept_notice k (from - 1) f r s ≡ put (place_at k (from - 1)) (f ∷ notice_in f r) s
  unfolding kept_notice pick
  kept_word w = rw (not_send k w)

  -- what holds of both
  by_sort : (Q : List ℕ → Type 0) → Q s → (Word k → Q (put (place_at k i) (f ∷ v) s)) → Q (kept_notice k i f r s)
  by_sort Q a b = go (taken_sort t)
    where
      go : (k ≡ 1) ⊎ Word k → Q (kept_notice k i f r s)
      go (inl e) = rw (kept_send e) a
      go (inr w) = rw (kept_word w) (b w)

  pub kept_length : length (kept_notice k (from - 1) f r s) ≡ length s
  kept_length = by_sort (λ x. length x ≡ length s) refl (λ w. noted_length k i f v s w (taken_place t) (taken_notice t) (taken_whole t).most t.long)

  pub kept_table : notice_table (kept_notice k (from - 1) f r s) ≡ notice_table s
  kept_table =
      by_sort (λ x. notice_table x ≡ notice_table s) refl (λ w. noted_table k i f v s w (taken_place t) (taken_notice t) (taken_whole t).most t.long)

  pub kept_own : notice_own (kept_notice k (from - 1) f r s) ≡ notice_own s
  kept_own = by_sort (λ x. notice_own x ≡ notice_own s) refl (λ w. noted_own k i f v s w (taken_place t) (taken_notice t) (taken_whole t).most t.long)

  pub kept_heard : heard_in (kept_notice k (from - 1) f r s) ≡ heard_in s
  kept_heard = by_sort (λ x. heard_in x ≡ heard_in s) refl (λ w. noted_heard k i f v s w (taken_place t) (taken_notice t) (taken_whole t).most t.long)

  -- the notice of an echo or a vote, and its length, at its place
  pub noted_len : Word k → notice_len (kept_notice k (from - 1) f r s) k (from - 1) ≡ f
  noted_len w = rw (kept_word w) (len_new k i f v s w (taken_place t) (taken_notice t) (taken_whole t).most t.long)

  pub noted_kept : Word k → notice_kept (kept_notice k (from - 1) f r s) k (from - 1) ≡ notice_in f r
  noted_kept w = rw (kept_word w) (kept_new k i f v s w (taken_place t) (taken_notice t) (taken_whole t).most t.long)

  -- those at the other places stay
  module _ (l j : ℕ) (u : Word l) (hj : j < 64) (ne : l ≡ k → j ≡ from - 1 → ⊥) where
    pub other_len : notice_len (kept_notice k (from - 1) f r s) l j ≡ notice_len s l j
    other_len =
        by_sort (λ x. notice_len x l j ≡ notice_len s l j) refl
        (λ w. len_old k i f v s w (taken_place t) (taken_notice t) (taken_whole t).most t.long l j u hj ne)

    pub other_kept : notice_kept (kept_notice k (from - 1) f r s) l j ≡ notice_kept s l j
    other_kept =
        by_sort (λ x. notice_kept x l j ≡ notice_kept s l j) refl
        (λ w.
        kept_old k i f v s w (taken_place t) (taken_notice t) (taken_whole t).most t.long l j u hj ne
        (notice_short (notice_view s) (taken_sounds t) l j u hj))

  -- ---- what was heard

  -- what was heard, and what is then due is done
  abbrev pub heard_after : Heard
  heard_after =
      notice_settled (notice_table s) (not (eqb k 1)) (hearing k (from - 1) (heard_in s)) (notice_kept (kept_notice k (from - 1) f r s)) (notice_in f r)

  -- no board above n
  pub after_within : (l : ℕ) → Word l → heard_of l (hearing k (from - 1) (heard_in s)) < 2 ^ (notice_table s).n
  after_within l u = go (eqb l k) refl
    where
      go : (c : Bool) → eqb l k ≡ c → heard_of l (hearing k i (heard_in s)) < 2 ^ (notice_table s).n
      go true e =
          let z : l ≡ k = eqb-true l k e in
          let w : Word k = rw z at u in
          rw (z, hears_new k i (heard_in s) w) (or_below (notice_table s).n (heard_of k (heard_in s)) i ((taken_sounds t).heard k w) (taken_board t))
      go false e = rw (hears_old k i (heard_in s) l u (eqb-false l k e)) ((taken_sounds t).heard l u)

  pub after_fit : HeardFit heard_after
  unfolding notice_settled
  after_fit = heard_fit (notice_table s).n heard_after (within (notice_table s) (taken_sounds t).lim).few after_within

  -- ---- the state that is left

  pub leaves_length : length (notice_leaves k f from r s) ≡ length s
  unfolding notice_leaves
  leaves_length = told_length heard_after (kept_notice k i f r s) ∙ kept_length

  pub leaves_table : notice_table (notice_leaves k f from r s) ≡ notice_table s
  unfolding notice_leaves
  leaves_table = told_table heard_after (kept_notice k i f r s) ∙ kept_table

  pub leaves_own : notice_own (notice_leaves k f from r s) ≡ notice_own s
  unfolding notice_leaves
  leaves_own = told_own heard_after (kept_notice k i f r s) ∙ kept_own

  pub leaves_heard : heard_in (notice_leaves k f from r s)
      ≡ notice_settled (notice_table s) (not (eqb k 1)) (hearing k (from - 1) (heard_in s)) (notice_kept (kept_notice k (from - 1) f r s)) (notice_in f r)
  unfolding notice_leaves
  leaves_heard = told_heard heard_after (kept_notice k i f r s) (rw kept_length t.long) after_fit

  -- the notices kept are those that were when it was settled what is due
  pub leaves_len : (l j : ℕ) → notice_len (notice_leaves k f from r s) l j ≡ notice_len (kept_notice k (from - 1) f r s) l j
  unfolding notice_leaves
  leaves_len l j = told_len heard_after (kept_notice k i f r s) l j

  pub leaves_kept : (l j : ℕ) → notice_kept (notice_leaves k f from r s) l j ≡ notice_kept (kept_notice k (from - 1) f r s) l j
  unfolding notice_leaves
  leaves_kept l j = told_kept heard_after (kept_notice k i f r s) l j

  -- of an echo or a vote its notice; at all other places those before
  pub leaves_new : Word k → notice_kept (notice_leaves k f from r s) k (from - 1) ≡ notice_in f r
  leaves_new w = leaves_kept k i ∙ noted_kept w

  pub leaves_old : (l j : ℕ) → Word l → j < 64 → (l ≡ k → j ≡ from - 1 → ⊥) → notice_kept (notice_leaves k f from r s) l j ≡ notice_kept s l j
  leaves_old l j u h ne = leaves_kept l j ∙ other_kept l j u h ne
