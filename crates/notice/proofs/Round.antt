-- What is written of a notice is read back the same, and what is read was so written.
-- Assumes nothing.
use mathlib.Core.Path.{◌≡◌, refl, sym, ap, ◌∙◌}
use Prim.Native.Nat.{ℕ, ◌+◌, ◌≤◌, ◌<◌}
use mathlib.Core.List.{List, [], ◌∷◌, ◌++◌, append-nil}
use mathlib.Core.Bool.{true}
use native.Mathlib.Omega.{arith}
use borrow.Author.Tests.{le-leb}
use lib.ListN.{length, get_or, drop, length-append}
use lib.Seq.{drop-cons, drop-length}
use Rattle.octets.specs.Bytes.{pick, two, two_at, part}
use Rattle.octets.proofs.Laws.{length_part}
use Rattle.record.proofs.Round.{two_mid, drop_two, drop_part}
use Rattle.record.specs.Form.{Form}
use Rattle.notice.specs.Form.{is_notice_kind, notice_most, parse_notice, notice_form, notice_record, notice_in}
use Rattle.notice.proofs.Facts.{notice_whole, notice_known}

-- fields that are in order are read
notice_at : (s : List ℕ) (k f : ℕ) → get_or s 0 0 ≡ k → is_notice_kind k ≡ true → two_at s 1 ≡ f → f ≤ notice_most → 3 + f ≡ length s
    → parse_notice s ≡ Form k 0 f
unfolding parse_notice pick
notice_at s k f ek hk e l el =
    rw (
      le-leb (0 + 1) (length s) (omega arith),
      ek,
      hk,
      le-leb (1 + 2) (length s) (omega arith),
      e,
      le-leb f notice_most l,
      le-leb (3 + f) (length s) (omega arith),
      le-leb (length s) (3 + f) (omega arith),
    )

pub notice_length : (k : ℕ) (v : List ℕ) → length (notice_record k v) ≡ 3 + length v
unfolding notice_record
notice_length k v = simp length-append (omega arith)

-- what is written is read back the same
pub notice_back : (k : ℕ) (v : List ℕ) → is_notice_kind k ≡ true → length v ≤ notice_most → parse_notice (notice_record k v) ≡ Form k 0 (length v)
unfolding notice_record
notice_back k v hk l =
    notice_at (notice_record k v) k (length v) refl hk (two_mid (k ∷ []) v (length v) 1 refl (omega arith)) l (sym (notice_length k v))

-- what the writer lets pass is read back
pub form_back : (k : ℕ) (v : List ℕ) (k' p f : ℕ) → notice_form k (length v) ≡ Form k' p f → parse_notice (notice_record k v) ≡ Form k' p f
form_back k v k' p f h =
    let w = notice_known k (length v) k' p f h in
    rw (← w.kind, w.no_path, ← w.bytes) (notice_back k v w.kind_ok w.most)

-- what is read was so written
pub notice_written : (s : List ℕ) (k p f : ℕ) → ((i : ℕ) → get_or s i 0 < 256) → parse_notice s ≡ Form k p f → s ≡ notice_record k (notice_in f s)
unfolding notice_record
notice_written s k p f h e =
    let w = notice_whole s k p f e in
    let lf : length (part 3 f s) ≡ f = length_part 3 f s (omega (arith, w.ends)) in
    let last : drop 3 s ≡ part 3 f s = drop_part s 3 f (length s) w.ends ∙ ap (λ (x : List ℕ). part 3 f s ++ x) (drop-length s) ∙ append-nil (part 3 f s) in
    drop-cons s 0 0 (omega (arith, w.ends))
    ∙ ap (λ (x : ℕ). x ∷ drop 1 s) w.kind
    ∙ ap (λ (x : List ℕ). k ∷ x) (drop_two s 1 3 f h (omega arith) (omega (arith, w.ends)) w.count)
    ∙ ap (λ (x : List ℕ). k ∷ (two f ++ x)) last
    ∙ ap (λ (n : ℕ). k ∷ (two n ++ part 3 f s)) (sym lf)
