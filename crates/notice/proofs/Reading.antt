-- Kinds of notice records by their numbers, and what a test that a field passes or not says of what is read.
-- Assumes nothing.
use mathlib.Core.Path.{◌≡◌, refl}
use mathlib.Core.Bool.{Bool, true, false, ◌&&◌}
use Prim.Native.Nat.{ℕ, ◌+◌, ◌≤◌}
use native.Mathlib.Omega.{arith}
use borrow.Author.Tests.{leb-true, lt-leb}
use lib.Dec.{leb}
use Rattle.std.proofs.Common.{Result, Ok, Err}
use Rattle.std.specs.Result.{IsErrAnd}
use Rattle.std.proofs.lemmas.Result.{err_from_is_err_and, MatchResult-at_ok, MatchResult-at_err}
use Rattle.octets.specs.Bytes.{pick}
use Rattle.refusal.specs.declared.Refusal.{Refusal}
use Rattle.refusal.specs.declared.Refusal.TheVariants as refusal
use Rattle.refusal.specs.declared.Refused.{Refused}
use Rattle.refusal.specs.Numbers.{number_of, Nowhere}
use Rattle.record.specs.declared.Outline.{Outline}
use Rattle.record.specs.declared.Kind.{Kind}
use Rattle.record.specs.declared.Kind.TheVariants.{Send, Echo, Vote}
use Rattle.record.specs.Form.{Read, Fault}
use Rattle.record.specs.Kinds.{kind_number}
use Rattle.record.proofs.Reading.{stopped}
use Rattle.notice.specs.Form.{is_notice_kind, sort_of}
use Rattle.notice.specs.Kinds.{NoticeKinds, notice_number, notice_read_as}

-- a number that no kind has
pub no_notice_kind : (n : ℕ) → (n ≡ 4 → ⊥) → (n ≡ 5 → ⊥) → (n ≡ 6 → ⊥) → is_notice_kind n ≡ false
unfolding is_notice_kind
no_notice_kind n a b c = go (leb 4 n) refl
  where
    go : (t : Bool) → leb 4 n ≡ t → t && leb n 6 ≡ false
    go false e = refl
    go true e = let h : 4 ≤ n = leb-true 4 n e in lt-leb n 6 (omega arith)

-- a kind's number is a kind's, and three more than among the broadcast's
pub some_notice_kind : (k : Kind) → is_notice_kind (notice_number k) ≡ true
unfolding is_notice_kind
some_notice_kind Send = refl
some_notice_kind Echo = refl
some_notice_kind Vote = refl

pub notice_number_is : (k : Kind) → notice_number k ≡ 3 + kind_number k
notice_number_is Send = refl
notice_number_is Echo = refl
notice_number_is Vote = refl

pub sort_is : (k : Kind) → sort_of (notice_number k) ≡ kind_number k
sort_is Send = refl
sort_is Echo = refl
sort_is Vote = refl

-- where a test of a field gave a fault, it was not passed
pub notice_stopped : (x : Result Outline Refused) (ok : Bool) (why : Refusal) (at : ℕ) (r : Result Unit Refused) (e : Refused) (next : Read)
    → IsErrAnd x (λ d. d ≡ e) → r ≡ pick ok (Ok tt) (Err (record { why = why; at = at })) → r ≡ Err e → notice_read_as x ≡ pick ok next (Fault (number_of why) at)
notice_stopped x ok why at r e next p h q =
    let w = err_from_is_err_and x p in
    let z = stopped x ok why at r e next p h q in
    rw w.1 (rw w.1 at z)

-- where a number gave no kind, none has it
pub notice_kind_stopped : (x : Result Outline Refused) (n : ℕ) (r : Result Kind Refusal) (e : Refusal) (next : Read)
    → IsErrAnd x (Nowhere e) → NoticeKinds n r → r ≡ Err e → notice_read_as x ≡ pick (is_notice_kind n) next (Fault 21 0)
unfolding pick
notice_kind_stopped x n r e next p h q =
    let w = err_from_is_err_and x p in
    let z = MatchResult-at_err (λ (k : Kind). notice_number k ≡ n) (λ (d : Refusal). (d ≡ refusal.Kind) × (is_notice_kind n ≡ false)) e q h in
    rw (w.1, w.2, z.0, z.1) refl

-- and where it gave one, that one does
pub notice_kind_fine : (n : ℕ) (r : Result Kind Refusal) (k : Kind) → NoticeKinds n r → r ≡ Ok k → notice_number k ≡ n
notice_kind_fine n r k h q = MatchResult-at_ok (λ (k : Kind). notice_number k ≡ n) (λ (d : Refusal). (d ≡ refusal.Kind) × (is_notice_kind n ≡ false)) k q h
