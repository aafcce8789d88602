-- Kinds by their numbers, and what a test that a field passes or not says of what is read.
use mathlib.Core.Path.{◌≡◌, refl, sym, ◌∙◌}
use mathlib.Core.Logic.{◌⊎◌, ⊎_elim}
use mathlib.Core.Bool.{Bool, true, false, ◌&&◌}
use Prim.Native.Nat.{ℕ, ◌≤◌}
use native.Mathlib.Omega.{arith}
use borrow.Author.Tests.{leb-true, lt-leb}
use lib.Dec.{leb, eqb}
use Rattle.std.proofs.Common.{Result, Ok, Err}
use Rattle.std.specs.Result.{IsErrAnd}
use Rattle.std.proofs.lemmas.Result.{err_from_is_err_and, MatchResult-at_ok, MatchResult-at_err}
use Rattle.octets.specs.Bytes.{pick}
use Rattle.refusal.specs.declared.Refusal.{Refusal}
use Rattle.refusal.specs.declared.Refusal.TheVariants as refusal
use Rattle.refusal.specs.declared.Refused.{Refused}
use Rattle.refusal.specs.Numbers.{number_of, Nowhere}
use Rattle.record.specs.declared.Outline.{Outline}
use Rattle.record.specs.declared.Kind.{Kind}
use Rattle.record.specs.declared.Kind.TheVariants.{Send, Echo, Vote}
use Rattle.record.specs.Form.{Read, Fault, is_kind}
use Rattle.record.specs.Kinds.{Kinds, kind_number, read_as}

-- a send or an echo is no vote
pub no_vote : (k : Kind) → (k ≡ Send) ⊎ (k ≡ Echo) → eqb (kind_number k) 3 ≡ false
no_vote k = ⊎_elim (λ e. rw e refl) (λ e. rw e refl)

-- a number that no kind has
pub no_kind : (n : ℕ) → (n ≡ 1 → ⊥) → (n ≡ 2 → ⊥) → (n ≡ 3 → ⊥) → is_kind n ≡ false
unfolding is_kind
no_kind n a b c = go (leb 1 n) refl
  where
    go : (t : Bool) → leb 1 n ≡ t → t && leb n 3 ≡ false
    go false e = refl
    go true e = let h : 1 ≤ n = leb-true 1 n e in lt-leb n 3 (omega arith)

-- where a test of a field gave a fault, it was not passed
pub stopped : (x : Result Outline Refused) (ok : Bool) (why : Refusal) (at : ℕ) (r : Result Unit Refused) (e : Refused) (next : Read)
    → IsErrAnd x (λ d. d ≡ e) → r ≡ pick ok (Ok tt) (Err (record { why = why; at = at })) → r ≡ Err e → read_as x ≡ pick ok next (Fault (number_of why) at)
unfolding pick
stopped x true why at r e next p h q = absurd (let z : ◌≡◌ {A = Result Unit Refused} (Ok tt) (Err e) = sym h ∙ q in cc)
stopped x false why at r e next p h q =
    let z : ◌≡◌ {A = Result Unit Refused} (Err (record { why = why; at = at })) (Err e) = sym h ∙ q in
    let w = err_from_is_err_and x p in
    rw w.1 (cc (w.2, z))

-- and where it gave none, it was
pub fine : (ok : Bool) (x : Refused) (r : Result Unit Refused) (u : Unit) → r ≡ pick ok (Ok tt) (Err x) → r ≡ Ok u → ok ≡ true
unfolding pick
fine true x r u h e = refl
fine false x r u h e = absurd (let z : ◌≡◌ {A = Result Unit Refused} (Err x) (Ok u) = sym h ∙ e in cc)

-- a kind's number is a kind's
pub some_kind : (k : Kind) → is_kind (kind_number k) ≡ true
unfolding is_kind
some_kind Send = refl
some_kind Echo = refl
some_kind Vote = refl

-- where a number gave no kind, none has it
pub kind_stopped : (x : Result Outline Refused) (n : ℕ) (r : Result Kind Refusal) (e : Refusal) (next : Read)
    → IsErrAnd x (Nowhere e) → Kinds n r → r ≡ Err e → read_as x ≡ pick (is_kind n) next (Fault 21 0)
unfolding pick
kind_stopped x n r e next p h q =
    let w = err_from_is_err_and x p in
    let z = MatchResult-at_err (λ (k : Kind). kind_number k ≡ n) (λ (d : Refusal). (d ≡ refusal.Kind) × (is_kind n ≡ false)) e q h in
    rw (w.1, w.2, z.0, z.1) refl

-- and where it gave one, that one does
pub kind_fine : (n : ℕ) (r : Result Kind Refusal) (k : Kind) → Kinds n r → r ≡ Ok k → kind_number k ≡ n
kind_fine n r k h q = MatchResult-at_ok (λ (k : Kind). kind_number k ≡ n) (λ (d : Refusal). (d ≡ refusal.Kind) × (is_kind n ≡ false)) k q h

-- an echo or a vote is no send
pub no_send : (k : Kind) → (k ≡ Echo) ⊎ (k ≡ Vote) → eqb (kind_number k) 1 ≡ false
no_send k = ⊎_elim (λ e. rw e refl) (λ e. rw e refl)

-- no kind has a number that gave none
pub kind_refused : (n : ℕ) (r : Result Kind Refusal) (e : Refusal) → Kinds n r → r ≡ Err e → is_kind n ≡ false
kind_refused n r e h q = (MatchResult-at_err (λ (k : Kind). kind_number k ≡ n) (λ (d : Refusal). (d ≡ refusal.Kind) × (is_kind n ≡ false)) e q h).1
