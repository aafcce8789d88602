use mathlib.Core.Path.{sym, ap, ◌∙◌}
use native.Mathlib.Omega.{arith}
use borrow.Author.Tests.{lt-ltb, le-ltb}
use lib.ListN.{length}
use Rattle.std.proofs.lemmas.Result.{err_from_is_err_and}
use Rattle.std.specs.Prelude.{Result}
use Rattle.refusal.specs.declared.Refusal.{Refusal}
use Rattle.refusal.specs.Numbers.{refused}
use Rattle.refusal.proofs.Numbers.{number_some}
use Rattle.octets.specs.Bytes.{pick}
use Rattle.record.specs.Form.{vote_bytes}
use Rattle.mailbox.proofs.Framing.{framed_whole}
use Rattle.board_mailbox.proofs.Refusals.{first_applies, later_applies}
use Rattle.board_mailbox.proofs.mailbox_refusal.Goals as goal

pub returns-in_err-first_refusal : goal.returns-in_err-first_refusal
returns-in_err-first_refusal c =
    let p = err_from_is_err_and c.from_residual.result c.from_residual.ensures.1 in
    let q = ap (λ (r : Result Unit Refusal). refused r) c.in_err-first_refusal.was in
    rw (p.1, p.2) (first_applies _ _ _ _ _ _ _ (sym q ∙ c.first_refusal.ensures) (λ h. omega (arith, h, number_some c.in_err-first_refusal.field-0.0)))

pub returns-then-vote-lt-VOTE_BYTES : goal.returns-then-vote-lt-VOTE_BYTES
unfolding pick
returns-then-vote-lt-VOTE_BYTES c =
    let q = ap (λ (r : Result Unit Refusal). refused r) c.in_ok-first_refusal.was in
    later_applies _ _ _ _ _ _ _ c.first_refusal.ensures q 2 (rw (lt-ltb (length c.args.vote.now) vote_bytes c.if-vote-lt-VOTE_BYTES.true))

pub returns-then-not-is_framed : goal.returns-then-not-is_framed
unfolding pick
returns-then-not-is_framed c =
    let q = ap (λ (r : Result Unit Refusal). refused r) c.in_ok-first_refusal.was in
    later_applies _ _ _ _ _ _ _ c.first_refusal.ensures q 16 (rw (le-ltb (length c.args.vote.now) vote_bytes c.if-vote-lt-VOTE_BYTES.false, ← c.is_framed.ensures, c.if-not-is_framed.true))

pub two_at-requires : goal.two_at-requires
two_at-requires c =
    let is_framed = c.is_framed in let h = framed_whole _ (sym is_framed.ensures ∙ c.if-not-is_framed.false) in
    omega (arith, h.0)

pub returns-then-answers-two_at : goal.returns-then-answers-two_at
unfolding pick
returns-then-answers-two_at c =
    let two_at = c.two_at in
    let q = ap (λ (r : Result Unit Refusal). refused r) c.in_ok-first_refusal.was in
    later_applies _ _ _ _ _ _ _ c.first_refusal.ensures q 16
    (rw (le-ltb (length c.args.vote.now) vote_bytes c.if-vote-lt-VOTE_BYTES.false, ← c.is_framed.ensures, c.if-not-is_framed.false, ← two_at.ensures.0, lt-ltb (length c.args.answers.now) two_at.result c.if-answers-two_at.true))

pub returns : goal.returns
unfolding pick
returns c =
    let two_at = c.two_at in
    let q = ap (λ (r : Result Unit Refusal). refused r) c.in_ok-first_refusal.was in
    later_applies _ _ _ _ _ _ _ c.first_refusal.ensures q 0
    (rw (le-ltb (length c.args.vote.now) vote_bytes c.if-vote-lt-VOTE_BYTES.false, ← c.is_framed.ensures, c.if-not-is_framed.false, ← two_at.ensures.0, le-ltb (length c.args.answers.now) two_at.result c.if-answers-two_at.false))
