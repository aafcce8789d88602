-- A call that is not refused: what each of its refusals, not applying, says; and how the code's steps make up the promise.
-- Assumes nothing.
use mathlib.Core.Path.{◌≡◌, refl, ap, ap₂, ◌∙◌}
use mathlib.Core.Bool.{true, not}
use mathlib.Core.List.{List}
use Prim.Native.Nat.{ℕ, zero, suc, ◌-◌, ◌≤◌}
use native.Mathlib.Omega.{arith}
use borrow.Author.Tests.{ltb-false}
use lib.Dec.{ltb}
use lib.ListN.{length}
use Rattle.octets.specs.Bytes.{put}
use Rattle.octets.proofs.Picks.{none_applies, not_none}
use Rattle.table.specs.Table.{limits, is_board, k_of}
use Rattle.table.specs.declared.Table.{Table}
use Rattle.table.proofs.Within.{board_number}
use Rattle.tree.specs.Tree.{tree_of, depth, root_of, path_of, flat}
use Rattle.code_encode.specs.Message.{fragment_for}
use Rattle.record.specs.Form.{out_bytes, record_of}
use Rattle.refusal.specs.declared.Refusal.{Refusal}
use Rattle.refusal.specs.Numbers.{number_of}
use Rattle.refusal.specs.Answers.{sized, sized_of}
use Rattle.refusal.proofs.Numbers.{number_some}
use Rattle.std.specs.Prelude.{Err}
use Rattle.board_send.specs.Sent.{send_refusal, send_record, send_out, send_by, send_of}
use Rattle.board_send.specs.Laying.{fragments}

pub record SendTaken (b : Table) (message : List ℕ) (to : ℕ) (out : List ℕ) : Type 0 where
  pub limited : limits b ≡ true
  pub room : out_bytes ≤ length out
  pub low : 1 ≤ to
  pub high : to ≤ b.n
  pub fits : length message ≤ b.longest

module _ (b : Table) (message : List ℕ) (to : ℕ) (out : List ℕ) where
  pub send_taken : send_refusal b message to out ≡ 0 → SendTaken b message to out
  unfolding send_refusal
  send_taken e =
      let (e1, f1) = none_applies (not (limits b)) 0 _ e in
      let (e2, f2) = none_applies (ltb (length out) out_bytes) 1 _ f1 in
      let (e3, f3) = none_applies (not (is_board b to)) 3 _ f2 in
      let (one, few) = board_number b to (not_none (is_board b to) e3) in
      let (e4, f4) = none_applies (ltb b.longest (length message)) 12 _ f3 in
      record {
        limited = not_none (limits b) e1;
        room = ltb-false _ _ e2;
        low = one;
        high = few;
        fits = ltb-false _ _ e4;
      }

  -- what the code does once it knows the refusal, by its number
  pub send_refused : (q : ℕ) → (q ≡ 0 → ⊥) → q ≡ send_refusal b message to out → send_out (sized q 0) out ≡ send_of b message to out
  unfolding send_of send_by
  send_refused zero some e = absurd (some refl)
  send_refused (suc q) some e = ap (λ (q : ℕ). send_by q b message to out) e

  -- and by itself
  pub send_refused_by : (r : Refusal) → number_of r ≡ send_refusal b message to out → send_out (sized_of (Err r)) out ≡ send_of b message to out
  send_refused_by r e = let some = number_some r in send_refused (number_of r) (λ z. omega (arith, some, z)) e

  -- the record with k as the code has it
  abbrev made : ℕ → List ℕ
  made k =
      record_of 1 (root_of b.n (fragments k message)) (depth (tree_of b.n) (to - 1)) (flat (path_of b.n (fragments k message) (to - 1))) (fragments k message (to - 1))

  made_is : (k : ℕ) → k ≡ k_of b → made k ≡ send_record b message to
  unfolding send_record fragment_for
  made_is k e = ap made e

  pub send_made : (k len : ℕ) (new : List ℕ) → send_refusal b message to out ≡ 0 → k ≡ k_of b → new ≡ put 0 (made k) out → len ≡ length (made k)
      → send_out (sized 0 len) new ≡ send_of b message to out
  unfolding send_of send_by
  send_made k len new none e en el =
      rw none
      (ap₂ (λ (m : ℕ) (o : List ℕ). send_out (sized 0 m) o) (el ∙ ap length (made_is k e)) (en ∙ ap (λ (r : List ℕ). put 0 r out) (made_is k e)))
