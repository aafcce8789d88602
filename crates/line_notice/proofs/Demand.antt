-- Demand 3 of the notice boards that C calls: `demand_three_notices`, at the end. Its statement, `DemandThreeNotices`, stands in specs/Demand.antt.
use Prim.Native.Nat.{ℕ, ◌≤◌}
use native.Mathlib.Omega.{arith}
use mathlib.Core.Bool.{Bool, true}
use mathlib.Core.Path.{◌≡◌, sym, ◌∙◌}
use mathlib.Core.List.{List, []}
use borrow.Author.Tests.{le-ltb}
use lib.Dec.{T}
use lib.ListN.{length, replicate, length-replicate}
use Rattle.octets.specs.Bytes.{pick, part}
use Rattle.octets.proofs.Frame.{part_in}
use Rattle.table.specs.Table.{limits}
use Rattle.table.specs.declared.Table.{Table}
use Rattle.notice.specs.Form.{notice_most, notice_out_bytes, notice_record}
use Rattle.notice.proofs.Round.{notice_length}
use Rattle.notice_step.specs.Sent.{notice_send_refusal, notice_send_by, notice_send_of}
use Rattle.line.specs.Boards.{Board, Keepers}
use Rattle.line.specs.Run.{Run, Fair}
use Rattle.line.specs.Promise.{Mail, Promise}
use Rattle.line.specs.Notice.{send}
use Rattle.line.proofs.Notices.{kept}
use Rattle.line_desk.specs.Desk.{Desk, Roomy}
use Rattle.line_desk.proofs.Carry.{fair_line, promised}
use Rattle.line_notice.specs.Boards.{notice_kind, notice_boards, Noticeable, NoticeSends}
use Rattle.line_notice.specs.Demand.{DemandThreeNotices}
use Rattle.line_notice.proofs.Notes.{form_laws, note_back}
use Rattle.line_notice.proofs.Carry.{paper, board_is, begins, follows}

module _ (b : Table) (limited : limits b ≡ true) (v : List ℕ) (fits : Noticeable v) where
  -- ---- what the sender's calls leave is the sender's records on paper

  abbrev pub Mails : ℕ → ℕ → List ℕ → Type 0
  Mails = Mail b.n b.sender (λ j. notice_record 4 v)

  front : (j : ℕ) (out : List ℕ) → Board b.n j → notice_out_bytes ≤ length out
      → part 0 (notice_send_of b v j out).answer.length (notice_send_of b v j out).out ≡ notice_record 4 v
  unfolding notice_send_of notice_send_by notice_send_refusal pick
  front j out bd room =
      rw (limited, le-ltb (length out) notice_out_bytes room, board_is b j bd, le-ltb notice_most (length v) fits.fits)
      (part_in 0 (notice_record 4 v) out (omega (arith, notice_length 4 v, fits.fits)))

  pub to_mail : (i j : ℕ) (ρ : List ℕ) → NoticeSends b v i j ρ → Mails i j ρ
  to_mail i j ρ s = (s.sender, s.board, s.is ∙ front j s.out s.board s.room)

  pub of_mail : (i j : ℕ) (ρ : List ℕ) → Mails i j ρ → NoticeSends b v i j ρ
  of_mail i j ρ (e, bd, q) =
      record { sender = e; board = bd; out = replicate notice_out_bytes 0; room = long; is = q ∙ sym (front j (replicate notice_out_bytes 0) bd long) }
    where
      long : notice_out_bytes ≤ length {A = ℕ} (replicate notice_out_bytes 0)
      long = omega (arith, length-replicate {A = ℕ} notice_out_bytes 0)

  -- ---- the promise of the broadcast of plain values (crate line) is the boards'

  module _ {keeps : ℕ → Bool} (A : Keepers b.n b.t keeps) (lent : ℕ → Desk) (roomy : (j : ℕ) → T (keeps j) → Roomy (notice_kind b) (lent j))
      (r : Run (notice_boards b lent)) where
    line : Fair (notice_boards b lent) keeps (NoticeSends b v) r → Promise (notice_boards b lent) keeps b.sender (NoticeSends b v) v ⊥ r
    line f =
        promised (notice_kind b) (paper b) (follows b) lent keeps roomy b.n (begins b limited) b.t A (NoticeSends b v) Mails to_mail of_mail b.sender v
        (λ u. u)
        (kept (form_laws b limited) (λ i. []) A v (note_back (send v) fits)
        (fair_line (notice_kind b) (paper b) (follows b) lent keeps roomy b.n (begins b limited) b.t A (NoticeSends b v) Mails to_mail f))

-- demand 3 holds for notices
pub demand_three_notices : DemandThreeNotices
unfolding DemandThreeNotices
demand_three_notices b limited v fits keeps A lent roomy r f = line b limited v fits A lent roomy r f
