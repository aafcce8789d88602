-- Demand 3 of the boards that C calls: `demand_three`, at the end. Its statement, `DemandThree`, stands in specs/Demand.antt.
use Prim.Native.Nat.{ℕ, ◌≤◌}
use native.Mathlib.Omega.{arith}
use mathlib.Core.Bool.{Bool, true}
use mathlib.Core.Path.{◌≡◌, refl, sym, ◌∙◌}
use mathlib.Core.List.{List, []}
use mathlib.Core.Option.{some}
use lib.Dec.{T}
use lib.ListN.{length, replicate, length-replicate}
use Rattle.record.specs.Form.{out_bytes}
use Rattle.octets.specs.Bytes.{part}
use Rattle.table.specs.Table.{limits}
use Rattle.table.specs.declared.Table.{Table}
use Rattle.board_send.specs.Sent.{send_record, send_of}
use Rattle.board_send.proofs.Sends.{sent_front}
use Rattle.line.specs.Boards.{Board, Keepers}
use Rattle.line.specs.Run.{Machine, Run, Fair}
use Rattle.line.specs.Promise.{Mail, Promise}
use Rattle.line.specs.Project.{project}
use Rattle.line.proofs.Lifted.{lifted}
use Rattle.line_desk.proofs.Carry.{sees, lifts, carries, fair_line, promised}
use Rattle.line_fragments.specs.Step.{mail}
use Rattle.line_fragments.specs.Hashed.{hashes, CollisionIn}
use Rattle.line_fragments.proofs.Hashes.{collides}
use Rattle.line_fragments.proofs.Promises.{kept}
use Rattle.line_code.specs.Parts.{Sendable, code_of, line_of}
use Rattle.line_code.proofs.Codes.{code_laws}
use Rattle.line_code.proofs.Lines.{line_laws}
use Rattle.line_code.proofs.Mails.{mail_sent, mail_laws}
use Rattle.line_desk.specs.Desk.{Desk, Roomy}
use Rattle.line_demand.specs.Boards.{fragment_kind, Sends, boards}
use Rattle.line_demand.specs.Strings.{OneValue}
use Rattle.line_demand.specs.Demand.{DemandThree}
use Rattle.line_demand.proofs.Started.{broadcast}
use Rattle.line_demand.proofs.Carry.{paper, board_is, begins, follows, carried}
use Rattle.line_demand.proofs.Strings.{step_hashes}

module _ (b : Table) (limited : limits b ≡ true) (m : List ℕ) (fits : Sendable b m) where
  -- ---- what the sender's calls leave is the sender's records on paper

  abbrev pub Mails : ℕ → ℕ → List ℕ → Type 0
  Mails = Mail b.n b.sender (mail (line_of b) m)

  front : (j : ℕ) (out : List ℕ) → Board b.n j → out_bytes ≤ length out → part 0 (send_of b m j out).answer.length (send_of b m j out).out ≡ send_record b m j
  front j out bd room = (sent_front b m j out limited fits.fits (board_is b j bd) room (send_of b m j out).answer (send_of b m j out).out refl).record_front

  pub to_mail : (i j : ℕ) (ρ : List ℕ) → Sends b m i j ρ → Mails i j ρ
  to_mail i j ρ s = (s.sender, s.board, s.is ∙ front j s.out s.board s.room ∙ sym (mail_sent b limited m j fits s.board))

  pub of_mail : (i j : ℕ) (ρ : List ℕ) → Mails i j ρ → Sends b m i j ρ
  of_mail i j ρ (e, bd, q) = record {
    sender = e;
    board = bd;
    out = replicate out_bytes 0;
    room = long;
    is = q ∙ mail_sent b limited m j fits bd ∙ sym (front j (replicate out_bytes 0) bd long);
  }
    where
      long : out_bytes ≤ length {A = ℕ} (replicate out_bytes 0)
      long = omega (arith, length-replicate {A = ℕ} out_bytes 0)

  module _ {keeps : ℕ → Bool} (K : Keepers b.n b.t keeps) (lent : ℕ → Desk) (roomy : (j : ℕ) → T (keeps j) → Roomy (fragment_kind b) (lent j)) (r : Run (boards b lent)) where
    abbrev BB : Machine
    BB = boards b lent

    abbrev MM : Machine
    MM = broadcast b

    clash : CollisionIn (code_of b) MM (hashes (line_of b)) keeps b.sender m (project BB MM sees r) → OneValue b lent keeps m r
    unfolding carries lifted lifts
    clash = collides (carried b lent keeps roomy) (code_of b) (step_hashes b) b.sender m r

    -- a run of the byte boards is a run of the broadcast, whose promise is theirs
    line : Fair BB keeps (Sends b m) r → Promise BB keeps b.sender (Sends b m) (some m) (OneValue b lent keeps m r) r
    line f =
        promised (fragment_kind b) (paper b) (follows b) lent keeps roomy b.n (begins b limited) b.t K (Sends b m) Mails to_mail of_mail b.sender (some m)
        clash
        (kept (line_laws b limited) (λ i. []) (λ i. []) (code_laws b limited) (mail_laws b limited) K m fits
        (fair_line (fragment_kind b) (paper b) (follows b) lent keeps roomy b.n (begins b limited) b.t K (Sends b m) Mails to_mail f))

-- demand 3 holds
pub demand_three : DemandThree
unfolding DemandThree
demand_three b limited m fits keeps K lent roomy r f = line b limited m fits K lent roomy r f
