-- The premises of demand 3 can be met: closed runs of the boards that C calls, with sender 1 and L 16. A message is delivered by all boards, by all
-- but those that break the rules, and where a record is repeated; void is delivered by all that keep the rules, as the sender lies.
use Prim.Native.Nat.{ℕ, zero, suc, ◌+◌, ◌-◌, ◌≤◌, ◌<◌}
use native.Mathlib.Omega.{arith}
use mathlib.Core.Bool.{Bool, true, ◌&&◌}
use mathlib.Core.Path.{◌≡◌, refl, subst, sym, ◌∙◌, ap}
use mathlib.Core.Logic.{◌⊎◌, inl, inr}
use mathlib.Core.List.{List, [], ◌∷◌}
use mathlib.Core.Option.{Option, some, none}
use borrow.Author.Tests.{lt-ltb}
use lib.Dec.{T, leb, leb→le, eqb}
use Rattle.octets.specs.Bytes.{pick}
use Rattle.record.specs.Form.{parse}
use Rattle.table.specs.Table.{limits}
use Rattle.table.specs.declared.Table.{Table}
use Rattle.tree.specs.Tree.{root_of}
use Rattle.line.specs.Boards.{count, Board, known, Keepers}
use Rattle.line.specs.Run.{hand, Run, Took, Fair}
use Rattle.line.specs.Core.{Word}
use Rattle.line.proofs.Tests.{left, right, off, none_some}
use Rattle.line.proofs.Counts.{is_known, known_is}
use Rattle.line.proofs.Scripts.{Strays}
use Rattle.line_fragments.specs.Step.{send, BoardState, mail}
use Rattle.line_fragments.proofs.Spreads.{Correct, none_yet, state_at}
use Rattle.line_fragments.proofs.Delivers.{unreadable, forged, second}
use Rattle.line.specs.Bytes.{bytes}
use Rattle.line_code.specs.Parts.{Sendable, code_of, line_of, record_read, read_record}
use Rattle.line_code.proofs.Lines.{line_laws}
use Rattle.line_code.proofs.Mails.{mail_sent, mail_laws}
use Rattle.line_desk.specs.Desk.{Desk}
use Rattle.line_demand.specs.Boards.{Sends, boards}
use Rattle.line_demand.proofs.Demand.{of_mail}
use Rattle.line_demand.proofs.Void.{small, small_limits, piece_of, paths_of, result_of_all, lone, lone_correct, lone_void, lies, lies_correct, lies_void}
use Rattle.line_demand.proofs.Refusals.{RefusedWith, Refuses, empty_twenty, forged_six, second_nine}
use Rattle.line_demand.proofs.Meets.{Met, blank, blank_roomy, run_of, RefusedBy, met, breaks, strays_only, refuses, sendings, kept_run}

-- Board i breaks the rules in it: no choice of rule-keeping boards with i among them makes the run fair.
abbrev pub Breaks : {b : Table} {lent : ℕ → Desk} {keeps : ℕ → Bool} {m : List ℕ} {d : Option (List ℕ)} → Met b lent keeps m d → ℕ → Type 0
Breaks {b} {lent} {m = m} w i = (keeps : ℕ → Bool) → Fair (boards b lent) keeps (Sends b m) w.run → T (keeps i) → ⊥

-- Boards i and k break the rules: i hands a send of m' to every board, which is not its to send, and k a record that cannot be read. All boards refuse
-- them, and nothing else is handed over from a board that does not keep the rules: it neither echoes nor votes.
pub record Forged (b : Table) (keeps : ℕ → Bool) (m m' : List ℕ) (i k : ℕ) : Type 0 where
  pub meets : Met b (blank b) keeps m (some m)
  pub breaks_send : Breaks meets i
  pub breaks_empty : Breaks meets k
  pub refused_send : (j : ℕ) → Board b.n j → Refuses b (blank b) meets.run j i (mail (line_of b) m' j) 6
  pub refused_empty : (j : ℕ) → Board b.n j → Refuses b (blank b) meets.run j k [] 20
  pub nothing_else : (a j : ℕ) (x : List ℕ) → (T (keeps a) → ⊥) → Took (boards b (blank b)) j (hand a x) meets.run
      → ((a ≡ i) × (x ≡ mail (line_of b) m' j)) ⊎ ((a ≡ k) × (x ≡ []))

-- All boards keep the rules. Each is handed the sender's record twice, and refuses the second.
pub record Repeated (b : Table) (m : List ℕ) : Type 0 where
  pub meets : Met b (blank b) (known b.n) m (some m)
  pub refused_second : (j : ℕ) → Board b.n j → Refuses b (blank b) meets.run j b.sender (mail (line_of b) m j) 9
  pub taken_first : (j : ℕ) (c : Board b.n j) → Took (boards b (blank b)) j (hand b.sender (mail (line_of b) m j)) (refused_second j c).before

-- ---- records that are refused before the echoes

-- none
abbrev nothing : Strays (List ℕ)
nothing = record { rounds = 0; from = λ k. 0; stray = λ k j. [] }

-- the sender's records for m, once more
abbrev again : Table → List ℕ → Strays (List ℕ)
again b m = record { rounds = 1; from = λ k. b.sender; stray = λ k j. mail (line_of b) m j }

-- a send of the message m by board (from 1), and a record of board (from 2) that cannot be read
abbrev forgeries : Table → List ℕ → (ℕ → ℕ) → Strays (List ℕ)
forgeries b m from = record { rounds = 2; from = from; stray = λ k j. pick (eqb k 1) (mail (line_of b) m j) [] }

empty_unread : read_record [] ≡ none
unfolding read_record record_read bytes parse pick
empty_unread = refl

module _ (b : Table) (limited : limits b ≡ true) where
  mail_read : (m : List ℕ) → Sendable b m → (j : ℕ) → Board b.n j
      → read_record (mail (line_of b) m j) ≡ some (send ((code_of b).root m) ((code_of b).path m j) ((code_of b).piece m j))
  mail_read m fits j c = (mail_laws b limited).send_back m j fits c

  module _ {v : List ℕ} {f π : ℕ → List ℕ} (G : Correct (line_of b) v f π) where
    -- board j when it has taken the sender's record
    abbrev sent_to : ℕ → BoardState (line_of b)
    sent_to j = state_at (line_laws b limited) (λ i. []) (λ i. []) G j 0 0

    nothing_refused : RefusedBy b limited G nothing
    nothing_refused j k c r = absurd (omega arith)

    module _ (m : List ℕ) (fits : Sendable b m) where
      again_refused : RefusedBy b limited G (again b m)
      again_refused j k c r = second (line_of b) (sent_to j) b.sender (mail (line_of b) m j) ((code_of b).root m) ((code_of b).path m j) ((code_of b).piece m j)
          (mail_read m fits j c) refl

      forgeries_refused : (from : ℕ → ℕ) → (from 1 ≡ b.sender → ⊥) → RefusedBy b limited G (forgeries b m from)
      unfolding pick
      forgeries_refused from ne j zero c r = absurd (omega arith)
      forgeries_refused from ne j (suc zero) c r = forged (line_of b) (sent_to j) (from 1) (mail (line_of b) m j) ((code_of b).root m) ((code_of b).path m j)
          ((code_of b).piece m j) (mail_read m fits j c) ne
      forgeries_refused from ne j (suc (suc zero)) c r = unreadable (line_of b) (sent_to j) (from 2) [] empty_unread
      forgeries_refused from ne j (suc (suc (suc k))) c r = absurd (omega arith)

-- ---- the sender keeps the rules, in any table

module _ (b : Table) (limited : limits b ≡ true) (m : List ℕ) (fits : Sendable b m) where
  abbrev sent : Correct (line_of b) ((code_of b).root m) ((code_of b).piece m) ((code_of b).path m)
  sent = sendings b limited m fits

  -- the boards 1 to h, if these are n - t or more, may be those that keep the rules, and every message may be delivered
  pub message_run : (h : ℕ) → b.n - b.t ≤ h → h ≤ b.n → Met b (blank b) (known h) m (some m)
  message_run h few most = kept_run b limited m fits nothing (nothing_refused b limited sent) h few most (λ k j c r. absurd (omega arith))

  pub repeated_run : Repeated b m
  unfolding kept_run met
  repeated_run = record {
    meets = kept_run b limited m fits (again b m) (again_refused b limited sent m fits) b.n (omega arith) (omega arith)
        (λ k j c r ks. of_mail b limited m fits b.sender j (mail (line_of b) m j) (refl, r, refl));
    refused_second = λ j c. (twice j c).0;
    taken_first = λ j c. (twice j c).1;
  }
    where
      run : Run (boards b (blank b))
      run = run_of b ((code_of b).root m) ((code_of b).piece m) ((code_of b).path m) (again b m) b.n

      twice : (j : ℕ) → Board b.n j → (x : Refuses b (blank b) run j b.sender (mail (line_of b) m j) 9)
          × Took (boards b (blank b)) j (hand b.sender (mail (line_of b) m j)) x.before
      twice j c =
          let early = none_yet (line_laws b limited) in
          refuses b limited sent (again b m) (again_refused b limited sent m fits) b.n (omega arith) (omega arith) m
          1 j 9 (record { low = omega arith; high = omega arith }) c
          (λ r d here shown. subst (RefusedWith 9 d b.sender) (sym (mail_sent b limited m j fits c))
          (second_nine b limited (blank b) (blank_roomy b) r j d here b.sender (line_laws b limited).sender m fits j c refl
          (ap (λ s. s.core.spoke Word.echo) shown) (ap (λ s. s.out) shown ∙ early) (ap (λ s. s.done) shown ∙ early)))

  -- boards beyond h, which send nothing but forgeries of the message m'
  module _ (m' : List ℕ) (fits' : Sendable b m') (h : ℕ) (few : b.n - b.t ≤ h) (most : h ≤ b.n) (sender : b.sender ≤ h)
      (from : ℕ → ℕ) (beyond : (k : ℕ) → Board 2 k → Board b.n (from k) × (h < from k)) where
    not_sender : (k : ℕ) → Board 2 k → from k ≡ b.sender → ⊥
    not_sender k c e = let (a, far) = beyond k c in omega arith

    one : Board 2 1
    one = record { low = omega arith; high = omega arith }

    two : Board 2 2
    two = record { low = omega arith; high = omega arith }

    all_refuse : RefusedBy b limited sent (forgeries b m' from)
    all_refuse = forgeries_refused b limited sent m' fits' from (not_sender 1 one)

    -- round 1, round 2
    which : (a j : ℕ) (x : List ℕ) (k : ℕ) → Board 2 k → a ≡ from k → x ≡ (forgeries b m' from).stray k j
        → ((a ≡ from 1) × (x ≡ mail (line_of b) m' j)) ⊎ ((a ≡ from 2) × (x ≡ []))
    unfolding pick
    which a j x zero c e q = absurd (omega arith)
    which a j x (suc zero) c e q = inl (e, q)
    which a j x (suc (suc zero)) c e q = inr (e, q)
    which a j x (suc (suc (suc k))) c e q = absurd (omega arith)

    forged_run : Forged b (known h) m m' (from 1) (from 2)
    unfolding kept_run met pick
    forged_run =
        let X = forgeries b m' from in
        let c₁ = (beyond 1 one).0 in
        let c₂ = (beyond 2 two).0 in
        let read = mail_read b limited m' fits' (from 1) c₁ in
        record {
          meets = kept_run b limited m fits X all_refuse h few most
              (λ k j c r ki. absurd (let (a, far) = beyond k c in let i : Board h (from k) = known_is ki in omega arith));
          breaks_send = λ keeps fair ki. breaks b limited sent X all_refuse h few most m keeps fair 1 (from 1) one c₁ ki c₁ (not_sender 1 one)
              (λ e. off (cc)) (λ e. off (cc)) ki;
          breaks_empty = λ keeps fair ki. breaks b limited sent X all_refuse h few most m keeps fair 2 (from 2) two c₂ ki c₂ (not_sender 2 two)
              (λ e. none_some _ (sym empty_unread ∙ e)) (λ e. none_some _ (sym empty_unread ∙ e)) ki;
          refused_send = λ j c. (refuses b limited sent X all_refuse h few most m 1 j 6 one c
              (λ r d here shown. subst (RefusedWith 6 d (from 1)) (sym (mail_sent b limited m' j fits' c))
              (forged_six b limited (blank b) (blank_roomy b) r j d here (from 1) c₁ m' fits' j c (not_sender 1 one)))).0;
          refused_empty = λ j c. (refuses b limited sent X all_refuse h few most m 2 j 20 two c
              (λ r d here shown. empty_twenty b limited (blank b) (blank_roomy b) r j d here (from 2) c₂)).0;
          nothing_else = λ a j x out t. (
              let S : Board h b.sender = record { low = (line_laws b limited).sender.low; high = sender } in
              let (k, c, e, q) = strays_only b limited sent X all_refuse h few most m a j x (λ e. out (is_known (subst (Board h) (sym e) S)))
              (λ s. out (is_known s)) t in
              which a j x k c e q);
        }

-- ---- closed runs of it

letter_fits : (b : Table) (x : ℕ) → 1 ≤ b.longest → x < 256 → Sendable b (x ∷ [])
unfolding bytes
letter_fits b x long h = record { fits = omega arith; bytes = rw (lt-ltb x 256 h) }

-- n 4, t 1, the message 41: all four boards keep the rules
pub message_41 : Met small (blank small) (known 4) (0x41 ∷ []) (some (0x41 ∷ []))
message_41 = message_run small small_limits (0x41 ∷ []) (letter_fits small 0x41 (omega arith) (omega arith)) 4 (omega arith) (omega arith)

-- the sender's records are handed over twice
pub repeated_41 : Repeated small (0x41 ∷ [])
repeated_41 = repeated_run small small_limits (0x41 ∷ []) (letter_fits small 0x41 (omega arith) (omega arith))

-- board 4 breaks the rules, by a send of 42 and by a record that cannot be read
pub three_run : Forged small (known 3) (0x41 ∷ []) (0x42 ∷ []) 4 4
three_run = forged_run small small_limits (0x41 ∷ []) (letter_fits small 0x41 (omega arith) (omega arith))
    (0x42 ∷ []) (letter_fits small 0x42 (omega arith) (omega arith)) 3 (omega arith) (omega arith) (omega arith)
    (λ k. 4) (λ k c. (record { low = omega arith; high = omega arith }, omega arith))

-- the demo's line, n 7, t 2: boards 6 and 7 break the rules, the one by a send of 42, the other by a record that cannot be read
abbrev pub seven : Table
seven = record { n = 7; t = 2; sender = 1; longest = 16 }

seven_limits : limits seven ≡ true
unfolding limits
seven_limits = refl

pub seven_run : Forged seven (known 5) (0x41 ∷ []) (0x42 ∷ []) 6 7
seven_run = forged_run seven seven_limits (0x41 ∷ []) (letter_fits seven 0x41 (omega arith) (omega arith))
    (0x42 ∷ []) (letter_fits seven 0x42 (omega arith) (omega arith)) 5 (omega arith) (omega arith) (omega arith)
    (λ k. 5 + k) (λ k c. (record { low = omega arith; high = omega arith }, omega arith))

-- ---- the sender lies

-- all but the sender
abbrev pub others : ℕ → Bool
others i = leb 2 i && leb i 4

others_known : (i : ℕ) → T (others i) → Board 4 i
others_known i h = let two = leb→le 2 i (left (leb 2 i) _ h) in record { low = omega arith; high = leb→le i 4 (right (leb 2 i) _ h) }

others_keep : Keepers 4 1 others
unfolding count
others_keep = record { third = omega arith; known = others_known; few = omega arith }

lied_run : (g : ℕ → List ℕ) → Correct (line_of small) (root_of 4 g) (piece_of g) (paths_of g) → result_of_all g ≡ none → Met small (blank small) others [] none
unfolding bytes
lied_run g G void = met small small_limits G nothing (nothing_refused small small_limits G) 4 (omega arith) (omega arith) [] none void
    others others_keep others_known (record { fits = omega arith; bytes = refl }) (λ j c ks. absurd ks) (λ k j c r. absurd (omega arith))
    (λ i j ρ ki s. absurd (subst (λ a. T (others a)) s.sender ki))

-- its fragments are of no message, and the others all deliver void
pub void_run : Met small (blank small) others [] none
void_run = lied_run lone lone_correct lone_void

-- its fragments give back a message, but not under the root that it sent: the root of the fresh encoding differs
pub other_root_run : Met small (blank small) others [] none
other_root_run = lied_run lies lies_correct lies_void
