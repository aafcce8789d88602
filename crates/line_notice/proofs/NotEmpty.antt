-- Demand 3 for notices says something: runs that meet every premise of it, with what is delivered in them.
use Prim.Native.Nat.{ℕ, ◌-◌, ◌≤◌, ◌<◌}
use native.Mathlib.Omega.{arith}
use mathlib.Core.Bool.{Bool, true, false, ◌&&◌}
use mathlib.Core.Path.{◌≡◌, refl, subst}
use mathlib.Core.List.{List, [], ◌∷◌}
use borrow.Author.Tests.{lt-ltb, le-leb}
use lib.Dec.{T, leb, leb→le}
use lib.ListN.{replicate, length-replicate}
use Rattle.octets.specs.Bytes.{pick}
use Rattle.table.specs.Table.{limits}
use Rattle.table.specs.declared.Table.{Table}
use Rattle.notice.specs.Form.{notice_most, notice_out_bytes}
use Rattle.notice.specs.State.{notice_state_bytes}
use Rattle.line.specs.Boards.{count, Board, known, Keepers}
use Rattle.line.specs.Run.{Machine, Run, Delivered, Fair, Over}
use Rattle.line.specs.Notice.{send}
use Rattle.line.proofs.Counts.{known_is, first_keep}
use Rattle.line.proofs.Tests.{left, right}
use Rattle.line.proofs.Scripts.{Strays, Script, voted, voted_within, script_fair, script_over, script_delivers}
use Rattle.line.proofs.Spoken.{script_for, spoken_plays}
use Rattle.line.specs.Bytes.{bytes}
use Rattle.line_desk.specs.Desk.{Desk, Roomy}
use Rattle.line_desk.proofs.Copied.{copied, delivered_copied, fair_copied, over_copied}
use Rattle.line_notice.specs.Boards.{notice_kind, notice_boards, Noticeable, NoticeSends}
use Rattle.line_notice.proofs.Notes.{write_note, form_of, form_laws, note_back}
use Rattle.line_notice.proofs.Shown.{broadcast}
use Rattle.line_notice.proofs.Carry.{paper, begins, follows}
use Rattle.line_notice.proofs.Demand.{to_mail, of_mail}

-- A run that meets every premise of demand 3 for notices, in which every record is handed over and each rule-keeping board delivers d; v is the
-- sender's notice, if it keeps the rules.
pub record Met (b : Table) (lent : ℕ → Desk) (keeps : ℕ → Bool) (v d : List ℕ) : Type 0 where
  pub limited : limits b ≡ true
  pub noticeable : Noticeable v
  pub keepers : Keepers b.n b.t keeps
  pub roomy : (j : ℕ) → T (keeps j) → Roomy (notice_kind b) (lent j)
  pub run : Run (notice_boards b lent)
  pub fair : Fair (notice_boards b lent) keeps (NoticeSends b v) run
  pub over : Over (notice_boards b lent) keeps (NoticeSends b v) run
  pub delivered : (j : ℕ) → T (keeps j) → Delivered (notice_boards b lent) j d run

-- buffers that are long enough
abbrev pub blank : ℕ → Desk
blank j = record { state = replicate notice_state_bytes 0; out = replicate notice_out_bytes 0; delivery = replicate notice_most 0 }

pub blank_roomy : (b : Table) (j : ℕ) → Roomy (notice_kind b) (blank j)
blank_roomy b j = record {
  state = omega (arith, length-replicate {A = ℕ} notice_state_bytes 0);
  out = omega (arith, length-replicate {A = ℕ} notice_out_bytes 0);
  delivery = omega (arith, length-replicate {A = ℕ} notice_most 0);
}

-- ---- runs by a script

-- no other records
abbrev nothing : Strays (List ℕ)
nothing = record { rounds = 0; from = λ k. 0; stray = λ k j. [] }

-- board j is sent u j, the first n - t boards d; the boards 1 to h speak
module _ (b : Table) (limited : limits b ≡ true) (u : ℕ → List ℕ) (d : List ℕ) (fits : (j : ℕ) → Noticeable (u j))
    (first : (j : ℕ) → j ≤ b.n - b.t → u j ≡ d) (h : ℕ) (few : b.n - b.t ≤ h) (most : h ≤ b.n) where
  abbrev M : Machine
  M = broadcast b

  abbrev P : Script (List ℕ)
  P = script_for (form_of b) u d nothing h

  pub met : (v : List ℕ) (keeps : ℕ → Bool) → Keepers b.n b.t keeps → ((i : ℕ) → T (keeps i) → Board h i) → Noticeable v
      → ((j : ℕ) → Board b.n j → T (keeps b.sender) → NoticeSends b v b.sender j (P.mail j))
      → ((i j : ℕ) (ρ : List ℕ) → T (keeps i) → NoticeSends b v i j ρ → (i ≡ b.sender) × (ρ ≡ P.mail j)) → Met b blank keeps v d
  met v keeps K speak can sends only =
      let q = voted M b.n P in
      let w = voted_within M b.n P in
      let does = spoken_plays (form_laws b limited) (λ i. []) u d (λ j. note_back (send (u j)) (fits j)) first h few most nothing (λ j k c r. absurd (omega arith)) in
      record {
        limited = limited;
        noticeable = can;
        keepers = K;
        roomy = λ j kj. blank_roomy b j;
        run = copied (notice_kind b) (paper b) blank q;
        fair = fair_copied (notice_kind b) (paper b) blank (follows b) (blank_roomy b) b.n (begins b limited) keeps (NoticeSends b v) q w
            (script_fair M b.n P does keeps (NoticeSends b v) sends (λ k j c r. absurd (omega arith)));
        over = over_copied (notice_kind b) (paper b) blank (follows b) (blank_roomy b) b.n (begins b limited) keeps (NoticeSends b v) q w
            (script_over M b.n P does keeps (NoticeSends b v) speak only);
        delivered = λ j kj. delivered_copied (notice_kind b) (paper b) blank (follows b) (blank_roomy b) b.n (begins b limited) q w j d
            (script_delivers M b.n P does j (K.known j kj));
      }

-- ---- the sender keeps the rules, in any table

-- the boards 1 to h, if these are n - t or more, may be those that keep the rules, and every notice may be delivered
pub notice_run : (b : Table) → limits b ≡ true → (v : List ℕ) → Noticeable v → (h : ℕ) → b.n - b.t ≤ h → h ≤ b.n → Met b blank (known h) v v
notice_run b limited v fits h few most =
    met b limited (λ j. v) v (λ j. fits) (λ j l. refl) h few most v (known h) (first_keep b.n b.t h (form_laws b limited).third few most)
    (λ i k. known_is k) fits (λ j c ks. of_mail b limited v fits b.sender j (write_note (send v)) (refl, c, refl))
    (λ i j ρ ki s. (let (e, bd, q) = to_mail b limited v fits i j ρ s in (e, q)))

-- ---- closed runs

-- n 4, t 1
abbrev pub small : Table
small = record { n = 4; t = 1; sender = 1; longest = 0 }

small_limits : limits small ≡ true
unfolding limits
small_limits = refl

letter_fits : (x : ℕ) → x < 256 → Noticeable (x ∷ [])
unfolding bytes
letter_fits x h = record { fits = omega arith; bytes = rw (lt-ltb x 256 h) }

-- the notice 41, and the empty one: all four boards keep the rules and deliver it
pub notice_41 : Met small blank (known 4) (0x41 ∷ []) (0x41 ∷ [])
notice_41 = notice_run small small_limits (0x41 ∷ []) (letter_fits 0x41 (omega arith)) 4 (omega arith) (omega arith)

pub notice_empty : Met small blank (known 4) [] []
unfolding bytes
notice_empty = notice_run small small_limits [] (record { fits = omega arith; bytes = refl }) 4 (omega arith) (omega arith)

-- ---- the sender lies

-- all but the sender
abbrev pub others : ℕ → Bool
others i = leb 2 i && leb i 4

others_known : (i : ℕ) → T (others i) → Board 4 i
others_known i h = let two = leb→le 2 i (left (leb 2 i) _ h) in record { low = omega arith; high = leb→le i 4 (right (leb 2 i) _ h) }

others_keep : Keepers 4 1 others
unfolding count
others_keep = record { third = omega arith; known = others_known; few = omega arith }

-- it sends 41 to the boards 1 to 3, and 42 to board 4
abbrev pub split : ℕ → List ℕ
split j = pick (leb j 3) (0x41 ∷ []) (0x42 ∷ [])

split_fits : (j : ℕ) → Noticeable (split j)
unfolding pick
split_fits j = go (leb j 3)
  where
    go : (c : Bool) → Noticeable (pick c (0x41 ∷ []) (0x42 ∷ []))
    go true = letter_fits 0x41 (omega arith)
    go false = letter_fits 0x42 (omega arith)

split_first : (j : ℕ) → j ≤ 3 → split j ≡ 0x41 ∷ []
unfolding pick
split_first j l = rw (le-leb j 3 l)

-- the others all deliver 41, board 4 too, which echoed 42; 43 is what the sender would send if it kept the rules
pub lied_run : Met small blank others (0x43 ∷ []) (0x41 ∷ [])
lied_run =
    met small small_limits split (0x41 ∷ []) split_fits split_first 4 (omega arith) (omega arith) (0x43 ∷ []) others others_keep others_known
    (letter_fits 0x43 (omega arith)) (λ j c ks. absurd ks) (λ i j ρ ki s. absurd (subst (λ a. T (others a)) s.sender ki))
