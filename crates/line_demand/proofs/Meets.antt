-- What it is to meet the premises of demand 3, and how correct fragments, spread by the script of line/proofs/Scripts, give a run of the boards
-- that C calls which does.
use Prim.Native.Nat.{ℕ, ◌-◌, ◌≤◌, min}
use native.Mathlib.Omega.{arith}
use mathlib.Core.Bool.{Bool, true}
use mathlib.Core.Path.{◌≡◌, refl, ◌∙◌}
use mathlib.Core.Logic.{inl, inr}
use mathlib.Core.List.{List, []}
use mathlib.Core.Option.{Option, some}
use lib.Dec.{T}
use lib.ListN.{replicate, length-replicate}
use Rattle.record.specs.Form.{out_bytes}
use Rattle.table.specs.Table.{limits}
use Rattle.table.specs.declared.Table.{Table}
use Rattle.state.specs.State.{state_size, marks_of}
use Rattle.line.specs.Boards.{Board, known, Keepers}
use Rattle.line.specs.Run.{Machine, hand, Run, state, Took, Delivered, Fair, Over}
use Rattle.line.proofs.Counts.{known_is, first_keep}
use Rattle.line.proofs.Rounds.{Later, Within, later_both, took_later, within_before}
use Rattle.line.proofs.Firsts.{up_to}
use Rattle.line.proofs.Scripts.{Strays, Script, voted, voted_within, took_mail, took_why, Plays, stray_moment, put_only}
use Rattle.line.proofs.Scripts.{script_fair, script_over, script_delivers}
use Rattle.line_fragments.specs.Step.{echo, vote, mail}
use Rattle.line_fragments.proofs.Spreads.{Correct, script_of, state_at, not_said, Refused, plays}
use Rattle.line_fragments.proofs.Delivers.{encoded, message_back}
use Rattle.line_code.specs.Parts.{Sendable, code_of, line_of, read_record}
use Rattle.line_code.proofs.Codes.{code_laws}
use Rattle.line_code.proofs.Lines.{line_laws}
use Rattle.line_code.proofs.Mails.{mail_laws}
use Rattle.line_desk.proofs.Copied.{copied, copied_later, took_copied, took_only, delivered_copied, copied_held, fair_copied, over_copied, genuine_copied}
use Rattle.line_desk.specs.Desk.{Desk, Roomy}
use Rattle.line_demand.specs.Boards.{fragment_kind, Sends, boards}
use Rattle.line_demand.proofs.Shown.{shown_of}
use Rattle.line_demand.proofs.Started.{broadcast}
use Rattle.line_demand.proofs.Reached.{started}
use Rattle.line_demand.proofs.Demand.{to_mail, of_mail}
use Rattle.line_demand.proofs.Carry.{paper, begins, follows}
use Rattle.line_demand.proofs.Refusals.{RefusedWith, Refuses}

-- A run that meets every premise of demand 3, and in which each rule-keeping board delivers d; m is the sender's message, if it keeps the rules.
pub record Met (b : Table) (lent : ℕ → Desk) (keeps : ℕ → Bool) (m : List ℕ) (d : Option (List ℕ)) : Type 0 where
  pub limited : limits b ≡ true
  pub sendable : Sendable b m
  pub keepers : Keepers b.n b.t keeps
  pub roomy : (j : ℕ) → T (keeps j) → Roomy (fragment_kind b) (lent j)
  pub run : Run (boards b lent)
  pub fair : Fair (boards b lent) keeps (Sends b m) run
  pub over : Over (boards b lent) keeps (Sends b m) run
  pub delivered : (j : ℕ) → T (keeps j) → Delivered (boards b lent) j d run

-- ---- runs by a script

-- buffers that are long enough
abbrev pub blank : Table → ℕ → Desk
blank b j = record { state = replicate (state_size b) 0; out = replicate out_bytes 0; delivery = replicate b.longest 0 }

pub blank_roomy : (b : Table) (j : ℕ) → Roomy (fragment_kind b) (blank b j)
blank_roomy b j = record {
  state = omega (arith, length-replicate {A = ℕ} (state_size b) 0);
  out = omega (arith, length-replicate {A = ℕ} out_bytes 0);
  delivery = omega (arith, length-replicate {A = ℕ} b.longest 0);
}

-- the boards 1 to h spread correct fragments, after the records of X
abbrev pub run_of : (b : Table) → List ℕ → (ℕ → List ℕ) → (ℕ → List ℕ) → Strays (List ℕ) → ℕ → Run (boards b (blank b))
run_of b v f π X h = copied (fragment_kind b) (paper b) (blank b) (voted (broadcast b) b.n (script_of (line_of b) v f π X h))

module _ (b : Table) (limited : limits b ≡ true) where
  -- the records of X are refused by every board that has taken a correct send
  abbrev pub RefusedBy : {v : List ℕ} {f π : ℕ → List ℕ} → Correct (line_of b) v f π → Strays (List ℕ) → Type 0
  RefusedBy G X = Refused (line_laws b limited) (λ i. []) (λ i. []) G X

  module _ {v : List ℕ} {f π : ℕ → List ℕ} (G : Correct (line_of b) v f π) (X : Strays (List ℕ)) (refused : RefusedBy G X)
      (h : ℕ) (few : b.n - b.t ≤ h) (most : h ≤ b.n) (m : List ℕ) where
    abbrev M : Machine
    M = broadcast b

    abbrev P : Script (List ℕ)
    P = script_of (line_of b) v f π X h

    -- what the boards do in the broadcast's run, from which they deliver d
    abbrev does : (d : Option (List ℕ)) → (code_of b).result v (known h) (up_to h f (λ i. [])) ≡ d
        → Plays M b.n P (b.n - b.t - 1) (λ j i. state_at (line_laws b limited) (λ i. []) (λ i. []) G j i 0)
        (λ j i. state_at (line_laws b limited) (λ i. []) (λ i. []) G j h (min i (b.n - b.t))) d
    does = plays (line_laws b limited) (λ i. []) (λ i. []) G X refused h few most

    -- the records of the sender and those of X are its own, where a board that keeps the rules hands them out
    unfoldable pub met : (d : Option (List ℕ)) → (code_of b).result v (known h) (up_to h f (λ i. [])) ≡ d
        → (keeps : ℕ → Bool) → Keepers b.n b.t keeps → ((i : ℕ) → T (keeps i) → Board h i) → Sendable b m
        → ((j : ℕ) → Board b.n j → T (keeps b.sender) → Sends b m b.sender j (P.mail j))
        → ((k j : ℕ) → Board X.rounds k → Board b.n j → T (keeps (X.from k)) → Sends b m (X.from k) j (X.stray k j))
        → ((i j : ℕ) (ρ : List ℕ) → T (keeps i) → Sends b m i j ρ → (i ≡ b.sender) × (ρ ≡ P.mail j)) → Met b (blank b) keeps m d
    met d is keeps K speak fits sends strays only =
        let q = voted M b.n P in
        let w = voted_within M b.n P in
        record {
          limited = limited;
          sendable = fits;
          keepers = K;
          roomy = λ j kj. blank_roomy b j;
          run = run_of b v f π X h;
          fair = fair_copied (fragment_kind b) (paper b) (blank b) (follows b) (blank_roomy b) b.n (begins b limited) keeps (Sends b m) q w (script_fair M b.n P (does d is) keeps (Sends b m) sends strays);
          over = over_copied (fragment_kind b) (paper b) (blank b) (follows b) (blank_roomy b) b.n (begins b limited) keeps (Sends b m) q w (script_over M b.n P (does d is) keeps (Sends b m) speak only);
          delivered = λ j kj. delivered_copied (fragment_kind b) (paper b) (blank b) (follows b) (blank_roomy b) b.n (begins b limited) q w j d (script_delivers M b.n P (does d is) j (K.known j kj));
        }

    -- a board that hands out a record of X that is neither its echo nor its vote, and is not the sender, breaks the rules
    pub breaks : (keeps : ℕ → Bool) → Fair (boards b (blank b)) keeps (Sends b m) (run_of b v f π X h)
        → (k j : ℕ) → Board X.rounds k → Board b.n j → T (keeps j) → Board b.n (X.from k) → (X.from k ≡ b.sender → ⊥)
        → (read_record (X.stray k j) ≡ some (echo v (π (X.from k)) (f (X.from k))) → ⊥) → (read_record (X.stray k j) ≡ some (vote v) → ⊥)
        → T (keeps (X.from k)) → ⊥
    breaks keeps fair k j c bj kj bi ne no_echo no_vote ki =
        let given = does ((code_of b).result v (known h) (up_to h f (λ i. []))) refl in
        let (r, since, then, at) = stray_moment M b.n P given k j c bj in
        elim (genuine_copied (fragment_kind b) (paper b) (blank b) (follows b) (blank_roomy b) b.n (begins b limited) keeps (Sends b m) (voted M b.n P) (voted_within M b.n P) fair
        (X.from k) j (X.stray k j) (took_later M then Took.now) ki kj) [
          | inl p ↦ not_said (line_laws b limited) (λ i. []) (λ i. []) G (X.from k) bi (X.stray k j) no_echo no_vote
              (put_only M b.n P given (X.from k) j (X.stray k j) bi p)
          | inr s ↦ ne s.sender
        ]

    -- of a board that is not the sender and does not speak, only records of X are handed over
    pub strays_only : (a j : ℕ) (x : List ℕ) → (a ≡ b.sender → ⊥) → (Board h a → ⊥) → Took (boards b (blank b)) j (hand a x) (run_of b v f π X h)
        → (k : ℕ) × Board X.rounds k × (a ≡ X.from k) × (x ≡ X.stray k j)
    strays_only a j x other mute t = took_why M b.n P j a x other mute (took_only (fragment_kind b) (paper b) (blank b) (voted M b.n P) j a x t)

    -- a board's bytes hold its state in the broadcast's run
    shown_copied : (q : Run M) → Within M b.n q → (j : ℕ) (d : Desk) → state (boards b (blank b)) (copied (fragment_kind b) (paper b) (blank b) q) j ≡ some d
        → shown_of b j (marks_of d.state) d.state ≡ state M q j
    unfolding follows
    shown_copied q w j d here = (copied_held (fragment_kind b) (paper b) (blank b) (follows b) (blank_roomy b) b.n (begins b limited) q w j d here).shown.shows

    -- the records of X are refused with a number that follows from what the board holds, after it took the sender's record
    pub refuses : (k j q : ℕ) → Board X.rounds k → Board b.n j
        → ((r : Run (boards b (blank b))) (d : Desk) → state (boards b (blank b)) r j ≡ some d
        → shown_of b j (marks_of d.state) d.state ≡ state_at (line_laws b limited) (λ i. []) (λ i. []) G j 0 0 → RefusedWith q d (X.from k) (X.stray k j))
        → (x : Refuses b (blank b) (run_of b v f π X h) j (X.from k) (X.stray k j) q) × Took (boards b (blank b)) j (hand b.sender (P.mail j)) x.before
    unfolding copied
    refuses k j q c bj says =
        let (r, since, then, at) = stray_moment M b.n P (does ((code_of b).result v (known h) (up_to h f (λ i. []))) refl) k j c bj in
        let within = within_before M b.n (later_both M (Later.more Later.same) then) (voted_within M b.n P) in
        let (d, here) = started b limited (blank b) (λ l. true) (λ l kl. blank_roomy b l) j tt bj (copied (fragment_kind b) (paper b) (blank b) r) in (
          record {
            before = copied (fragment_kind b) (paper b) (blank b) r;
            onward = copied_later (fragment_kind b) (paper b) (blank b) then;
            desk = d;
            here = here;
            refusal = says (copied (fragment_kind b) (paper b) (blank b) r) d here (shown_copied r within j d here ∙ at);
          },
          took_copied (fragment_kind b) (paper b) (blank b) (took_later M since (took_mail M b.n P j bj)),
        )

  -- the sender keeps the rules, and its message is delivered by the boards 1 to h
  module _ (m : List ℕ) (fits : Sendable b m) where
    pub sendings : Correct (line_of b) ((code_of b).root m) ((code_of b).piece m) ((code_of b).path m)
    sendings = encoded (code_laws b limited) (mail_laws b limited) m fits

    unfoldable pub kept_run : (X : Strays (List ℕ)) → RefusedBy sendings X → (h : ℕ) → b.n - b.t ≤ h → h ≤ b.n
        → ((k j : ℕ) → Board X.rounds k → Board b.n j → T (known h (X.from k)) → Sends b m (X.from k) j (X.stray k j))
        → Met b (blank b) (known h) m (some m)
    kept_run X refused h few most strays =
        met sendings X refused h few most m (some m) (message_back (code_laws b limited) (mail_laws b limited) m fits (λ i. []) h few most)
        (known h) (first_keep b.n b.t h (line_laws b limited).third few most) (λ i k. known_is k) fits
        (λ j c ks. of_mail b limited m fits b.sender j (mail (line_of b) m j) (refl, c, refl)) strays
        (λ i j ρ ki s. let (e, c, q) = to_mail b limited m fits i j ρ s in (e, q))
