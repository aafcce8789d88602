-- Boards of plain values on paper: a run that delivers, the first error that document 01 warns of, and runs that lack a premise.
use Prim.Native.Nat.{ℕ}
use native.Mathlib.Omega.{arith}
use mathlib.Core.Bool.{Bool, true, false}
use mathlib.Core.Path.{◌≡◌, refl, subst}
use mathlib.Core.Logic.{inl, inr}
use mathlib.Core.Option.{some}
use lib.Dec.{T, eqb}
use Rattle.octets.specs.Bytes.{pick}
use Rattle.line.specs.Boards.{count, known}
use Rattle.line.specs.Run.{Machine, In, hand, Run, fresh, after, state, Took, Put, Delivered, Genuine, Fair, Over}
use Rattle.line.specs.Promise.{Mail}
use Rattle.line.specs.Core.{echo, vote, named_by, due_by}
use Rattle.line.specs.Plain.{simple}
use Rattle.line.specs.Notice.{Note, send, say, Form, notice}

-- values are numbers, and a record is what it says; S is board 1
abbrev form : (n : ℕ) → Form n ℕ
form n = record { S = 1; Bytes = Note ℕ; read = λ b. some b; write = λ b. b }

abbrev boards : ℕ → ℕ → Machine
boards n t = simple n t eqb (notice (form n)) (λ i. 0)

-- the run of document 01's drill: n 1, t 0, and the board's own send, echo and vote
drill : Delivered (boards 1 0) 1 65 (after (after (after fresh 1 (hand 1 (send 65))) 1 (hand 1 (say echo 65))) 1 (hand 1 (say vote 65)))
unfolding state pick count due_by
drill = Delivered.now refl

-- board 2 votes for 7, and again, and for 8
abbrev repeated : Run (boards 4 1)
repeated = after (after (after fresh 1 (hand 2 (say vote 7))) 1 (hand 2 (say vote 7))) 1 (hand 2 (say vote 8))

-- document 01: "Counting records instead of boards: one board repeating its vote makes a quorum." It brings no vote,
repeated_vote : (state (boards 4 1) repeated 1).core.spoke vote ≡ false
unfolding state pick count due_by
repeated_vote = refl

-- and only the first is kept
first_vote : named_by eqb (state (boards 4 1) repeated 1).core vote 7 2 ≡ true
unfolding state pick count due_by
first_vote = refl

-- ---- the premises are needed: n 4, t 1, all four boards keep the rules, and board 1 is to send 7

abbrev keeps : ℕ → Bool
keeps i = known 4 i

abbrev Sent : ℕ → ℕ → Note ℕ → Type 0
Sent = Mail 4 1 (λ j. send 7)

-- votes that nobody put out: three for 7 are handed to board 1, and three for 8 to board 2
abbrev forged : Run (boards 4 1)
forged =
    after (after (after (after (after (after fresh 1 (hand 2 (say vote 7))) 1 (hand 3 (say vote 7))) 1 (hand 4 (say vote 7)))
    2 (hand 1 (say vote 8))) 2 (hand 3 (say vote 8))) 2 (hand 4 (say vote 8))

-- the two boards deliver different values,
forged_split : Delivered (boards 4 1) 1 7 forged × Delivered (boards 4 1) 2 8 forged
unfolding state pick count due_by
forged_split = (Delivered.then (Delivered.then (Delivered.then (Delivered.now refl))), Delivered.now refl)

not_put_out : Genuine (boards 4 1) Sent fresh 2 1 (say vote 7) → ⊥
not_put_out (inl p) = elim p [ ]
not_put_out (inr (e, b, q)) = omega arith

-- but no such run is fair: already its first record is not genuine
forged_unfair : Fair (boards 4 1) keeps Sent forged → ⊥
forged_unfair (Fair.went (Fair.went (Fair.went (Fair.went (Fair.went (Fair.went f first) g₂) g₃) g₄) g₅) g₆) = not_put_out (first 2 (say vote 7) refl tt tt)

-- board 1 is handed its own send and its own echo, and nobody else anything
abbrev alone : Run (boards 4 1)
alone = after (after fresh 1 (hand 1 (send 7))) 1 (hand 1 (say echo 7))

-- this is fair, and the sender keeps the rules, but board 2 delivers nothing,
alone_fair : Fair (boards 4 1) keeps Sent alone
unfolding state pick
alone_fair = Fair.went (Fair.went Fair.begun sends) echoes
  where
    sends : (i : ℕ) (ρ : Note ℕ) → ◌≡◌ {A = In (boards 4 1)} (hand 1 (send 7)) (hand i ρ) → T (keeps i) → T (keeps 1) → Genuine (boards 4 1) Sent fresh i 1 ρ
    sends i ρ e ki kj = let ei : i ≡ 1 = cc in let q : ρ ≡ send 7 = cc in inr (ei, record { low = omega arith; high = omega arith }, q)

    echoes : (i : ℕ) (ρ : Note ℕ) → ◌≡◌ {A = In (boards 4 1)} (hand 1 (say echo 7)) (hand i ρ) → T (keeps i) → T (keeps 1)
        → Genuine (boards 4 1) Sent (after fresh 1 (hand 1 (send 7))) i 1 ρ
    echoes i ρ e ki kj =
        let ei : 1 ≡ i = cc in
        let q : say echo 7 ≡ ρ = cc in
        inl (subst (λ a. Put (boards 4 1) a 1 ρ (after fresh 1 (hand 1 (send 7)))) ei (subst (λ x. Put (boards 4 1) 1 1 x (after fresh 1 (hand 1 (send 7)))) q (Put.now refl)))

alone_undelivered : (d : ℕ) → Delivered (boards 4 1) 2 d alone → ⊥
alone_undelivered d (Delivered.then (Delivered.then p)) = elim p [ ]

-- as the sender's record was not handed over to it
alone_not_over : Over (boards 4 1) keeps Sent alone → ⊥
unfolding Over
alone_not_over over = not_taken (over 1 2 (send 7) tt tt (inr (refl, record { low = omega arith; high = omega arith }, refl)))
  where
    not_taken : Took (boards 4 1) 2 (hand 1 (send 7)) alone → ⊥
    not_taken (Took.then (Took.then p)) = elim p [ ]
