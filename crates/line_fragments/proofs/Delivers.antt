-- A message that the boards 1 to h spread, whatever hash, tree and code are, is delivered; and records that a board refuses.
use Prim.Native.Nat.{ℕ, ◌-◌, ◌≤◌}
use native.Mathlib.Omega.{arith}
use mathlib.Core.Bool.{true}
use mathlib.Core.Path.{◌≡◌, ◌∙◌, ap}
use mathlib.Core.Option.{some, none}
use borrow.Author.Tests.{ne_eqb}
use Rattle.octets.specs.Bytes.{pick}
use Rattle.octets.proofs.Picks.{is_true}
use Rattle.line.specs.Boards.{known}
use Rattle.line.specs.Run.{hand}
use Rattle.line.specs.Core.{Word}
use Rattle.line.proofs.Tests.{pick_true}
use Rattle.line.proofs.Counts.{count_known}
use Rattle.line_fragments.specs.Code.{Code}
use Rattle.line_fragments.specs.Step.{send, Line, BoardState, refuse, act_on, act}
use Rattle.line_fragments.specs.Laws.{CodeLaws, MailLaws}
use Rattle.line.proofs.Firsts.{up_to, and_false}
use Rattle.line_fragments.proofs.Spreads.{Correct}

-- ---- a message

module _ {n t : ℕ} {C : Code} {B : Line n t C} (L : CodeLaws n t C) (Z : MailLaws B) (m : C.Msg) (fits : C.Fits m) where
  pub encoded : Correct B (C.root m) (C.piece m) (C.path m)
  encoded = record {
    check = λ i b. is_true (C.check (C.root m) i (C.piece m i) (C.path m i)) (L.path_good m i fits b);
    short = λ i b. is_true (B.short (C.piece m i)) (Z.piece_short m i fits b);
    read = λ i b. Z.send_back m i fits b;
  }

  pub message_back : (f₀ : ℕ → C.Frag) (h : ℕ) → n - t ≤ h → h ≤ n → C.result (C.root m) (known h) (up_to h (C.piece m) f₀) ≡ some m
  message_back f₀ h few most = L.result_back m (known h) (up_to h (C.piece m) f₀) fits (omega (arith, count_known h n))
      (λ i b u. pick_true (known h i) (C.piece m i) (f₀ i) u)

-- ---- records that a board refuses

module _ {n t : ℕ} {C : Code} (B : Line n t C) (s : BoardState B) (i : ℕ) (b : B.Bytes) where
  -- what cannot be read
  pub unreadable : B.read b ≡ none → act B s (hand i b) ≡ refuse
  unreadable e = ap (act_on B s i) e

  module _ (r : C.Root) (π : C.Path) (f : C.Frag) (e : B.read b ≡ some (send r π f)) where
    -- a send of a board that is not the sender
    pub forged : (i ≡ B.S → ⊥) → act B s (hand i b) ≡ refuse
    unfolding pick
    forged ne = ap (act_on B s i) e ∙ rw (ne_eqb i B.S ne, and_false (known n i))

    -- a second send
    pub second : s.core.spoke Word.echo ≡ true → act B s (hand i b) ≡ refuse
    unfolding pick
    second had = ap (act_on B s i) e ∙ simp (had, and_false)
