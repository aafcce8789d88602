-- What the items of a mailbox put into one buffer: at most one of them does, so it stands there at the end.
use Prim.Native.Nat.{ℕ, ◌+◌}
use mathlib.Core.Bool.{Bool, true, false}
use mathlib.Core.Path.{◌≡◌, refl, sym, ◌∙◌}
use mathlib.Core.Logic.{◌⊎◌, inl, inr}
use mathlib.Core.List.{List, [], ◌∷◌}
use mathlib.Core.Option.{Option}
use Rattle.octets.proofs.Picks.{never}
use Rattle.state.specs.State.{marks_of}
use Rattle.state.specs.declared.Marks.{Marks}
use Rattle.board_step.specs.Step.{Outcome, step_of}
use Rattle.mailbox.specs.Items.{Item}
use Rattle.board_mailbox.specs.Emptied.{Emptied, step_for, filed, handed, handed_all}
use Rattle.board_mailbox.proofs.OneOfEach.{OnlyOnce}
use Rattle.board_mailbox.proofs.Walk.{OpenFor, handed_open}

-- does: whether a step puts something into the buffer, says: what; holding: what stands there
pub record Slot {R : Type 0} (flag : Marks → Bool) (does : Outcome → Bool) (says : Outcome → Option R) (holding : Emptied → Option R) : Type 0 where
  pub once : (s : List ℕ) (from : ℕ) (r o d : List ℕ) → OnlyOnce flag does s (step_of s from r o d)
  pub hit : (i : ℕ) (item : Item) (x : Emptied) → OpenFor x → does (step_for item x) ≡ true → holding (handed i item x) ≡ says (step_for item x)
  pub miss : (i : ℕ) (item : Item) (x : Emptied) → OpenFor x → does (step_for item x) ≡ false → holding (handed i item x) ≡ holding x

-- one of the items, from item i on, puts o there
abbrev pub DoesIn : {R : Type 0} → (Outcome → Bool) → (Outcome → Option R) → ℕ → List Item → Emptied → Option R → Type 0
DoesIn does says i [] x o = ⊥
DoesIn does says i (item ∷ rest) x o = ((does (step_for item x) ≡ true) × (says (step_for item x) ≡ o)) ⊎ DoesIn does says (i + 1) rest (handed i item x) o

module _ {R : Type 0} {flag : Marks → Bool} {does : Outcome → Bool} {says : Outcome → Option R} {holding : Emptied → Option R} (A : Slot flag does says holding) where
  once_for : (item : Item) (x : Emptied) → OnlyOnce flag does x.state (step_for item x)
  once_for item x = A.once x.state item.board item.bytes x.echo x.delivery

  left_by : (i : ℕ) (item : Item) (x : Emptied) → flag (marks_of (step_for item x).state) ≡ true → flag (marks_of (handed i item x).state) ≡ true
  unfolding handed filed
  left_by i item x e = e

  not_again : (c : Bool) (item : Item) (x : Emptied) → does (step_for item x) ≡ c → flag (marks_of x.state) ≡ true → c ≡ false
  not_again true item x e h = never (sym ((once_for item x).first e) ∙ h)
  not_again false item x e h = refl

  -- with the flag up nothing more is put there
  quiet : (i : ℕ) (items : List Item) (x : Emptied) → OpenFor x → flag (marks_of x.state) ≡ true → holding (handed_all i items x) ≡ holding x
  unfolding handed_all
  quiet i [] x h f = refl
  quiet i (item ∷ rest) x h f =
      quiet (i + 1) rest (handed i item x) (handed_open i item x h) (left_by i item x ((once_for item x).keeps f))
      ∙ A.miss i item x h (not_again (does (step_for item x)) item x refl f)

  pub stands : (i : ℕ) (items : List Item) (x : Emptied) → OpenFor x → (o : Option R) → DoesIn does says i items x o → holding (handed_all i items x) ≡ o
  unfolding handed_all
  stands i [] x h o n = absurd n
  stands i (item ∷ rest) x h o (inl (e, s)) =
      quiet (i + 1) rest (handed i item x) (handed_open i item x h) (left_by i item x ((once_for item x).sets e)) ∙ A.hit i item x h e ∙ s
  stands i (item ∷ rest) x h o (inr p) = stands (i + 1) rest (handed i item x) (handed_open i item x h) o p

  -- what stands there at the end was put there by an item, or stood there before
  pub stands_why : (i : ℕ) (items : List Item) (x : Emptied) → OpenFor x → (holding (handed_all i items x) ≡ holding x) ⊎ DoesIn does says i items x (holding (handed_all i items x))
  unfolding handed_all
  stands_why i [] x h = inl refl
  stands_why i (item ∷ rest) x h = go (stands_why (i + 1) rest (handed i item x) (handed_open i item x h)) (does (step_for item x)) refl
    where
      last : Option R
      last = holding (handed_all (i + 1) rest (handed i item x))

      go : (last ≡ holding (handed i item x)) ⊎ DoesIn does says (i + 1) rest (handed i item x) last → (c : Bool) → does (step_for item x) ≡ c
          → (last ≡ holding x) ⊎ DoesIn does says i (item ∷ rest) x last
      go later true e = inr (inl (e, sym (stands i (item ∷ rest) x h (says (step_for item x)) (inl (e, refl)))))
      go later false e = elim later [ inl q ↦ inl (q ∙ A.miss i item x h e) | inr p ↦ inr (inr p) ]
