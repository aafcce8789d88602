-- The items of a mailbox, handed over singly by the byte line: the board's state and delivery buffer are those of the call's definition, item by
-- item, and so is what each step puts out and delivers.
use Prim.Native.Nat.{ℕ, ◌+◌, ◌≤◌}
use mathlib.Core.Bool.{Bool, true, false}
use mathlib.Core.Path.{◌≡◌, subst, sym, ◌∙◌, ap}
use mathlib.Core.Logic.{◌⊎◌, inl, inr}
use mathlib.Core.List.{List, [], ◌∷◌}
use mathlib.Core.Option.{Option, some}
use lib.Dec.{T}
use lib.ListN.{length}
use Rattle.octets.specs.Bytes.{pick, put}
use Rattle.octets.proofs.Laws.{length_put}
use Rattle.table.specs.Table.{limits}
use Rattle.table.specs.declared.Table.{Table}
use Rattle.record.specs.Form.{out_bytes}
use Rattle.board_step.specs.Step.{Outcome, step_of}
use Rattle.mailbox.specs.Items.{Item}
use Rattle.board_mailbox.specs.Emptied.{Emptied, is_put, put_out_by, step_for, filed, handed, handed_all}
use Rattle.line.specs.Bytes.{bytes, untouched, called, next, puts, gives}
use Rattle.line.specs.Run.{Machine, hand, Run, after, state, Put, Delivered}
use Rattle.line.specs.Project.{project}
use Rattle.line.proofs.Runs.{state_own, last_put, last_given}
use Rattle.line_desk.proofs.Carry.{sees}
use Rattle.line_desk.specs.Desk.{Desk, Roomy, put_in}
use Rattle.line_demand.specs.Boards.{fragment_kind, given_in, fragment_board, boards}
use Rattle.line_demand.proofs.Started.{broadcast}
use Rattle.line_demand.proofs.Carry.{Holds}
use Rattle.line_demand.proofs.Reached.{held}
use Rattle.line_mailbox.specs.Polls.{hand_each}
use Rattle.line_mailbox.proofs.Alike.{Alike, step_alike, given_alike, put_alike}

-- all of these items are strings of bytes
abbrev pub AllBytes : List Item → Type 0
AllBytes [] = Unit {0}
AllBytes (item ∷ rest) = (bytes item.bytes ≡ true) × AllBytes rest

-- one of the items' steps puts ρ out; delivers e
abbrev pub PutIn : ℕ → List Item → Emptied → List ℕ → Type 0
PutIn i [] x ρ = ⊥
PutIn i (item ∷ rest) x ρ = (put_in (step_for item x) ≡ some ρ) ⊎ PutIn (i + 1) rest (handed i item x) ρ

abbrev pub GaveIn : ℕ → List Item → Emptied → Option (List ℕ) → Type 0
GaveIn i [] x e = ⊥
GaveIn i (item ∷ rest) x e = (given_in (step_for item x) ≡ some e) ⊎ GaveIn (i + 1) rest (handed i item x) e

echo_length : (c : Bool) (w e : List ℕ) → out_bytes ≤ length e → out_bytes ≤ length (pick c (put 0 w e) e)
unfolding pick
echo_length true w e h = rw (length_put 0 w e) h
echo_length false w e h = h

-- ---- records handed to one board after the other

module _ (b : Table) (lent : ℕ → Desk) where
  -- what was put out, delivered before stays so
  pub kept_each : (items : List Item) (k : ℕ) {m j : ℕ} {ρ : List ℕ} {r : Run (boards b lent)} → Put (boards b lent) m j ρ r → Put (boards b lent) m j ρ (hand_each b lent r k items)
  unfolding hand_each
  kept_each [] k p = p
  kept_each (item ∷ rest) k p = kept_each rest k (Put.then p)

  pub given_each : (items : List Item) (k : ℕ) {j : ℕ} {d : Option (List ℕ)} {r : Run (boards b lent)} → Delivered (boards b lent) j d r
      → Delivered (boards b lent) j d (hand_each b lent r k items)
  unfolding hand_each
  given_each [] k p = p
  given_each (item ∷ rest) k p = given_each rest k (Delivered.then p)

module _ (b : Table) (limited : limits b ≡ true) (lent : ℕ → Desk) (keeps : ℕ → Bool) (roomy : (j : ℕ) → T (keeps j) → Roomy (fragment_kind b) (lent j)) (k : ℕ) (kk : T (keeps k)) where
  abbrev BB : Machine
  BB = boards b lent

  -- at the end of r board k holds what the call has come to
  pub record Level (r : Run BB) (x : Emptied) : Type 0 where
    pub desk : Desk
    pub here : state BB r k ≡ some desk
    pub state_same : desk.state ≡ x.state
    pub delivery_same : desk.delivery ≡ x.delivery
    pub echo : out_bytes ≤ length x.echo

  module _ (r : Run BB) (x : Emptied) (l : Level r x) (i : ℕ) (item : Item) (is_bytes : bytes item.bytes ≡ true) where
    abbrev d : Desk
    d = l.desk

    -- the step in the run, and the one by the definition
    abbrev in_run : Outcome
    in_run = step_of d.state item.board item.bytes d.out d.delivery

    holds : Holds b k d (state (broadcast b) (project BB (broadcast b) sees r) k)
    holds = held b limited lent keeps roomy r k kk d l.here

    same_step : Alike in_run (step_for item x)
    same_step = step_alike d.state x.state item.board item.bytes d.out x.echo d.delivery x.delivery l.state_same l.delivery_same holds.out l.echo

    put_same : put_in in_run ≡ put_in (step_for item x)
    put_same = put_alike b k d _ holds item.board item.bytes is_bytes x.state x.echo x.delivery l.state_same l.delivery_same l.echo

    abbrev r' : Run BB
    r' = after r k (hand item.board item.bytes)

    next_is : state BB r' k ≡ some (record { state = in_run.state; out = in_run.out; delivery = in_run.delivery })
    unfolding next called pick
    next_is = state_own BB r k (hand item.board item.bytes) ∙ rw (l.here, is_bytes)

    puts_is : (j : ℕ) → BB.puts (state BB r k) (hand item.board item.bytes) j ≡ put_in (step_for item x)
    unfolding puts called pick
    puts_is j =
        ap (λ (o : Option Desk). puts (fragment_board b) o (hand item.board item.bytes) j) l.here
        ∙ ap (λ (c : Bool). (pick c ((fragment_board b).step d item.board item.bytes) (untouched (fragment_board b) d)).put j) is_bytes ∙ put_same

    gives_is : BB.gives (state BB r k) (hand item.board item.bytes) ≡ given_in (step_for item x)
    unfolding gives called pick
    gives_is =
        ap (λ (o : Option Desk). gives (fragment_board b) o (hand item.board item.bytes)) l.here
        ∙ ap (λ (c : Bool). (pick c ((fragment_board b).step d item.board item.bytes) (untouched (fragment_board b) d)).given) is_bytes ∙ given_alike in_run (step_for item x) same_step

    level_on : Level r' (handed i item x)
    unfolding handed filed
    level_on = record {
      desk = record { state = in_run.state; out = in_run.out; delivery = in_run.delivery };
      here = next_is;
      state_same = same_step.state;
      delivery_same = same_step.delivery;
      echo = echo_length (is_put 2 (step_for item x)) (put_out_by (step_for item x)) x.echo l.echo;
    }

  pub level_all : (i : ℕ) (items : List Item) → AllBytes items → (r : Run BB) (x : Emptied) → Level r x → Level (hand_each b lent r k items) (handed_all i items x)
  unfolding hand_each handed_all
  level_all i [] ab r x l = l
  level_all i (item ∷ rest) ab r x l = level_all (i + 1) rest ab.1 (after r k (hand item.board item.bytes)) (handed i item x) (level_on r x l i item ab.0)

  -- ---- what is put out

  pub put_of : (i : ℕ) (items : List Item) → AllBytes items → (r : Run BB) (x : Emptied) → Level r x → (j : ℕ) (ρ : List ℕ)
      → PutIn i items x ρ → Put BB k j ρ (hand_each b lent r k items)
  unfolding hand_each
  put_of i [] ab r x l j ρ n = absurd n
  put_of i (item ∷ rest) ab r x l j ρ (inl e) = kept_each b lent rest k (Put.now (puts_is r x l i item ab.0 j ∙ e))
  put_of i (item ∷ rest) ab r x l j ρ (inr p) =
      put_of (i + 1) rest ab.1 (after r k (hand item.board item.bytes)) (handed i item x) (level_on r x l i item ab.0) j ρ p

  pub put_why : (i : ℕ) (items : List Item) → AllBytes items → (r : Run BB) (x : Emptied) → Level r x → (m j : ℕ) (ρ : List ℕ)
      → Put BB m j ρ (hand_each b lent r k items) → Put BB m j ρ r ⊎ ((k ≡ m) × PutIn i items x ρ)
  unfolding hand_each
  put_why i [] ab r x l m j ρ p = inl p
  put_why i (item ∷ rest) ab r x l m j ρ p =
      elim (put_why (i + 1) rest ab.1 (after r k (hand item.board item.bytes)) (handed i item x) (level_on r x l i item ab.0) m j ρ p) [
        | inr (e, q) ↦ inr (e, inr q)
        | inl q ↦ elim (last_put BB q) [
          | inl q ↦ inl q
          | inr (e, q) ↦ inr (
            e,
            inl (sym (puts_is r x l i item ab.0 j)
                ∙ subst (λ a. BB.puts (state BB r a) (hand item.board item.bytes) j ≡ some ρ) (sym e) q),
          )
        ]
      ]

  -- ---- what is delivered

  pub given_of : (i : ℕ) (items : List Item) → AllBytes items → (r : Run BB) (x : Emptied) → Level r x → (e : Option (List ℕ))
      → GaveIn i items x e → Delivered BB k e (hand_each b lent r k items)
  unfolding hand_each
  given_of i [] ab r x l e n = absurd n
  given_of i (item ∷ rest) ab r x l e (inl g) = given_each b lent rest k (Delivered.now (gives_is r x l i item ab.0 ∙ g))
  given_of i (item ∷ rest) ab r x l e (inr p) =
      given_of (i + 1) rest ab.1 (after r k (hand item.board item.bytes)) (handed i item x) (level_on r x l i item ab.0) e p

  pub given_why : (i : ℕ) (items : List Item) → AllBytes items → (r : Run BB) (x : Emptied) → Level r x → (j : ℕ) (e : Option (List ℕ))
      → Delivered BB j e (hand_each b lent r k items) → Delivered BB j e r ⊎ ((k ≡ j) × GaveIn i items x e)
  unfolding hand_each
  given_why i [] ab r x l j e p = inl p
  given_why i (item ∷ rest) ab r x l j e p =
      elim (given_why (i + 1) rest ab.1 (after r k (hand item.board item.bytes)) (handed i item x) (level_on r x l i item ab.0) j e p) [
        | inr (q, g) ↦ inr (q, inr g)
        | inl q ↦ elim (last_given BB q) [
          | inl q ↦ inl q
          | inr (h, g) ↦ inr (
            h,
            inl (sym (gives_is r x l i item ab.0)
                ∙ subst (λ a. BB.gives (state BB r a) (hand item.board item.bytes) ≡ some e) (sym h) g),
          )
        ]
      ]
