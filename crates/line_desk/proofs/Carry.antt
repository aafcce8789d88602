-- Boards of bytes carry boards on paper: what a kind of board brings, and what then holds of every line of them.
use Prim.Native.Nat.{ℕ, ◌≤◌}
use mathlib.Core.Bool.{Bool, true, false}
use mathlib.Core.Path.{◌≡◌, refl, subst, sym, ◌∙◌, ap}
use mathlib.Core.List.{List}
use mathlib.Core.Option.{Option, some, none, some-injective}
use borrow.Author.Tests.{leb-true, eqb-true, eq-eqb}
use lib.ListN.{length}
use lib.Dec.{T, leb, eqb}
use Rattle.octets.specs.Bytes.{pick}
use Rattle.octets.proofs.Picks.{and_l, and_r}
use Rattle.board_step.specs.Step.{Outcome}
use Rattle.line.specs.Boards.{Board, Keepers}
use Rattle.line.specs.Run.{Machine, Input, hand, tell, Run, state, Took, Fair}
use Rattle.line.specs.Bytes.{bytes, AfterCall, untouched, byte_line}
use Rattle.line.specs.Promise.{Promise}
use Rattle.line.specs.Project.{project, TookSeen}
use Rattle.line.proofs.Projected.{through_all, Meets, Carries, shows, fair_on, took_seen, promise_of, promise_on}
use Rattle.line.proofs.Lifted.{Lifts, sees_by, shows_by, lifted, started as always}
use Rattle.line.proofs.Tests.{none_some}
use Rattle.line_desk.specs.Desk.{Desk, Lend, BoardKind, lends, put_in, long_enough, begin, desk_board, Roomy}

-- a board on paper: it takes the same records as bytes, and no orders
pub record Paper (Result : Type 0) : Type 1 where
  pub State : Type 0
  pub start : ℕ → State
  pub next : State → Input ⊥ (List ℕ) → State
  pub puts : State → Input ⊥ (List ℕ) → ℕ → Option (List ℕ)
  pub gives : State → Input ⊥ (List ℕ) → Option Result

abbrev pub on_paper : {Result : Type 0} → Paper Result → Machine
on_paper {Result} P = record { State = P.State; Order = ⊥; Rec = List ℕ; Result = Result; start = P.start; next = P.next; puts = P.puts; gives = P.gives }

-- what a board on paper sees of what comes to a started board of bytes: records
abbrev pub sees_records : Desk → Input Lend (List ℕ) → Option (Input ⊥ (List ℕ))
sees_records d (tell l) = none
sees_records d (hand i r) = some (hand i r)

abbrev pub sees : Option Desk → Input Lend (List ℕ) → Option (Input ⊥ (List ℕ))
sees = sees_by sees_records

pub seen : (d : Desk) (y : Input Lend (List ℕ)) (i : ℕ) (ρ : List ℕ) → sees_records d y ≡ some (hand i ρ)
    → (β : List ℕ) × (y ≡ hand i β) × (some β ≡ some ρ)
seen d (tell l) i ρ e = none_some (hand i ρ) e
seen d (hand k r) i ρ e = let p : k ≡ i = cc in let q : r ≡ ρ = cc in (r, ap (λ (a : ℕ). hand a r) p, ap some q)

-- K the boards of bytes, P the boards on paper
module _ (K : BoardKind) (P : Paper K.Result) where
  abbrev M : Machine
  M = on_paper P

  -- what a step leaves, w, is what the board on paper, in the state x, makes of y; o and d are the buffers that were lent
  pub record Does (Shows : List ℕ → P.State → Type 0) (x : P.State) (y : Input ⊥ (List ℕ)) (o d : List ℕ) (w : Outcome) : Type 0 where
    pub shows : Shows w.state (P.next x y)
    pub puts : (k : ℕ) → put_in w ≡ P.puts x y k
    pub gives : K.given w ≡ P.gives x y
    pub out : length w.out ≡ length o
    pub delivery : length w.delivery ≡ length d

  -- the board on paper makes nothing of y
  pub record Idles (x : P.State) (y : Input ⊥ (List ℕ)) : Type 0 where
    pub next : P.next x y ≡ x
    pub puts : (k : ℕ) → P.puts x y k ≡ none
    pub gives : P.gives x y ≡ none

  -- What a kind of board brings.
  pub record Follows : Type 1 where
    pub Shows : ℕ → List ℕ → P.State → Type 0  -- the state's bytes of board j show this state
    pub starts : (j : ℕ) (s : List ℕ) → K.state_room ≤ length s → (K.start j s).number ≡ 0 → Shows j (K.start j s).state (P.start j)
    pub steps : (j : ℕ) (s : List ℕ) (x : P.State) → Shows j s x → (i : ℕ) (r o d : List ℕ) → bytes r ≡ true → K.out_room ≤ length o
        → K.delivery_room ≤ length d → Does (Shows j) x (hand i r) o d (K.step s i r o d)
    -- what is no string of bytes is nothing to the board on paper either
    pub deaf : (x : P.State) (i : ℕ) (r : List ℕ) → bytes r ≡ false → Idles x (hand i r)

  module _ (F : Follows) where
    -- what the buffers of board j hold, and the state that they show
    pub record Holds (j : ℕ) (d : Desk) (x : P.State) : Type 0 where
      pub shown : F.Shows j d.state x
      pub out : K.out_room ≤ length d.out
      pub delivery : K.delivery_room ≤ length d.delivery

    -- ---- one call

    pub starts : (j : ℕ) (d : Desk) → Roomy K d → (e : Desk) → begin K j d ≡ some e → Holds j e (P.start j)
    unfolding begin pick
    starts j d roomy e q = go (eqb (K.start j d.state).number 0) refl q
      where
        go : (c : Bool) → eqb (K.start j d.state).number 0 ≡ c
            → pick c (some (record { state = (K.start j d.state).state; out = d.out; delivery = d.delivery })) none ≡ some e → Holds j e (P.start j)
        go true h p = subst (λ x. Holds j x (P.start j)) (some-injective _ _ p)
            (record { shown = F.starts j d.state roomy.state (eqb-true _ 0 h); out = roomy.out; delivery = roomy.delivery })
        go false h p = none_some e p

    abbrev Followed : ℕ → P.State → Option (Input ⊥ (List ℕ)) → AfterCall Desk K.Result → Type 0
    Followed j x o l = Meets M (Holds j) (λ β. some β) (λ d. some d) x o l.desk l.put l.given

    pub taken : (j : ℕ) (d : Desk) (x : P.State) → Holds j d x → (i : ℕ) (r : List ℕ) → bytes r ≡ true
        → Followed j x (some (hand i r)) ((desk_board K).step d i r)
    taken j d x h i r e =
        let w = F.steps j d.state x h.shown i r d.out d.delivery e h.out h.delivery in
        record {
          shows = record { shown = w.shows; out = rw w.out h.out; delivery = rw w.delivery h.delivery };
          puts = λ k. through_all _ ∙ w.puts k;
          gives = through_all _ ∙ w.gives;
        }

    pub passed_over : (j : ℕ) (d : Desk) (x : P.State) → Holds j d x → (i : ℕ) (r : List ℕ) → bytes r ≡ false
        → Followed j x (some (hand i r)) (untouched (desk_board K) d)
    passed_over j d x h i r e =
        let n = F.deaf x i r e in
        record { shows = subst (Holds j d) (sym n.next) h; puts = λ k. sym (n.puts k); gives = sym n.gives }

    -- other buffers are lent
    pub lent_on : (j : ℕ) (d : Desk) (x : P.State) → Holds j d x → (l : Lend) → Holds j (lends d l (long_enough K l)) x
    lent_on j d x h l = go (long_enough K l) refl
      where
        go : (c : Bool) → long_enough K l ≡ c → Holds j (lends d l c) x
        go false e = h
        go true e = record {
          shown = h.shown;
          out = leb-true K.out_room (length l.out) (and_l (leb K.out_room (length l.out)) _ e);
          delivery = leb-true K.delivery_room (length l.delivery) (and_r (leb K.out_room (length l.out)) _ e);
        }

    module _ (lent : ℕ → Desk) (keeps : ℕ → Bool) (roomy : (j : ℕ) → T (keeps j) → Roomy K (lent j)) where
      abbrev B : Machine
      B = byte_line (desk_board K) lent

      unfoldable pub lifts : Lifts (desk_board K) M sees_records lent keeps
      lifts = record {
        Shows = Holds;
        of = λ β. some β;
        res = λ d. some d;
        starts = λ j kj d e. starts j (lent j) (roomy j kj) d e;
        seen = seen;
        steps = taken;
        deaf = passed_over;
        obeys = λ j d x h l. record { shows = lent_on j d x h l; puts = λ k. refl; gives = refl };
      }

      unfoldable pub carries : Carries B M sees keeps
      carries = lifted lifts

      -- ---- at every point of a run

      pub held : (r : Run B) (j : ℕ) → T (keeps j) → (d : Desk) → state B r j ≡ some d → Holds j d (state M (project B M sees r) j)
      unfolding carries lifted lifts
      held r j kj d here = subst (λ o. shows_by Holds j o (state M (project B M sees r) j)) here (shows carries r j kj)

      -- n boards, each of which starts where its buffers are long enough
      module _ (n : ℕ) (begins : (j : ℕ) → Board n j → (s : List ℕ) → K.state_room ≤ length s → (K.start j s).number ≡ 0) where
        pub begun : (j : ℕ) → T (keeps j) → Board n j → (d : Desk) × (begin K j (lent j) ≡ some d)
        unfolding begin pick
        begun j kj bd = (
          record { state = (K.start j (lent j).state).state; out = (lent j).out; delivery = (lent j).delivery },
          rw (eq-eqb (K.start j (lent j).state).number 0 (begins j bd (lent j).state (roomy j kj).state)),
        )

        pub started : (j : ℕ) → T (keeps j) → Board n j → (r : Run B) → (d : Desk) × (state B r j ≡ some d)
        started j kj bd = always (desk_board K) lent j (begun j kj bd)

        -- so it takes what it is handed
        pub passed : (j : ℕ) → T (keeps j) → Board n j → (i : ℕ) (β : List ℕ) (q : Run B) → sees (state B q j) (hand i β) ≡ some (hand i β)
        passed j kj bd i β q = let (d, e) = started j kj bd q in ap (λ (o : Option Desk). sees o (hand i β)) e

        -- ---- what is promised

        module _ (t : ℕ) (A : Keepers n t keeps) (Sent Mails : ℕ → ℕ → List ℕ → Type 0)
            (to_mail : (i j : ℕ) (ρ : List ℕ) → Sent i j ρ → Mails i j ρ) where
          -- a fair run of bytes is a fair run on paper
          pub fair_line : {r : Run B} → Fair B keeps Sent r → Fair M keeps Mails (project B M sees r)
          unfolding carries lifted lifts
          fair_line f = fair_on carries (λ i j β ρ e s. subst (Mails i j) (some-injective _ _ e) (to_mail i j β s)) f

          took_line : {r : Run B} (i j : ℕ) (β ρ : List ℕ) → T (keeps j) → ◌≡◌ {A = Option (List ℕ)} (some β) (some ρ) → Took B j (hand i β) r
              → TookSeen B M sees j (hand i β) (hand i ρ) r
          took_line {r} i j β ρ kj e h = subst (λ x. TookSeen B M sees j (hand i β) (hand i x) r) (some-injective _ _ e)
              (took_seen (passed j kj (A.known j kj) i β) h)

          -- the promise that the boards on paper keep, the boards of bytes keep
          pub promised : ((i j : ℕ) (ρ : List ℕ) → Mails i j ρ → Sent i j ρ) → (S : ℕ) (result : K.Result) {Unless UnlessB : Type 0} {r : Run B}
              → (Unless → UnlessB) → Promise M keeps S Mails result Unless (project B M sees r) → Promise B keeps S Sent result UnlessB r
          unfolding carries lifted lifts
          promised of_mail S result or_else p = promise_on refl (λ d. (d, refl)) (λ d e q. some-injective _ _ q) took_line
              (promise_of carries (λ i j ρ s. (ρ, of_mail i j ρ s, refl)) or_else p)
