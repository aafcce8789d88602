-- Demand 3 of boards that empty mailboxes: their history is a run of steps, `singly`, with the same records put out, delivered and handed over.
use Prim.Native.Nat.{ℕ, ◌≤◌}
use native.Mathlib.Decide.{ℕ_discrete}
use mathlib.Core.Bool.{Bool, true, false}
use mathlib.Core.Path.{◌≡◌, refl, subst, sym, ◌∙◌, ap}
use mathlib.Core.Logic.{inl, inr}
use mathlib.Core.List.{List, [], ◌∷◌, Memᴰ}
use mathlib.Core.Option.{Option, some}
use borrow.Author.Tests.{leb-true, eq-eqb, ne_eqb}
use lib.Dec.{T, leb, eqb}
use lib.ListN.{length}
use Rattle.octets.specs.Bytes.{pick}
use Rattle.octets.proofs.Picks.{and_l}
use Rattle.table.specs.Table.{limits}
use Rattle.table.specs.declared.Table.{Table}
use Rattle.record.specs.Form.{out_bytes}
use Rattle.board_step.specs.Step.{Outcome, step_of}
use Rattle.board_step.proofs.Outcomes.{stays}
use Rattle.mailbox.specs.Items.{Item}
use Rattle.board_mailbox.specs.Emptied.{handed_all}
use Rattle.line.specs.Boards.{Board}
use Rattle.line.specs.Bytes.{bytes, untouched, called, next, puts, gives}
use Rattle.line.specs.Run.{Machine, Input, In, hand, tell, Run, fresh, after, state, Took, Put, Delivered, Genuine, Fair, Over}
use Rattle.line.proofs.Runs.{last_put, no_put, last_given, no_given, step_cases}
use Rattle.line_desk.proofs.Carry.{begun}
use Rattle.line_desk.specs.Desk.{Desk, Lend, Roomy, long_enough, lends}
use Rattle.line_demand.specs.Boards.{fragment_kind, Sends, fragment_board, boards}
use Rattle.line_demand.proofs.Carry.{paper, begins, follows}
use Rattle.line_demand.proofs.Reached.{held, run_sound}
use Rattle.line_demand.specs.Demand.{DemandThree}
use Rattle.line_demand.proofs.Demand.{demand_three}
use Rattle.line_mailbox.specs.Polls.{Polls, Trays, emptied_to, poll_puts, poll_gives, items_taken, desk_at, PutBy, GaveBy, TookBy, hand_each, singly, FairBy, OverBy}
use Rattle.line_mailbox.specs.Demand.{DemandThreePolled}
use Rattle.line_mailbox.proofs.Alike.{Alike, step_alike, given_alike, put_alike}
use Rattle.line_mailbox.proofs.Items.{kept_each, given_each, Level, level_all, put_of, put_why, given_of, given_why}
use Rattle.line_mailbox.proofs.Polling.{Emptying, emptying}

module _ (b : Table) (limited : limits b ≡ true) (lent : ℕ → Desk) (keeps : ℕ → Bool) (known : (j : ℕ) → T (keeps j) → Board b.n j)
    (roomy : (j : ℕ) → T (keeps j) → Roomy (fragment_kind b) (lent j)) where
  abbrev BB : Machine
  BB = boards b lent

  abbrev run_of : Polls → Run BB
  run_of = singly b lent

  -- ---- records handed to one board do nothing to another

  other_state : (items : List Item) (r : Run BB) (k j : ℕ) → (k ≡ j → ⊥) → state BB (hand_each b lent r k items) j ≡ state BB r j
  unfolding hand_each
  other_state [] r k j n = refl
  other_state (item ∷ rest) r k j n =
      other_state rest (after r k (hand item.board item.bytes)) k j n
      ∙ step_cases BB (λ s. s ≡ state BB r j) j r k (hand item.board item.bytes) (λ e. absurd (n e)) refl

  other_put : (items : List Item) (r : Run BB) (k i j : ℕ) (ρ : List ℕ) → (k ≡ i → ⊥) → Put BB i j ρ (hand_each b lent r k items) → Put BB i j ρ r
  unfolding hand_each
  other_put [] r k i j ρ n p = p
  other_put (item ∷ rest) r k i j ρ n p = elim (last_put BB (other_put rest (after r k (hand item.board item.bytes)) k i j ρ n p)) [ inl q ↦ q | inr (e, q) ↦ absurd (n e) ]

  other_given : (items : List Item) (r : Run BB) (k j : ℕ) (d : Option (List ℕ)) → (k ≡ j → ⊥) → Delivered BB j d (hand_each b lent r k items) → Delivered BB j d r
  unfolding hand_each
  other_given [] r k j d n p = p
  other_given (item ∷ rest) r k j d n p = elim (last_given BB (other_given rest (after r k (hand item.board item.bytes)) k j d n p)) [ inl q ↦ q | inr (e, q) ↦ absurd (n e) ]

  took_still : (items : List Item) (k : ℕ) {j : ℕ} {x : In BB} {r : Run BB} → Took BB j x r → Took BB j x (hand_each b lent r k items)
  unfolding hand_each
  took_still [] k p = p
  took_still (item ∷ rest) k p = took_still rest k (Took.then p)

  took_each : (items : List Item) (k : ℕ) (r : Run BB) (x : Item) → Memᴰ x items → Took BB k (hand x.board x.bytes) (hand_each b lent r k items)
  unfolding hand_each
  took_each [] k r x m = elim m [ ]
  took_each (item ∷ rest) k r x (Memᴰ.head e) =
      took_still rest k (subst (λ z. Took BB k (hand x.board x.bytes) (after r k (hand z.board z.bytes))) e Took.now)
  took_each (item ∷ rest) k r x (Memᴰ.tail m) = took_each rest k (after r k (hand item.board item.bytes)) x m

  fair_each : (Sent : ℕ → ℕ → List ℕ → Type 0) (items : List Item) {k : ℕ} {r : Run BB} → Fair BB keeps Sent r
      → ((x : Item) → Memᴰ x items → T (keeps x.board) → T (keeps k) → Genuine BB Sent r x.board k x.bytes) → Fair BB keeps Sent (hand_each b lent r k items)
  unfolding hand_each
  fair_each Sent [] f g = f
  fair_each Sent (item ∷ rest) {k} {r} f g = fair_each Sent rest (Fair.went f here) (λ x m ki kk. later x (g x (Memᴰ.tail m) ki kk))
    where
      here : (i : ℕ) (ρ : List ℕ) → ◌≡◌ {A = In BB} (hand item.board item.bytes) (hand i ρ) → T (keeps i) → T (keeps k) → Genuine BB Sent r i k ρ
      here i ρ e ki kk =
          let ei : item.board ≡ i = cc in
          let er : item.bytes ≡ ρ = cc in
          subst (λ x. Genuine BB Sent r i k x) er (subst (λ a. Genuine BB Sent r a k item.bytes) ei (g item (Memᴰ.head refl) (subst (λ a. T (keeps a)) (sym ei) ki) kk))

      later : (x : Item) → Genuine BB Sent r x.board k x.bytes → Genuine BB Sent (after r k (hand item.board item.bytes)) x.board k x.bytes
      later x (inl p) = inl (Put.then p)
      later x (inr s) = inr s

  -- ---- what a board holds, in the history and in the run

  -- o in the history, o' in the run: the outgoing buffers may differ
  record SameAs (o o' : Option Desk) : Type 0 where
    mine : Desk
    here : o ≡ some mine
    theirs : Desk
    there : o' ≡ some theirs
    state_same : theirs.state ≡ mine.state
    delivery_same : theirs.delivery ≡ mine.delivery
    out : out_bytes ≤ length mine.out

  module _ (o o' : Option Desk) (s : SameAs o o') (theirs_out : out_bytes ≤ length s.theirs.out) (i : ℕ) (r : List ℕ) where
    abbrev here_step : Outcome
    here_step = step_of s.mine.state i r s.mine.out s.mine.delivery

    abbrev there_step : Outcome
    there_step = step_of s.theirs.state i r s.theirs.out s.theirs.delivery

    same_step : Alike there_step here_step
    same_step = step_alike s.theirs.state s.mine.state i r s.theirs.out s.mine.out s.theirs.delivery s.mine.delivery s.state_same s.delivery_same theirs_out s.out

    module _ (sound_out : length here_step.out ≡ length s.mine.out) where
      hand_same : SameAs (next (fragment_board b) o (hand i r)) (next (fragment_board b) o' (hand i r))
      unfolding next called pick
      hand_same = rw (s.here, s.there) (go (bytes r))
        where
          go : (c : Bool) → SameAs (some (pick c ((fragment_board b).step s.mine i r) (untouched (fragment_board b) s.mine)).desk)
              (some (pick c ((fragment_board b).step s.theirs i r) (untouched (fragment_board b) s.theirs)).desk)
          go true = record {
            mine = record { state = here_step.state; out = here_step.out; delivery = here_step.delivery };
            here = refl;
            theirs = record { state = there_step.state; out = there_step.out; delivery = there_step.delivery };
            there = refl;
            state_same = same_step.state;
            delivery_same = same_step.delivery;
            out = rw sound_out s.out;
          }
          go false = record { mine = s.mine; here = refl; theirs = s.theirs; there = refl; state_same = s.state_same; delivery_same = s.delivery_same; out = s.out }

  lend_same : (o o' : Option Desk) → SameAs o o' → (l : Lend) → SameAs (next (fragment_board b) o (tell l)) (next (fragment_board b) o' (tell l))
  unfolding next called
  lend_same o o' s l = rw (s.here, s.there) (go (long_enough (fragment_kind b) l) refl)
    where
      go : (c : Bool) → long_enough (fragment_kind b) l ≡ c → SameAs (some (lends s.mine l c)) (some (lends s.theirs l c))
      go true e = record {
        mine = lends s.mine l true;
        here = refl;
        theirs = lends s.theirs l true;
        there = refl;
        state_same = s.state_same;
        delivery_same = refl;
        out = leb-true out_bytes (length l.out) (and_l (leb out_bytes (length l.out)) _ e);
      }
      go false e = record { mine = s.mine; here = refl; theirs = s.theirs; there = refl; state_same = s.state_same; delivery_same = s.delivery_same; out = s.out }

  -- ---- at every point of a history

  module _ (p : Polls) (k : ℕ) (kk : T (keeps k)) (s : SameAs (desk_at b lent p k) (state BB (run_of p) k)) where
    theirs_long : out_bytes ≤ length s.theirs.out
    theirs_long = (held b limited lent keeps roomy (run_of p) k kk s.theirs s.there).out

    out_stays : (i : ℕ) (r : List ℕ) → length (step_of s.mine.state i r s.mine.out s.mine.delivery).out ≡ length s.mine.out
    out_stays i r =
        let so = run_sound b limited lent keeps roomy (run_of p) k kk s.theirs s.there in
        (stays s.mine.state i r s.mine.out s.mine.delivery (rw s.state_same at so)).out

    next_same : (x : Input Lend (List ℕ)) → SameAs (next (fragment_board b) (desk_at b lent p k) x) (next (fragment_board b) (state BB (run_of p) k) x)
    next_same (tell l) = lend_same (desk_at b lent p k) (state BB (run_of p) k) s l
    next_same (hand i r) = hand_same (desk_at b lent p k) (state BB (run_of p) k) s theirs_long i r (out_stays i r)

    -- a single step puts out and delivers the same
    puts_same : (x : Input Lend (List ℕ)) (j l : ℕ) → puts (fragment_board b) (desk_at b lent p k) x j ≡ puts (fragment_board b) (state BB (run_of p) k) x l
    unfolding puts called pick
    puts_same (tell z) j l =
        ap (λ (o : Option Desk). puts (fragment_board b) o (tell z) j) s.here ∙ sym (ap (λ (o : Option Desk). puts (fragment_board b) o (tell z) l) s.there)
    puts_same (hand i r) j l =
        ap (λ (o : Option Desk). puts (fragment_board b) o (hand i r) j) s.here ∙ go (bytes r) refl
        ∙ sym (ap (λ (o : Option Desk). puts (fragment_board b) o (hand i r) l) s.there)
      where
        go : (c : Bool) → bytes r ≡ c
            → (pick c ((fragment_board b).step s.mine i r) (untouched (fragment_board b) s.mine)).put j ≡ (pick c ((fragment_board b).step s.theirs i r) (untouched (fragment_board b) s.theirs)).put l
        go true e =
            sym (put_alike b k s.theirs _ (held b limited lent keeps roomy (run_of p) k kk s.theirs s.there) i r e s.mine.state s.mine.out s.mine.delivery
            s.state_same s.delivery_same s.out)
        go false e = refl

    gives_same : (x : Input Lend (List ℕ)) → gives (fragment_board b) (desk_at b lent p k) x ≡ gives (fragment_board b) (state BB (run_of p) k) x
    unfolding gives called pick
    gives_same (tell z) = ap (λ (o : Option Desk). gives (fragment_board b) o (tell z)) s.here ∙ sym (ap (λ (o : Option Desk). gives (fragment_board b) o (tell z)) s.there)
    gives_same (hand i r) =
        ap (λ (o : Option Desk). gives (fragment_board b) o (hand i r)) s.here ∙ go (bytes r)
        ∙ sym (ap (λ (o : Option Desk). gives (fragment_board b) o (hand i r)) s.there)
      where
        go : (c : Bool) → (pick c ((fragment_board b).step s.mine i r) (untouched (fragment_board b) s.mine)).given
            ≡ (pick c ((fragment_board b).step s.theirs i r) (untouched (fragment_board b) s.theirs)).given
        go true = sym (given_alike _ _ (same_step (desk_at b lent p k) (state BB (run_of p) k) s theirs_long i r))
        go false = refl

    -- a mailbox
    module _ (box : List ℕ) (t : Trays) where
      call : Emptying s.mine box t
      call = emptying s.mine s.out box t

      items_are : items_taken (desk_at b lent p k) box t ≡ call.items
      items_are = ap (λ (o : Option Desk). items_taken o box t) s.here ∙ call.taken

      level : Level b limited lent keeps roomy k kk (run_of p) call.from
      level = record {
        desk = s.theirs;
        here = s.there;
        state_same = s.state_same ∙ sym call.state;
        delivery_same = s.delivery_same ∙ sym call.delivery;
        echo = call.echo;
      }

      poll_same : SameAs (emptied_to (desk_at b lent p k) box t) (state BB (hand_each b lent (run_of p) k (items_taken (desk_at b lent p k) box t)) k)
      poll_same =
          let l = level_all b limited lent keeps roomy k kk 0 call.items call.of_bytes (run_of p) call.from level in
          record {
            mine = record { state = (handed_all 0 call.items call.from).state; out = s.mine.out; delivery = (handed_all 0 call.items call.from).delivery };
            here = ap (λ (o : Option Desk). emptied_to o box t) s.here ∙ call.after;
            theirs = l.desk;
            there = ap (λ (items : List Item). state BB (hand_each b lent (run_of p) k items) k) items_are ∙ l.here;
            state_same = l.state_same;
            delivery_same = l.delivery_same;
            out = s.out;
          }

  same : (p : Polls) (j : ℕ) → T (keeps j) → SameAs (desk_at b lent p j) (state BB (run_of p) j)
  unfolding desk_at singly state pick
  same Polls.started j kj =
      let (d, e) = begun (fragment_kind b) (paper b) (follows b) lent keeps roomy b.n (begins b limited) j kj (known j kj) in
      record {
        mine = d;
        here = e;
        theirs = d;
        there = e;
        state_same = refl;
        delivery_same = refl;
        out = (held b limited lent keeps roomy fresh j kj d e).out;
      }
  same (Polls.took p k x) j kj = go (same p j kj) (eqb k j)
    where
      go : SameAs (desk_at b lent p j) (state BB (run_of p) j) → (c : Bool)
          → SameAs (pick c (next (fragment_board b) (desk_at b lent p j) x) (desk_at b lent p j)) (pick c (next (fragment_board b) (state BB (run_of p) j) x) (state BB (run_of p) j))
      go s true = next_same p j kj s x
      go s false = s
  same (Polls.polled p k box t) j kj = elim (ℕ_discrete k j) [ yes e ↦ own (same p j kj) e | no n ↦ another (same p j kj) n ]
    where
      After : ℕ → Type 0
      After a = SameAs (pick (eqb a j) (emptied_to (desk_at b lent p j) box t) (desk_at b lent p j)) (state BB (hand_each b lent (run_of p) a (items_taken (desk_at b lent p a) box t)) j)

      own : SameAs (desk_at b lent p j) (state BB (run_of p) j) → k ≡ j → After k
      own s e = subst After (sym e) (rw (eq-eqb j j refl) (poll_same p j kj s box t))

      another : SameAs (desk_at b lent p j) (state BB (run_of p) j) → (k ≡ j → ⊥) → After k
      another s n = rw (ne_eqb k j n, other_state (items_taken (desk_at b lent p k) box t) (run_of p) k j n) s

  -- ---- what is put out

  module _ (i : ℕ) (ki : T (keeps i)) (ρ : List ℕ) where
    put_to : {p : Polls} → PutBy b lent i ρ p → (j : ℕ) → Put BB i j ρ (run_of p)
    unfolding singly
    put_to (PutBy.step {p} {x} k e) j = Put.now (sym (puts_same p i ki (same p i ki) x k j) ∙ e)
    put_to (PutBy.poll {p} {box} {t} m) j =
        let s = same p i ki in
        let c = call p i ki s box t in
        subst (λ items. Put BB i j ρ (hand_each b lent (run_of p) i items)) (sym (items_are p i ki s box t))
        (put_of b limited lent keeps roomy i ki 0 c.items c.of_bytes (run_of p) c.from (level p i ki s box t) j ρ
        (c.puts_why ρ (subst (λ o. Memᴰ ρ (poll_puts o box t)) s.here m)))
    put_to (PutBy.before_take q) j = Put.then (put_to q j)
    put_to (PutBy.before_poll {p} {k} {box} {t} q) j = kept_each b lent (items_taken (desk_at b lent p k) box t) k (put_to q j)

    put_from : (p : Polls) (j : ℕ) → Put BB i j ρ (run_of p) → PutBy b lent i ρ p
    unfolding singly
    put_from Polls.started j q = absurd (no_put BB q)
    put_from (Polls.took p k x) j q = elim (last_put BB q) [
      | inl q ↦ PutBy.before_take (put_from p j q)
      | inr (e, q) ↦ subst (λ a. PutBy b lent i ρ (Polls.took p a x)) (sym e) (PutBy.step j (puts_same p i ki (same p i ki) x j j ∙ q))
    ]
    put_from (Polls.polled p k box t) j q = elim (ℕ_discrete k i) [
      | no n ↦ PutBy.before_poll (put_from p j (other_put (items_taken (desk_at b lent p k) box t) (run_of p) k i j ρ n q))
      | yes e ↦ subst (λ a. PutBy b lent i ρ (Polls.polled p a box t)) (sym e)
          (own (put_from p j) (subst (λ a. Put BB i j ρ (hand_each b lent (run_of p) a (items_taken (desk_at b lent p a) box t))) e q))
    ]
      where
        own : (Put BB i j ρ (run_of p) → PutBy b lent i ρ p) → Put BB i j ρ (hand_each b lent (run_of p) i (items_taken (desk_at b lent p i) box t)) → PutBy b lent i ρ (Polls.polled p i box t)
        own before q =
            let s = same p i ki in
            let c = call p i ki s box t in
            elim (put_why b limited lent keeps roomy i ki 0 c.items c.of_bytes (run_of p) c.from (level p i ki s box t) i j ρ
            (subst (λ items. Put BB i j ρ (hand_each b lent (run_of p) i items)) (items_are p i ki s box t) q)) [
              | inl q ↦ PutBy.before_poll (before q)
              | inr (e, q) ↦ PutBy.poll (subst (λ o. Memᴰ ρ (poll_puts o box t)) (sym s.here) (c.puts_of ρ q))
            ]

  -- ---- what is delivered

  module _ (j : ℕ) (kj : T (keeps j)) (d : Option (List ℕ)) where
    gave_to : {p : Polls} → GaveBy b lent j d p → Delivered BB j d (run_of p)
    unfolding singly
    gave_to (GaveBy.step {p} {x} e) = Delivered.now (sym (gives_same p j kj (same p j kj) x) ∙ e)
    gave_to (GaveBy.poll {p} {box} {t} e) =
        let s = same p j kj in
        let c = call p j kj s box t in
        subst (λ items. Delivered BB j d (hand_each b lent (run_of p) j items)) (sym (items_are p j kj s box t))
        (given_of b limited lent keeps roomy j kj 0 c.items c.of_bytes (run_of p) c.from (level p j kj s box t) d
        (c.gives_why d (ap (λ (o : Option Desk). poll_gives o box t) (sym s.here) ∙ e)))
    gave_to (GaveBy.before_take q) = Delivered.then (gave_to q)
    gave_to (GaveBy.before_poll {p} {k} {box} {t} q) = given_each b lent (items_taken (desk_at b lent p k) box t) k (gave_to q)

    gave_from : (p : Polls) → Delivered BB j d (run_of p) → GaveBy b lent j d p
    unfolding singly
    gave_from Polls.started q = absurd (no_given BB q)
    gave_from (Polls.took p k x) q = elim (last_given BB q) [
      | inl q ↦ GaveBy.before_take (gave_from p q)
      | inr (e, q) ↦ subst (λ a. GaveBy b lent j d (Polls.took p a x)) (sym e) (GaveBy.step (gives_same p j kj (same p j kj) x ∙ q))
    ]
    gave_from (Polls.polled p k box t) q = elim (ℕ_discrete k j) [
      | no n ↦ GaveBy.before_poll (gave_from p (other_given (items_taken (desk_at b lent p k) box t) (run_of p) k j d n q))
      | yes e ↦ subst (λ a. GaveBy b lent j d (Polls.polled p a box t)) (sym e)
          (own (gave_from p) (subst (λ a. Delivered BB j d (hand_each b lent (run_of p) a (items_taken (desk_at b lent p a) box t))) e q))
    ]
      where
        own : (Delivered BB j d (run_of p) → GaveBy b lent j d p) → Delivered BB j d (hand_each b lent (run_of p) j (items_taken (desk_at b lent p j) box t)) → GaveBy b lent j d (Polls.polled p j box t)
        own before q =
            let s = same p j kj in
            let c = call p j kj s box t in
            elim (given_why b limited lent keeps roomy j kj 0 c.items c.of_bytes (run_of p) c.from (level p j kj s box t) j d
            (subst (λ items. Delivered BB j d (hand_each b lent (run_of p) j items)) (items_are p j kj s box t) q)) [
              | inl q ↦ GaveBy.before_poll (before q)
              | inr (e, q) ↦ GaveBy.poll (ap (λ (o : Option Desk). poll_gives o box t) s.here ∙ c.gives_of d q)
            ]

  -- ---- what is handed over

  took_to : {j i : ℕ} {ρ : List ℕ} {p : Polls} → TookBy b lent j i ρ p → Took BB j (hand i ρ) (run_of p)
  unfolding singly
  took_to TookBy.step = Took.now
  took_to {j} {i} {ρ} (TookBy.poll {p} {box} {t} m) = took_each (items_taken (desk_at b lent p j) box t) j (run_of p) (record { board = i; bytes = ρ }) m
  took_to (TookBy.before_take q) = Took.then (took_to q)
  took_to (TookBy.before_poll {p} {k} {box} {t} q) = took_still (items_taken (desk_at b lent p k) box t) k (took_to q)

  module _ (Sent : ℕ → ℕ → List ℕ → Type 0) where
    fair_to : {p : Polls} → FairBy b lent keeps Sent p → Fair BB keeps Sent (run_of p)
    unfolding singly
    fair_to FairBy.none_yet = Fair.begun
    fair_to (FairBy.one {p} {j} {x} f g) =
        Fair.went (fair_to f) (λ i ρ e ki kj. elim (g i ρ e ki kj) [ inl q ↦ inl (put_to i ki ρ q j) | inr s ↦ inr s ])
    fair_to (FairBy.all {p} {j} {box} {t} f g) =
        fair_each Sent (items_taken (desk_at b lent p j) box t) (fair_to f)
        (λ x m ki kj. elim (g x m ki kj) [ inl q ↦ inl (put_to x.board ki x.bytes q j) | inr s ↦ inr s ])

    over_to : (p : Polls) → OverBy b lent keeps Sent p → Over BB keeps Sent (run_of p)
    unfolding Over OverBy
    over_to p o i j ρ ki kj (inl q) = took_to (o i j ρ ki kj (inl (put_from i ki ρ p j q)))
    over_to p o i j ρ ki kj (inr s) = took_to (o i j ρ ki kj (inr s))

-- the promise of the run is the history's
pub demand_three_polled : DemandThreePolled
unfolding DemandThreePolled DemandThree
demand_three_polled b limited m fits keeps K lent roomy p f =
    let q = demand_three b limited m fits keeps K lent roomy (singly b lent p) (fair_to b limited lent keeps K.known roomy (Sends b m) f) in
    let to : (j : ℕ) → T (keeps j) → (d : Option (List ℕ)) → GaveBy b lent j d p → Delivered (boards b lent) j d (singly b lent p)
    = λ j kj d g. gave_to b limited lent keeps K.known roomy j kj d g in
    record {
      agree = λ i j d e ki kj x y. q.agree i j d e ki kj (to i ki d x) (to j kj e y);
      valid = λ i d ks ki x. q.valid i d ks ki (to i ki d x);
      total = λ o h j kj. (
          let (d, x) = q.total (over_to b limited lent keeps K.known roomy (Sends b m) p o)
          (elim h [ inl (i, e, ki, y) ↦ inl (i, e, ki, to i ki e y) | inr ks ↦ inr ks ]) j kj in
          (d, gave_from b limited lent keeps K.known roomy j kj d p x));
    }
