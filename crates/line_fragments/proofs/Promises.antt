-- Demand 3 of the fragment broadcast: boards that run the step keep the promise.
use Prim.Native.Nat.{ℕ, ◌-◌, ◌*◌, ◌≤◌}
use mathlib.Core.Bool.{Bool, true, false, not, ◌&&◌}
use mathlib.Core.Path.{◌≡◌, refl, subst, sym, ◌∙◌, ap}
use mathlib.Core.Logic.{◌⊎◌, inl, inr}
use mathlib.Core.Option.{Option, some, none}
use lib.Dec.{T, T_not, not_T, eqb, eqb→eq, eqb_refl}
use Rattle.octets.specs.Bytes.{pick}
use Rattle.line.specs.Boards.{count, known, Keepers}
use Rattle.line.specs.Run.{Machine, Input, hand, Run, Fair}
use Rattle.line.specs.Promise.{Mail, Promise}
use Rattle.line.specs.Core.{Word, hear, named_by, said, due}
use Rattle.line.specs.Core
use Rattle.line.proofs.Tests.{both, left, right, truth, or_cases, or_left, off, chosen, pick_true}
use Rattle.line.proofs.Counts.{is_known}
use Rattle.line.proofs.Named.{named_from, named_stays, named_there}
use Rattle.line.proofs.EchoVote.{Mute}
use Rattle.line.proofs.Senders.{Sends}
use Rattle.line.proofs.Results.{Ends}
use Rattle.line.proofs.Cores.{reading, echo_vote}
use Rattle.line_fragments.specs.Code.{Code}
use Rattle.line_fragments.specs.Step.{send, echo, vote, Line, BoardState, Act, refuse, take, accepts, act_on, act, vote_out, usable_naming, ends, settle, keep_act, after_act, puts_out, result_at, give, board, mail}
use Rattle.line_fragments.specs.Hashed.{fresh_in, hashed_by, hashes, CollisionIn}
use Rattle.line_fragments.specs.Laws.{CodeLaws, LineLaws, MailLaws}
use Rattle.line_fragments.proofs.Pieces.{Pieces, promise}
use Rattle.line_fragments.proofs.Steps.{votes, ends_why, More, Says, Why, why, has_core, saying}

module _ {n t : ℕ} {C : Code} {B : Line n t C} (A : LineLaws B) (r₀ : ℕ → C.Root) (f₀ : ℕ → C.Frag) where
  abbrev M : Machine
  M = board B r₀ f₀

  abbrev Outcome : BoardState B → C.Root → Option C.Msg → Type 0
  Outcome s v d = (n - 2 * t ≤ count (usable_naming B s v) n) × (d ≡ C.result v (usable_naming B s v) s.frag)

  -- ---- the result

  gave : (s : BoardState B) (r : C.Root) (d : Option C.Msg) → result_at B s r ≡ some d
      → (v : C.Root) × (n - t ≤ votes B (settle B s r) v) × Outcome (settle B s r) v d
  gave s r d e =
      let (h, q) = chosen (ends B s r) (C.result r (usable_naming B s r) s.frag) d e in
      let (o, v, u) = ends_why B s r h in
      (r, v, (u, sym q))

  gives_why : (s : BoardState B) (a : Act B) (d : Option C.Msg) → give B s a ≡ some d → (v : C.Root) × (n - t ≤ votes B (after_act B s a) v) × Outcome (after_act B s a) v d
  gives_why s refuse d e = off (cc)
  gives_why s (take i (send r π f)) d e = off (cc)
  gives_why s (take i (echo r π f)) d e = gave (keep_act B s (take i (echo r π f))) r d e
  gives_why s (take i (vote r)) d e = gave (keep_act B s (take i (vote r))) r d e

  done_why : (s : BoardState B) (a : Act B) → T (after_act B s a).done → T s.done ⊎ ((d : Option C.Msg) × (give B s a ≡ some d))
  done_why s refuse h = inl h
  done_why s (take i (send r π f)) h = inl h
  done_why s (take i (echo r π f)) h = elim (or_cases s.done _ h) [ inl a ↦ inl a | inr b ↦ inr (_, pick_true (ends B (keep_act B s (take i (echo r π f))) r) _ none b) ]
  done_why s (take i (vote r)) h = elim (or_cases s.done _ h) [ inl a ↦ inl a | inr b ↦ inr (_, pick_true (ends B (keep_act B s (take i (vote r))) r) _ none b) ]

  ended : Ends M n t C.Root (reading (has_core A r₀ f₀)) (echo_vote (has_core A r₀ f₀))
  unfolding has_core
  ended = record {
    Outcome = Outcome;
    done_start = λ j h. h;
    done_why = λ {j} {s} g x. done_why s (act B s x);
    gives_why = λ {j} {s} g x d. gives_why s (act B s x) d;
    gives_due = λ {j} {s} (g, punctual) v d sp q (k, e). g.done_due v q k (g.out_due v sp q);
  }

  -- ---- the sender

  abbrev pub Send : B.Bytes → Type 0
  Send b = (v : C.Root) × (π : C.Path) × (f : C.Frag) × (B.read b ≡ some (send v π f))

  abbrev Fit : ℕ → B.Bytes → C.Root → Type 0
  Fit j b v = (π : C.Path) × (f : C.Frag) × (B.read b ≡ some (send v π f)) × T (B.short f) × T (C.check v j f π)

  only : (s : BoardState B) (w : Word) (k : ℕ) (r u : C.Root) → said n t B.same s.core (hear w k r) Word.vote ≡ some u → r ≡ u
  only s w k r u o = (chosen (not (s.core.spoke Word.vote) && due n t B.same (Core.keep s.core w k r) r) r u o).1

  -- a record that is put out says a word
  put_word : (s : BoardState B) (x : Input ⊥ B.Bytes) (b : B.Bytes) → puts_out B s (act B s x) ≡ some b → (w : Word) × (v : C.Root) × Says A w b v
  put_word s x b = go (act B s x) (why A s x)
    where
      voted : (o : Option C.Root) (r : C.Root) → ((u : C.Root) → o ≡ some u → r ≡ u) → B.read (B.write (vote r)) ≡ some (vote r) → vote_out B o ≡ some b
          → (w : Word) × (v : C.Root) × Says A w b v
      voted none r same back q = off (cc)
      voted (some u) r same back q = let e : B.write (vote u) ≡ b = cc in (Word.vote, r, sym (ap B.read (ap (λ a. B.write (vote a)) (same u refl) ∙ e)) ∙ back)

      go : (a : Act B) → Why A s x a → puts_out B s a ≡ some b → (w : Word) × (v : C.Root) × Says A w b v
      go a Why.refused q = off (cc)
      go a (Why.taken k b₀ (send r π f) ex e kn h) q =
          let (c, wb) = chosen (C.check r s.own f π) (B.write (echo r π f)) b q in
          (Word.echo, r, (π, f, sym (ap B.read wb) ∙ A.echo_back b₀ r π f e, left (B.short f) _ (right (eqb k B.S) _ h)))
      go a (Why.taken k b₀ (echo r π f) ex e kn h) q = voted (saying A s (take k (echo r π f)) Word.vote) r (only s Word.echo k r) (A.vote_of_echo b₀ r π f e) q
      go a (Why.taken k b₀ (vote r) ex e kn h) q = voted (saying A s (take k (vote r)) Word.vote) r (only s Word.vote k r) (A.vote_back b₀ r e) q

  pub no_send : (w : Word) (b : B.Bytes) (v : C.Root) → Says A w b v → Send b → ⊥
  no_send Word.echo b v (π, f, e, sh) (u, π', f', q) = off (cc)
  no_send Word.vote b v e (u, π', f', q) = off (cc)

  echo_why : (j : ℕ) (s : BoardState B) → s.own ≡ j → (x : Input ⊥ B.Bytes) (v : C.Root) → saying A s (act B s x) Word.echo ≡ some v
      → (b : B.Bytes) × (x ≡ hand B.S b) × Send b × Fit j b v
  echo_why j s own x v = go (act B s x) (why A s x)
    where
      go : (a : Act B) → Why A s x a → saying A s a Word.echo ≡ some v → (b : B.Bytes) × (x ≡ hand B.S b) × Send b × Fit j b v
      go a Why.refused q = off (cc)
      go a (Why.taken k b (echo r π f) ex e kn h) q = off (cc)
      go a (Why.taken k b (vote r) ex e kn h) q = off (cc)
      go a (Why.taken k b (send r π f) ex e kn h) q =
          let (c, rv) = chosen (C.check r s.own f π) r v q in (
            b,
            ex ∙ ap (λ a. hand a b) (eqb→eq k B.S (left (eqb k B.S) _ h)),
            (r, π, f, e),
            (π, f, e ∙ ap (λ a. some (send a π f)) rv, left (B.short f) _ (right (eqb k B.S) _ h), rw (← rv, ← own) c),
          )

  stays : (s : BoardState B) (a : Act B) → T (s.core.spoke Word.echo) → T ((after_act B s a).core.spoke Word.echo)
  stays s refuse h = h
  stays s (take i (send r π f)) h = tt
  stays s (take i (echo r π f)) h = h
  stays s (take i (vote r)) h = h

  late_stays : (s : BoardState B) (a : Act B) → T s.out → T (after_act B s a).out
  late_stays s refuse h = h
  late_stays s (take i (send r π f)) h = h
  late_stays s (take i (echo r π f)) h = or_left s.out _ h
  late_stays s (take i (vote r)) h = or_left s.out _ h

  send_in : (j : ℕ) (s : BoardState B) → More A j s → (b : B.Bytes) (v : C.Root) → Fit j b v
      → T (after_act B s (act B s (hand B.S b))).out ⊎ T ((after_act B s (act B s (hand B.S b))).core.spoke Word.echo)
  send_in j s g b v (π, f, e, sh, ch) = elim (truth s.out) [
    | inl o ↦ inl (late_stays s (act B s (hand B.S b)) o)
    | inr no_out ↦ inr (elim (truth (s.core.spoke Word.echo)) [ inl a ↦ stays s (act B s (hand B.S b)) a | inr na ↦ subst (λ a. T ((after_act B s a).core.spoke Word.echo)) (sym (took no_out na)) tt ])
  ]
    where
      took : T (not s.out) → T (not (s.core.spoke Word.echo)) → act B s (hand B.S b) ≡ take B.S (send v π f)
      took no_out na = ap (act_on B s B.S) e ∙ pick_true (known n B.S && accepts B s B.S (send v π f)) (take B.S (send v π f)) refuse
          (both (known n B.S) _ (is_known A.sender)
          (both (eqb B.S B.S) _ (eqb_refl B.S) (both (B.short f) _ sh (both (not s.done) _ (not_T s.done (λ d. T_not s.out no_out (g.done_out d)))
          (both (not s.out) (not (s.core.spoke Word.echo)) no_out na)))))

  acquired_why : (j : ℕ) (s : BoardState B) → s.own ≡ j → (x : Input ⊥ B.Bytes) → T ((after_act B s (act B s x)).core.spoke Word.echo)
      → T (s.core.spoke Word.echo) ⊎ ((b : B.Bytes) × (x ≡ hand B.S b) × Send b × ((v : C.Root) → Fit j b v → saying A s (act B s x) Word.echo ≡ some v))
  acquired_why j s own x = go (act B s x) (why A s x)
    where
      go : (a : Act B) → Why A s x a → T ((after_act B s a).core.spoke Word.echo)
          → T (s.core.spoke Word.echo) ⊎ ((b : B.Bytes) × (x ≡ hand B.S b) × Send b × ((v : C.Root) → Fit j b v → saying A s a Word.echo ≡ some v))
      go a Why.refused h = inl h
      go a (Why.taken k b (echo r π f) ex e kn c) h = inl h
      go a (Why.taken k b (vote r) ex e kn c) h = inl h
      go a (Why.taken k b (send r π f) ex e kn c) h = inr (b, ex ∙ ap (λ a. hand a b) (eqb→eq k B.S (left (eqb k B.S) _ c)), (r, π, f, e), λ v (π', f', e', sh, ch). same v π' f' (sym e ∙ e') ch)
        where
          same : (v : C.Root) (π' : C.Path) (f' : C.Frag) → some (send r π f) ≡ some (send v π' f') → T (C.check v j f' π')
              → pick (C.check r s.own f π) (some r) none ≡ some v
          same v π' f' q ch =
              let er : r ≡ v = cc in
              let eπ : π ≡ π' = cc in
              let ef : f ≡ f' = cc in
              let c₁ : T (C.check r s.own f π) = rw (er, own, ef, eπ) ch in
              pick_true (C.check r s.own f π) (some r) none c₁ ∙ ap some er

  sends : Sends M n t C.Root (reading (has_core A r₀ f₀)) (echo_vote (has_core A r₀ f₀)) B.S
  unfolding has_core
  sends = record {
    Send = Send;
    Fit = Fit;
    late = λ s. s.out;
    fit_one = λ j b v u (π, f, e, p, q) (π', f', e', p', q'). (cc);
    put_no_send = λ {j} {s} g x k b e y. (let (w, v, h) = put_word s x b e in no_send w b v h y);
    echo_why = λ {j} {s} (g, punctual) x v. echo_why j s g.own x v;
    send_in = λ {j} {s} (g, punctual) b v. send_in j s g b v;
    acquired_why = λ {j} {s} (g, punctual) x. acquired_why j s g.own x;
    late_stays = λ {j} {s} g x. late_stays s (act B s x);
    late_why = λ {j} {s} (g, punctual) h. g.out_why h;
  }

  -- ---- fragments

  abbrev Correct : ℕ → B.Bytes → Type 0
  Correct i b = (v : C.Root) (π : C.Path) (f : C.Frag) → B.read b ≡ some (echo v π f) → T (C.check v i f π)

  usable_from : MailLaws B → (s : BoardState B) (x : Input ⊥ B.Bytes) (v : C.Root) (i : ℕ) → T (usable_naming B (after_act B s (act B s x)) v i)
      → (T (usable_naming B s v i) × ((after_act B s (act B s x)).frag i ≡ s.frag i))
      ⊎ ((π : C.Path) × C.Proper ((after_act B s (act B s x)).frag i) × T (C.check v i ((after_act B s (act B s x)).frag i) π)
      × ((y : C.Str) → C.checked v i ((after_act B s (act B s x)).frag i) π y → hashes B s x y))
  unfolding pick
  usable_from Z s x v i = go (act B s x) (why A s x)
    where
      From : (C.Str → Type 0) → Bool → C.Frag → Type 0
      From By old f = (T old × (f ≡ s.frag i)) ⊎ ((π : C.Path) × C.Proper f × T (C.check v i f π) × ((y : C.Str) → C.checked v i f π y → By y))

      go : (a : Act B) → Why A s x a → T (usable_naming B (after_act B s a) v i) → From (hashed_by B s a) (usable_naming B s v i) ((after_act B s a).frag i)
      go a Why.refused u = inl (u, refl)
      go a (Why.taken k b (send r π f) ex e kn h) u = inl (u, refl)
      go a (Why.taken k b (vote r) ex e kn h) u = inl (u, refl)
      go a (Why.taken k b (echo r π f) ex e kn h) u₀ = at (eqb i k) (eqb→eq i k) u₀
        where
          at : (c : Bool) → (T c → i ≡ k) → T (pick c (C.check r k f π) (s.usable i) && B.same (pick c r (s.core.val Word.echo i)) v)
              → From (hashed_by B s (take k (echo r π f))) (usable_naming B s v i) (pick c f (s.frag i))
          at true ei u =
              let er : r ≡ v = A.same_eq r v (right (C.check r k f π) _ u) in
              inr (π, Z.read_proper b r π f e, rw (← er, ei tt) (left (C.check r k f π) _ u), λ y c. inl (rw (er, ← ei tt) c))
          at false ei u = inl (u, refl)

  usable_in_lem : (s : BoardState B) → ((k : ℕ) → T (s.usable k) → T (s.core.set Word.echo k)) → (x : Input ⊥ B.Bytes) (v : C.Root) (i : ℕ)
      → T (named_by B.same (after_act B s (act B s x)).core Word.echo v i)
      → (T (named_by B.same s.core Word.echo v i) × (T (usable_naming B s v i) → T (usable_naming B (after_act B s (act B s x)) v i)))
      ⊎ ((b : B.Bytes) × (x ≡ hand i b) × Says A Word.echo b v × (Correct i b → T (usable_naming B (after_act B s (act B s x)) v i)))
  usable_in_lem s within x v i = go (act B s x) (why A s x)
    where
      go : (a : Act B) → Why A s x a → T (named_by B.same (after_act B s a).core Word.echo v i)
          → (T (named_by B.same s.core Word.echo v i) × (T (usable_naming B s v i) → T (usable_naming B (after_act B s a) v i)))
          ⊎ ((b : B.Bytes) × (x ≡ hand i b) × Says A Word.echo b v × (Correct i b → T (usable_naming B (after_act B s a) v i)))
      go a Why.refused u = inl (u, λ w. w)
      go a (Why.taken k b (send r π f) ex e kn h) u = inl (u, λ w. w)
      go a (Why.taken k b (vote r) ex e kn h) u = inl (u, λ w. w)
      go a (Why.taken k b (echo r π f) ex e kn h) u = elim (named_from B.same A.same_eq (s.core.set Word.echo) (s.core.val Word.echo) k true r v i u) [
        | inl o ↦ inl (
          o,
          named_stays B.same s.usable (s.core.val Word.echo) k (C.check r k f π) r v i
              (not_T (s.usable k) (λ w. T_not (s.core.set Word.echo k) (right (not s.done) _ (right (B.short f) _ h)) (within k w))),
        )
        | inr (ei, er, c) ↦ inr (
          b,
          ex ∙ ap (λ a. hand a b) (sym ei),
          (π, f, rw (← er) e, left (B.short f) _ h),
          λ so. rw (ei, ← er) (named_there B.same A.same_refl s.usable (s.core.val Word.echo) k (C.check r k f π) r (rw (← ei) (so r π f e))),
        )
      ]

  put_correct : (j : ℕ) (s : BoardState B) → s.own ≡ j → (x : Input ⊥ B.Bytes) (b : B.Bytes) → puts_out B s (act B s x) ≡ some b → Correct j b
  put_correct j s own x b = go (act B s x) (why A s x)
    where
      voted : (o : Option C.Root) (r : C.Root) → ((u : C.Root) → o ≡ some u → r ≡ u) → B.read (B.write (vote r)) ≡ some (vote r) → vote_out B o ≡ some b → Correct j b
      voted none r same back q u π f y = off (cc)
      voted (some w) r same back q u π f y =
          let e : B.write (vote r) ≡ b = ap (λ a. B.write (vote a)) (same w refl) ∙ (cc) in
          off (cc (ap B.read e))

      go : (a : Act B) → Why A s x a → puts_out B s a ≡ some b → Correct j b
      go a Why.refused q u π f y = off (cc)
      go a (Why.taken k b₀ (echo r π₀ f₀) ex e kn h) q u π f y = voted (saying A s (take k (echo r π₀ f₀)) Word.vote) r (only s Word.echo k r) (A.vote_of_echo b₀ r π₀ f₀ e) q u π f y
      go a (Why.taken k b₀ (vote r) ex e kn h) q u π f y = voted (saying A s (take k (vote r)) Word.vote) r (only s Word.vote k r) (A.vote_back b₀ r e) q u π f y
      go a (Why.taken k b₀ (send r π₀ f₀) ex e kn h) q u π f y =
          let (c, wb) = chosen (C.check r s.own f₀ π₀) (B.write (echo r π₀ f₀)) b q in
          let z : some (echo r π₀ f₀) ≡ some (echo u π f) = sym (A.echo_back b₀ r π₀ f₀ e) ∙ ap B.read wb ∙ y in
          let er : r ≡ u = cc in
          let eπ : π₀ ≡ π = cc in
          let ef : f₀ ≡ f = cc in
          rw (← er, ← own, ← ef, ← eπ) c

  -- the encoding of a message that is delivered was hashed
  fresh_hashed : CodeLaws n t C → (s : BoardState B) (v : C.Root) (m : C.Msg) (y : C.Str) → C.coded m y → result_at B s v ≡ some (some m) → fresh_in B s v y
  fresh_hashed L s v m y c e =
      let (h, q) = chosen (ends B s v) (C.result v (usable_naming B s v) s.frag) (some m) e in
      (h, L.result_fresh v (usable_naming B s v) s.frag m y q c)

  gives_hashes : CodeLaws n t C → (s : BoardState B) (m : C.Msg) (y : C.Str) → C.coded m y → (a : Act B) → give B s a ≡ some (some m) → hashed_by B s a y
  gives_hashes L s m y c refuse q = off (cc)
  gives_hashes L s m y c (take k (send r π f)) q = off (cc)
  gives_hashes L s m y c (take k (echo r π f)) q = inr (fresh_hashed L (keep_act B s (take k (echo r π f))) r m y c q)
  gives_hashes L s m y c (take k (vote r)) q = fresh_hashed L (keep_act B s (take k (vote r))) r m y c q

  pieces : CodeLaws n t C → MailLaws B → Pieces M n t C (reading (has_core A r₀ f₀)) (echo_vote (has_core A r₀ f₀)) ended
  unfolding has_core ended
  pieces L Z = record {
    usable = usable_naming B;
    frag = λ s. s.frag;
    told = λ d. d;
    Correct = Correct;
    hashes = hashes B;
    usable_start = λ j i v h. h;
    usable_from = λ {j} {s} g x v i. usable_from Z s x v i;
    usable_in_lem = λ {j} {s} (g, punctual) x v i. usable_in_lem s g.within x v i;
    put_correct = λ {j} {s} (g, punctual) x k b v e y. put_correct j s g.own x b e;
    outcome = λ s v d. (λ h. h, λ h. h);
    gives_hashes = λ {j} {s} g x m e y c. gives_hashes L s m y c (act B s x) e;
  }

  -- Demand 3: whatever is handed to the boards, in whatever order, as long as records between rule-keeping boards are genuine.
  -- m is the message of a rule-keeping sender.
  pub kept : CodeLaws n t C → MailLaws B → {keeps : ℕ → Bool} → Keepers n t keeps → (m : C.Msg) → C.Fits m
      → {r : Run M} → Fair M keeps (Mail n B.S (mail B m)) r
      → Promise M keeps B.S (Mail n B.S (mail B m)) (some m) (CollisionIn C M (hashes B) keeps B.S m r) r
  unfolding pieces sends has_core
  kept L Z K m fm f =
      promise (pieces L Z) L sends K (mail B m) mute m fm (λ j b. (C.path m j, C.piece m j, Z.send_back m j fm b, Z.piece_short m j fm b, L.path_good m j fm b)) f
    where
      mute : Mute (reading (has_core A r₀ f₀)) (Mail n B.S (mail B m))
      mute w i j ρ v (ei, b, e) y = no_send w ρ v y (C.root m, C.path m j, C.piece m j, ap B.read e ∙ Z.send_back m j fm b)
