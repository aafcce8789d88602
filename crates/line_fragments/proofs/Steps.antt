-- The step meets what the quorum facts ask.
use Prim.Native.Nat.{ℕ, ◌-◌, ◌*◌, ◌≤◌}
use native.Mathlib.Omega.{arith}
use mathlib.Core.Bool.{Bool, true, false, not, ◌&&◌}
use mathlib.Core.Path.{◌≡◌, refl, subst, sym, ◌∙◌, ap}
use mathlib.Core.Logic.{inl, inr}
use mathlib.Core.Option.{Option, some, none}
use lib.Dec.{T, T_not, eqb, leb→le, le→leb}
use Rattle.octets.specs.Bytes.{pick}
use Rattle.line.specs.Boards.{count, Board, known}
use Rattle.line.specs.Run.{Input, hand, tell}
use Rattle.line.specs.Core.{Word, Core, acquire, hear, named_by, quorum, moved, said, due}
use Rattle.line.specs.Core
use Rattle.line.proofs.Tests.{both, left, right, truth, or_cases, or_left, or_right, off, none_some, chosen, pick_true}
use Rattle.line.proofs.Counts.{count_le, is_known}
use Rattle.line.proofs.Named.{named_count}
use Rattle.line.proofs.Cores.{NotOverdue, HasCore, new_count, new_stays, quorum_why, quorum_is}
use Rattle.line_fragments.specs.Code.{Code}
use Rattle.line_fragments.specs.Step.{send, echo, vote, Line, fewest_boards, enough_by, BoardState, BoardRecord, Act, refuse, take, accepts, act_on, act, move, keep_act, usable_naming, enough_naming, opens, ends, settle, after_act, vote_out, puts_out, board}
use Rattle.line_fragments.specs.Laws.{LineLaws}

-- ---- the tests of the output stage, in numbers

module _ {n t : ℕ} {C : Code} (B : Line n t C) (s : BoardState B) (v : C.Root) where
  abbrev pub votes : ℕ
  votes = count (named_by B.same s.core Word.vote v) n

  enough_why : T (enough_naming B s v) → n - 2 * t ≤ count (usable_naming B s v) n
  unfolding enough_by
  enough_why h = omega (arith, leb→le (fewest_boards n t) (count (usable_naming B s v) n) h)

  enough_is : n - 2 * t ≤ count (usable_naming B s v) n → T (enough_naming B s v)
  unfolding enough_by
  enough_is h = le→leb (fewest_boards n t) (count (usable_naming B s v) n) (omega arith)

  opens_is : T (s.core.spoke Word.vote) → n - t ≤ votes → T (opens B s v)
  opens_is sp q = or_right s.out _ (both (s.core.spoke Word.vote) _ sp (quorum_is n t B.same s.core v q))

  pub ends_why : T (ends B s v) → T (opens B s v) × (n - t ≤ votes) × (n - 2 * t ≤ count (usable_naming B s v) n)
  ends_why h =
      let rest = right (opens B s v) _ h in
      (left (opens B s v) _ h, quorum_why n t B.same s.core v (left (quorum n t B.same s.core v) _ rest), enough_why (right (quorum n t B.same s.core v) _ rest))

  ends_is : T (opens B s v) → n - t ≤ votes → n - 2 * t ≤ count (usable_naming B s v) n → T (ends B s v)
  ends_is o q u = both (opens B s v) _ o (both (quorum n t B.same s.core v) _ (quorum_is n t B.same s.core v q) (enough_is u))

module _ {n t : ℕ} {C : Code} {B : Line n t C} (A : LineLaws B) where
  -- What holds of a board's states besides that no vote is overdue. Document 01: "usable is within echoes heard, output stage implies voted,
  -- done implies output stage", "voted before the output stage, no root has n-t votes; in the output stage and not done, one root has n-t
  -- votes and fewer than k usable echoes".
  pub record More (j : ℕ) (s : BoardState B) : Type 0 where
    pub own : s.own ≡ j
    pub within : (i : ℕ) → T (s.usable i) → T (s.core.set Word.echo i)
    pub out_voted : T s.out → T (s.core.spoke Word.vote)
    pub done_out : T s.done → T s.out
    pub out_why : T s.out → (v : C.Root) × (n - t ≤ votes B s v)
    pub out_due : (v : C.Root) → T (s.core.spoke Word.vote) → n - t ≤ votes B s v → T s.out
    pub done_due : (v : C.Root) → n - t ≤ votes B s v → n - 2 * t ≤ count (usable_naming B s v) n → T s.out → T s.done

  -- each board of the line takes this record for an echo (a vote) of v
  abbrev pub Says : Word → B.Bytes → C.Root → Type 0
  Says Word.echo b v = (π : C.Path) × (f : C.Frag) × (B.read b ≡ some (echo v π f)) × T (B.short f)
  Says Word.vote b v = B.read b ≡ some (vote v)

  -- what an act comes from
  pub data Why (s : BoardState B) (x : Input ⊥ B.Bytes) : Act B → Type 0 where
    refused : Why s x refuse
    taken : (i : ℕ) (b : B.Bytes) (ρ : BoardRecord B) → x ≡ hand i b → B.read b ≡ some ρ → T (known n i) → T (accepts B s i ρ) → Why s x (take i ρ)

  pub why : (s : BoardState B) (x : Input ⊥ B.Bytes) → Why s x (act B s x)
  unfolding pick
  why s (tell e) = absurd e
  why s (hand i b) = go (B.read b) refl
    where
      go : (o : Option (BoardRecord B)) → B.read b ≡ o → Why s (hand i b) (act_on B s i o)
      go none e = refused
      go (some ρ) e = at (known n i && accepts B s i ρ) refl
        where
          at : (c : Bool) → (known n i && accepts B s i ρ) ≡ c → Why s (hand i b) (pick c (take i ρ) refuse)
          at true q = let h : T (known n i && accepts B s i ρ) = subst T (sym q) tt in taken i b ρ refl e (left (known n i) _ h) (right (known n i) _ h)
          at false q = refused

  -- a state with something just kept for r, before the output stage and the delivery
  record Unsettled (j : ℕ) (s : BoardState B) (r : C.Root) : Type 0 where
    own : s.own ≡ j
    within : (i : ℕ) → T (s.usable i) → T (s.core.set Word.echo i)
    out_voted : T s.out → T (s.core.spoke Word.vote)
    undone : T (not s.done)
    out_why : T s.out → (v : C.Root) × (n - t ≤ votes B s v)
    out_other : (v : C.Root) → (r ≡ v → ⊥) → T (s.core.spoke Word.vote) → n - t ≤ votes B s v → T s.out
    done_other : (v : C.Root) → (r ≡ v → ⊥) → n - t ≤ votes B s v → n - 2 * t ≤ count (usable_naming B s v) n → T s.out → ⊥

  settled : (j : ℕ) (s : BoardState B) (r : C.Root) → Unsettled j s r → More j (settle B s r)
  settled j s r h = record {
    own = h.own;
    within = h.within;
    out_voted = λ o. elim (or_cases s.out _ o) [ inl a ↦ h.out_voted a | inr b ↦ left (s.core.spoke Word.vote) _ b ];
    done_out = λ d. elim (or_cases s.done _ d) [ inl a ↦ absurd (T_not s.done h.undone a) | inr b ↦ (ends_why B s r b).0 ];
    out_why = λ o. elim (or_cases s.out _ o) [ inl a ↦ h.out_why a | inr b ↦ (r, quorum_why n t B.same s.core r (right (s.core.spoke Word.vote) _ b)) ];
    out_due = λ v sp q. elim (truth (B.same r v)) [
      | inl e ↦ subst (λ a. n - t ≤ votes B s a → T (opens B s r)) (A.same_eq r v e) (opens_is B s r sp) q
      | inr ne ↦ or_left s.out _ (h.out_other v (differ v ne) sp q)
    ];
    done_due = λ v q u o. elim (truth (B.same r v)) [
      | inl e ↦ or_right s.done _ (subst (λ a. n - t ≤ votes B s a → n - 2 * t ≤ count (usable_naming B s a) n → T (ends B s r)) (A.same_eq r v e) (ends_is B s r o) q u)
      | inr ne ↦ absurd (h.done_other v (differ v ne) q u (elim (or_cases s.out _ o) [ inl a ↦ a | inr b ↦ h.out_other v (differ v ne) (left (s.core.spoke Word.vote) _ b) q ]))
    ];
  }
    where
      differ : (v : C.Root) → T (not (B.same r v)) → r ≡ v → ⊥
      differ v ne e = T_not (B.same r v) ne (subst (λ a. T (B.same r a)) e (A.same_refl r))

  -- a word heard for r leaves the votes for other roots
  fewer : (s : BoardState B) (w : Word) (i : ℕ) (r v : C.Root) → (r ≡ v → ⊥)
      → count (named_by B.same (moved n t B.same s.core (hear w i r)) Word.vote v) n ≤ votes B s v
  fewer s w i r v ne = new_count n t B.same A.same_eq A.same_refl s.core w i r Word.vote v ne

  more_votes : (s : BoardState B) (w : Word) (i : ℕ) (r v : C.Root) → T (not (s.core.set w i))
      → votes B s v ≤ count (named_by B.same (moved n t B.same s.core (hear w i r)) Word.vote v) n
  more_votes s w i r v ns = count_le (named_by B.same s.core Word.vote v) (named_by B.same (moved n t B.same s.core (hear w i r)) Word.vote v) n
      (λ k b. new_stays n t B.same A.same_eq A.same_refl s.core w i r Word.vote v k ns)

  older : (j : ℕ) (s : BoardState B) → More j s → NotOverdue n t B.same s.core → (w : Word) (i : ℕ) (r v : C.Root) → (r ≡ v → ⊥)
      → n - t ≤ count (named_by B.same (moved n t B.same s.core (hear w i r)) Word.vote v) n → T s.out
  older j s g punctual w i r v ne q = elim (truth (s.core.spoke Word.vote))
      [ inl a ↦ g.out_due v a (omega (arith, fewer s w i r v ne)) | inr b ↦ absurd (omega (arith, A.third, fewer s w i r v ne, (punctual v b).1)) ]

  pub undone : (s : BoardState B) (i : ℕ) (ρ : BoardRecord B) → T (accepts B s i ρ) → T (not s.done)
  undone s i (send r π f) h = left (not s.done) _ (right (B.short f) _ (right (eqb i B.S) _ h))
  undone s i (echo r π f) h = left (not s.done) _ (right (B.short f) _ h)
  undone s i (vote r) h = left (not s.done) _ h

  pub more_next : (j : ℕ) (s : BoardState B) → More j s → NotOverdue n t B.same s.core → (x : Input ⊥ B.Bytes) → More j (after_act B s (act B s x))
  unfolding pick
  more_next j s g punctual x = go (act B s x) (why s x)
    where
      go : (a : Act B) → Why s x a → More j (after_act B s a)
      go a refused = g
      go a (taken i b (send r π f) ex e kn h) = record {
        own = g.own;
        within = g.within;
        out_voted = g.out_voted;
        done_out = g.done_out;
        out_why = g.out_why;
        out_due = g.out_due;
        done_due = g.done_due;
      }
      go a (taken i b (echo r π f) ex e kn h) = settled j (keep_act B s (take i (echo r π f))) r (record {
        own = g.own;
        within = λ k u. wider k u (eqb k i) refl;
        out_voted = λ o. or_left (s.core.spoke Word.vote) _ (g.out_voted o);
        undone = undone s i (echo r π f) h;
        out_why = g.out_why;
        out_other = λ v ne sp q. older j s g punctual Word.echo i r v ne q;
        done_other = λ v ne q u o. T_not s.done (undone s i (echo r π f) h)
            (g.done_due v q (omega (arith, named_count B.same A.same_eq n s.usable (s.core.val Word.echo) i (C.check r i f π) r v ne)) o);
      })
        where
          wider : (k : ℕ) → T ((keep_act B s (take i (echo r π f))).usable k) → (c : Bool) → eqb k i ≡ c → T ((keep_act B s (take i (echo r π f))).core.set Word.echo k)
          wider k u true q = rw q tt
          wider k u false q = rw q (g.within k (rw q at u))
      go a (taken i b (vote r) ex e kn h) = settled j (keep_act B s (take i (vote r))) r (record {
        own = g.own;
        within = g.within;
        out_voted = λ o. or_left (s.core.spoke Word.vote) _ (g.out_voted o);
        undone = undone s i (vote r) h;
        out_why = λ o. (let (v, q) = g.out_why o in (v, omega (arith, more_votes s Word.vote i r v (right (not s.done) _ h))));
        out_other = λ v ne sp q. older j s g punctual Word.vote i r v ne q;
        done_other = λ v ne q u o. T_not s.done (undone s i (vote r) h) (g.done_due v (omega (arith, fewer s Word.vote i r v ne)) u o);
      })

  -- ---- the laws of a core

  pub core_next : (s : BoardState B) (a : Act B) → (after_act B s a).core ≡ moved n t B.same s.core (move B s a)
  core_next s refuse = refl
  core_next s (take i (send r π f)) = refl
  core_next s (take i (echo r π f)) = refl
  core_next s (take i (vote r)) = refl

  pub hear_why : (s : BoardState B) (x : Input ⊥ B.Bytes) (w : Word) (i : ℕ) (v : C.Root) → move B s (act B s x) ≡ hear w i v
      → ((b : B.Bytes) × (x ≡ hand i b) × Says w b v) × T (not (s.core.set w i))
  hear_why s x w i v = go (act B s x) (why s x)
    where
      same_move : (w₀ : Word) (k : ℕ) (r : C.Root) (b : B.Bytes) → x ≡ hand k b → Says w₀ b r → T (not (s.core.set w₀ k)) → hear w₀ k r ≡ hear w i v
          → ((b : B.Bytes) × (x ≡ hand i b) × Says w b v) × T (not (s.core.set w i))
      same_move w₀ k r b ex y ns q =
          let ew : w₀ ≡ w = cc in
          let ek : k ≡ i = cc in
          let er : r ≡ v = cc in
          ((b, ex ∙ ap (λ a. hand a b) ek, rw (← ew, ← er) y), rw (← ew, ← ek) ns)

      go : (a : Act B) → Why s x a → move B s a ≡ hear w i v → ((b : B.Bytes) × (x ≡ hand i b) × Says w b v) × T (not (s.core.set w i))
      go a refused q = off (cc)
      go a (taken k b (send r π f) ex e kn h) q = off (cc)
      go a (taken k b (echo r π f) ex e kn h) q = same_move Word.echo k r b ex (π, f, e, left (B.short f) _ h) (right (not s.done) _ (right (B.short f) _ h)) q
      go a (taken k b (vote r) ex e kn h) q = same_move Word.vote k r b ex e (right (not s.done) _ h) q

  -- a record that is accepted is taken
  pub took : (s : BoardState B) (i : ℕ) (b : B.Bytes) (ρ : BoardRecord B) → Board n i → B.read b ≡ some ρ → T (accepts B s i ρ) → act B s (hand i b) ≡ take i ρ
  took s i b ρ bd e h = ap (act_on B s i) e ∙ pick_true (known n i && accepts B s i ρ) (take i ρ) refuse (both (known n i) (accepts B s i ρ) (is_known bd) h)

  pub hear_in : (s : BoardState B) (i : ℕ) (b : B.Bytes) (w : Word) (v : C.Root) → Board n i → Says w b v → T (not s.done) → T (not (s.core.set w i))
      → move B s (act B s (hand i b)) ≡ hear w i v
  hear_in s i b w v bd = go w
    where
      go : (w : Word) → Says w b v → T (not s.done) → T (not (s.core.set w i)) → move B s (act B s (hand i b)) ≡ hear w i v
      go Word.echo (π, f, e, sh) nd ns = ap (move B s) (took s i b (echo v π f) bd e (both (B.short f) (not s.done && not (s.core.set Word.echo i)) sh (both (not s.done) (not (s.core.set Word.echo i)) nd ns)))
      go Word.vote e nd ns = ap (move B s) (took s i b (vote v) bd e (both (not s.done) (not (s.core.set Word.vote i)) nd ns))

  pub acquire_why : (s : BoardState B) (x : Input ⊥ B.Bytes) (o : Option C.Root) → move B s (act B s x) ≡ acquire o → T (not (s.core.spoke Word.echo))
  acquire_why s x o = go (act B s x) (why s x)
    where
      go : (a : Act B) → Why s x a → move B s a ≡ acquire o → T (not (s.core.spoke Word.echo))
      go a refused q = off (cc)
      go a (taken k b (send r π f) ex e kn h) q = right (not s.out) _ (right (not s.done) _ (right (B.short f) _ (right (eqb k B.S) _ h)))
      go a (taken k b (echo r π f) ex e kn h) q = off (cc)
      go a (taken k b (vote r) ex e kn h) q = off (cc)

  -- what an act says, by word
  abbrev pub saying : BoardState B → Act B → Word → Option C.Root
  saying s a w = said n t B.same s.core (move B s a) w

  -- a vote that goes out
  pub vote_back : (o : Option C.Root) (b : B.Bytes) → vote_out B o ≡ some b → (u : C.Root) × (o ≡ some u) × (B.write (vote u) ≡ b)
  vote_back none b q = off (cc)
  vote_back (some u) b q = (u, refl, (cc))

  -- the record of an act: an echo or a vote, read as it was written
  pub put_says : (s : BoardState B) (x : Input ⊥ B.Bytes) (b : B.Bytes) (w : Word) (v : C.Root) → puts_out B s (act B s x) ≡ some b → Says w b v → saying s (act B s x) w ≡ some v
  put_says s x b w v = go (act B s x) (why s x) w
    where
      voted : (w₀ : Word) (k : ℕ) (r : C.Root) → B.read (B.write (vote r)) ≡ some (vote r) → vote_out B (said n t B.same s.core (hear w₀ k r) Word.vote) ≡ some b
          → (w : Word) → Says w b v → said n t B.same s.core (hear w₀ k r) w ≡ some v
      voted w₀ k r back q w y =
          let (u, o, e) = vote_back (said n t B.same s.core (hear w₀ k r) Word.vote) b q in
          let (c, ru) = chosen (not (s.core.spoke Word.vote) && due n t B.same (Core.keep s.core w₀ k r) r) r u o in
          is w y (sym (ap B.read (ap (λ a. B.write (vote a)) ru ∙ e)) ∙ back) (o ∙ ap some (sym ru))
        where
          is : (w : Word) → Says w b v → B.read b ≡ some (vote r) → said n t B.same s.core (hear w₀ k r) Word.vote ≡ some r
              → said n t B.same s.core (hear w₀ k r) w ≡ some v
          is Word.echo (π, f, y, sh) rb o = off (cc)
          is Word.vote y rb o = let rv : r ≡ v = cc in o ∙ ap some rv

      go : (a : Act B) → Why s x a → (w : Word) → puts_out B s a ≡ some b → Says w b v → saying s a w ≡ some v
      go a refused w q y = off (cc)
      go a (taken k b₀ (echo r π f) ex e kn h) w q y = voted Word.echo k r (A.vote_of_echo b₀ r π f e) q w y
      go a (taken k b₀ (vote r) ex e kn h) w q y = voted Word.vote k r (A.vote_back b₀ r e) q w y
      go a (taken k b₀ (send r π f) ex e kn h) w q y =
          let (c, wb) = chosen (C.check r s.own f π) (B.write (echo r π f)) b q in
          is w y (sym (ap B.read wb) ∙ A.echo_back b₀ r π f e) c
        where
          is : (w : Word) → Says w b v → B.read b ≡ some (echo r π f) → T (C.check r s.own f π) → saying s (take k (send r π f)) w ≡ some v
          is Word.echo (π', f', y, sh) rb c = let rv : r ≡ v = cc in pick_true (C.check r s.own f π) (some r) none c ∙ ap some rv
          is Word.vote y rb c = off (cc)

  pub says_put : (s : BoardState B) (x : Input ⊥ B.Bytes) (w : Word) (v : C.Root) → saying s (act B s x) w ≡ some v
      → (b : B.Bytes) × (puts_out B s (act B s x) ≡ some b) × Says w b v
  says_put s x w v = go (act B s x) (why s x) w
    where
      voted : (w₀ : Word) (k : ℕ) (r : C.Root) → B.read (B.write (vote r)) ≡ some (vote r) → said n t B.same s.core (hear w₀ k r) Word.vote ≡ some v
          → (b : B.Bytes) × (vote_out B (said n t B.same s.core (hear w₀ k r) Word.vote) ≡ some b) × (B.read b ≡ some (vote v))
      voted w₀ k r back q =
          let (c, rv) = chosen (not (s.core.spoke Word.vote) && due n t B.same (Core.keep s.core w₀ k r) r) r v q in
          (B.write (vote v), ap (vote_out B) q, subst (λ a. B.read (B.write (vote a)) ≡ some (vote a)) rv back)

      go : (a : Act B) → Why s x a → (w : Word) → saying s a w ≡ some v → (b : B.Bytes) × (puts_out B s a ≡ some b) × Says w b v
      go a refused w q = none_some v q
      go a (taken k b₀ (send r π f) ex e kn h) Word.echo q =
          let (c, rv) = chosen (C.check r s.own f π) r v q in (
            B.write (echo r π f),
            pick_true (C.check r s.own f π) (some (B.write (echo r π f))) none c,
            (π, f, A.echo_back b₀ r π f e ∙ ap (λ a. some (echo a π f)) rv, left (B.short f) _ (right (eqb k B.S) _ h)),
          )
      go a (taken k b₀ (send r π f) ex e kn h) Word.vote q = none_some v q
      go a (taken k b₀ (echo r π f) ex e kn h) Word.echo q = none_some v q
      go a (taken k b₀ (echo r π f) ex e kn h) Word.vote q = voted Word.echo k r (A.vote_of_echo b₀ r π f e) q
      go a (taken k b₀ (vote r) ex e kn h) Word.echo q = none_some v q
      go a (taken k b₀ (vote r) ex e kn h) Word.vote q = voted Word.vote k r (A.vote_back b₀ r e) q

  pub done_stays : (s : BoardState B) (a : Act B) → T s.done → T (after_act B s a).done
  done_stays s refuse d = d
  done_stays s (take i (send r π f)) d = d
  done_stays s (take i (echo r π f)) d = or_left s.done _ d
  done_stays s (take i (vote r)) d = or_left s.done _ d

  pub more_start : (r₀ : ℕ → C.Root) (f₀ : ℕ → C.Frag) (j : ℕ) → More j ((board B r₀ f₀).start j)
  more_start r₀ f₀ j = record { own = refl; within = λ i h. absurd h; out_voted = λ h. h; done_out = λ h. h; out_why = λ h. absurd h; out_due = λ v h. absurd h; done_due = λ v q u h. absurd h }

  -- the step meets what echo and vote ask, by Cores.echo_vote
  unfoldable pub has_core : (r₀ : ℕ → C.Root) (f₀ : ℕ → C.Frag) → HasCore (board B r₀ f₀) n t C.Root B.same
  has_core r₀ f₀ = record {
    third = A.third;
    same_eq = A.same_eq;
    same_refl = A.same_refl;
    Says = Says;
    core = λ s. s.core;
    move = λ s x. move B s (act B s x);
    done = λ s. s.done;
    More = More;
    more_start = more_start r₀ f₀;
    more_next = λ {j} {s} g punctual x. more_next j s g punctual x;
    core_start = λ j w h. h;
    core_empty = λ j w i h. h;
    core_next = λ {j} {s} g x. core_next s (act B s x);
    hear_why = λ {j} {s} g x w i v e. hear_why s x w i v e;
    hear_in = λ {j} {s} g i b w v bd y nd ns. hear_in s i b w v bd y nd ns;
    acquire_why = λ {j} {s} g x o e. acquire_why s x o e;
    put_says = λ {j} {s} g x k b w v e y. put_says s x b w v e y;
    says_put = λ {j} {s} g x w v e k bd. says_put s x w v e;
    done_stays = λ {j} {s} g x d. done_stays s (act B s x) d;
    done_voted = λ {j} {s} g d. g.out_voted (g.done_out d);
  }
