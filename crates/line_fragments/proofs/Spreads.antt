-- What a board of n does in the run of line/proofs/Scripts, whatever hash, tree and code are. It is handed a send of the root v, then records that
-- it refuses, and then an echo and a vote of each of the boards 1 to h, all of them correct.
use Prim.Native.Nat.{ℕ, suc, ◌-◌, ◌≤◌, ◌<◌, min}
use native.Mathlib.Omega.{arith}
use native.Mathlib.Decide.{dec_lt}
use mathlib.Core.Bool.{Bool, true, false, not, ◌&&◌, ◌||◌}
use mathlib.Core.Path.{◌≡◌, refl, subst, sym, ◌∙◌, ap}
use mathlib.Core.Logic.{◌⊎◌, inl, inr}
use mathlib.Core.Option.{Option, some, none}
use borrow.Author.Tests.{le-leb, lt-leb}
use lib.Dec.{T, leb, eqb, eqb_refl}
use Rattle.octets.specs.Bytes.{pick}
use Rattle.octets.proofs.Picks.{is_true}
use Rattle.line.specs.Boards.{Board, known}
use Rattle.line.specs.Run.{Machine, hand}
use Rattle.line.specs.Core.{Word, set_at, Core, quorum, due_by, due, with_vote}
use Rattle.line.proofs.Tests.{pick_true}
use Rattle.line.proofs.Scripts.{Strays, Script, Plays}
use Rattle.line.proofs.Firsts.{up_to, first_of, up_to_next, up_to_none, first_beyond, and_false, none_enough, due_echo, said_echo, no_vote, each, cores, keep_echo, keep_vote, naming, naming_count, no_cores}
use Rattle.line.proofs.Firsts as Firsts
use Rattle.line_fragments.specs.Code.{Code}
use Rattle.line_fragments.specs.Step.{send, echo, vote, Line, fewest_boards, enough_by, BoardState, refuse, take, act_on, act, keep_act, opens, ends}
use Rattle.line_fragments.specs.Step.{settle, result_at, after_act, vote_out, puts_out, give, board}
use Rattle.line_fragments.specs.Laws.{LineLaws}
use Rattle.line_fragments.proofs.Steps.{took}

-- ---- correct fragments, and the script

-- fragments and paths that are correct under the root v
pub record Correct {n t : ℕ} {C : Code} (B : Line n t C) (v : C.Root) (f : ℕ → C.Frag) (π : ℕ → C.Path) : Type 0 where
  pub check : (i : ℕ) → Board n i → C.check v i (f i) (π i) ≡ true
  pub short : (i : ℕ) → Board n i → B.short (f i) ≡ true
  pub read : (i : ℕ) → Board n i → B.read (B.write (send v (π i) (f i))) ≡ some (send v (π i) (f i))

-- the boards 1 to h spread them, after the records of strays
abbrev pub script_of : {n t : ℕ} {C : Code} (B : Line n t C) → C.Root → (ℕ → C.Frag) → (ℕ → C.Path) → Strays B.Bytes → ℕ → Script B.Bytes
script_of B v f π strays h = record {
  S = B.S;
  mail = λ j. B.write (send v (π j) (f j));
  strays = strays;
  speakers = h;
  echo = λ i. B.write (echo v (π i) (f i));
  vote = B.write (vote v);
}

and_twice : (c : Bool) → (c && (c && true)) ≡ c
and_twice true = refl
and_twice false = refl

-- n - t is not 0
pub none_yet : {n t : ℕ} {C : Code} {B : Line n t C} → LineLaws B → leb (n - t) 0 ≡ false
none_yet {n} {t} A = none_enough n t A.third

module _ {n t : ℕ} {C : Code} {B : Line n t C} (A : LineLaws B) (r₀ : ℕ → C.Root) (f₀ : ℕ → C.Frag) {v : C.Root} {f : ℕ → C.Frag} {π : ℕ → C.Path}
    (G : Correct B v f π) where
  abbrev M : Machine
  M = board B r₀ f₀

  -- ---- the states of board j

  -- the echoes of the boards 1 to a and the votes of the boards 1 to b are kept; said: whether the board itself has voted
  abbrev kept : ℕ → ℕ → Bool → Core C.Root
  kept = cores (λ k. v) v r₀

  abbrev states : ℕ → ℕ → ℕ → Bool → Bool → Bool → BoardState B
  states j a b said out done = record { own = j; core = kept a b said; usable = first_of a; frag = up_to a f f₀; out = out; done = done }

  -- board j after a echoes and b votes: n - t echoes brought its vote, n - t votes its delivery
  abbrev pub state_at : ℕ → ℕ → ℕ → BoardState B
  state_at j a b = states j a b (leb (n - t) a) (leb (n - t) b) (leb (n - t) b)

  same_v : B.same v v ≡ true
  same_v = is_true (B.same v v) (A.same_refl v)

  -- ---- the vote, the output stage and the delivery, in numbers

  module _ (j a b : ℕ) (said out : Bool) where
    -- with an echo or a vote just kept
    abbrev keeping : BoardState B
    keeping = record { own = j; core = with_vote n t B.same (kept a b said) v; usable = first_of a; frag = up_to a f f₀; out = out; done = out }

    abbrev said_now : Bool
    said_now = said || due_by n t a b

    abbrev out_now : Bool
    out_now = out || (said_now && leb (n - t) b)

    abbrev ends_now : Bool
    ends_now = out_now && (leb (n - t) b && enough_by n t a)

    module _ (la : a ≤ n) (lb : b ≤ n) where
      due_is : due n t B.same (kept a b said) v ≡ due_by n t a b
      due_is = Firsts.due_is B.same v r₀ (λ k. v) n t a b said lb same_v la (λ k c. same_v)

      quorum_is : quorum n t B.same (kept a b said) v ≡ leb (n - t) b
      quorum_is = Firsts.quorum_is B.same v r₀ (λ k. v) n t a b said lb same_v

      opens_is : opens B keeping v ≡ out_now
      opens_is = λ x. out || ((said || due_is x) && quorum_is x)

      ends_is : ends B keeping v ≡ ends_now
      ends_is = λ x. opens_is x && (quorum_is x && enough_by n t (naming_count B.same v r₀ (λ k. v) a n la (λ k c. same_v) x))

      settled : settle B keeping v ≡ states j a b said_now out_now (out || ends_now)
      settled = λ x. record {
        own = j;
        core = record { spoke = λ w. speaks w x; set = (kept a b said).set; val = (kept a b said).val };
        usable = first_of a;
        frag = up_to a f f₀;
        out = opens_is x;
        done = out || ends_is x;
      }
        where
          speaks : (w : Word) → keeping.core.spoke w ≡ each true said_now w
          speaks Word.echo = refl
          speaks Word.vote = λ x. said || due_is x

      -- what is delivered then
      result_is : result_at B keeping v ≡ pick ends_now (some (C.result v (known a) (up_to a f f₀))) none
      result_is = λ x. pick (ends_is x) (some (C.result v (λ k. naming B.same v r₀ (λ k. v) a k (λ k c. same_v) x) (up_to a f f₀))) none

  -- ---- one record after the other

  abbrev m : ℕ → B.Bytes
  m j = B.write (send v (π j) (f j))

  abbrev e : ℕ → B.Bytes
  e i = B.write (echo v (π i) (f i))

  abbrev w : B.Bytes
  w = B.write (vote v)

  acquired : (j : ℕ) → Board n j → act B (M.start j) (hand B.S (m j)) ≡ take B.S (send v (π j) (f j))
  acquired j b = took A (M.start j) B.S (m j) (send v (π j) (f j)) A.sender (G.read j b)
      (rw (is_true (eqb B.S B.S) (eqb_refl B.S), G.short j b) tt)

  echo_read : (i : ℕ) → Board n i → B.read (e i) ≡ some (echo v (π i) (f i))
  echo_read i b = A.echo_back (m i) v (π i) (f i) (G.read i b)

  vote_read : B.read w ≡ some (vote v)
  vote_read = A.vote_of_echo (e B.S) v (π B.S) (f B.S) (echo_read B.S A.sender)

  -- what is read as neither is neither of them
  pub not_said : (i : ℕ) → Board n i → (ρ : B.Bytes) → (B.read ρ ≡ some (echo v (π i) (f i)) → ⊥) → (B.read ρ ≡ some (vote v) → ⊥) → (ρ ≡ e i) ⊎ (ρ ≡ w) → ⊥
  not_said i b ρ no_echo no_vote (inl q) = no_echo (ap B.read q ∙ echo_read i b)
  not_said i b ρ no_echo no_vote (inr q) = no_vote (ap B.read q ∙ vote_read)

  mail_next : (j : ℕ) → Board n j → M.next (M.start j) (hand B.S (m j)) ≡ state_at j 0 0
  mail_next j b = ap (after_act B (M.start j)) (acquired j b) ∙ (λ x. record {
    own = j;
    core = no_cores (λ k. v) v r₀ (leb (n - t) 0) (none_yet A) x;
    usable = λ k. up_to_none (λ k. true) (λ k. false) k x;
    frag = λ k. up_to_none f f₀ k x;
    out = sym (none_yet A) x;
    done = sym (none_yet A) x;
  })

  mail_puts : (j k : ℕ) → Board n j → M.puts (M.start j) (hand B.S (m j)) k ≡ some (e j)
  mail_puts j k b = ap (puts_out B (M.start j)) (acquired j b) ∙ pick_true (C.check v j (f j) (π j)) (some (e j)) none (subst T (sym (G.check j b)) tt)

  -- echo a + 1
  module _ (j a : ℕ) (next : Board n (suc a)) where
    heard : act B (state_at j a 0) (hand (suc a) (e (suc a))) ≡ take (suc a) (echo v (π (suc a)) (f (suc a)))
    heard = took A (state_at j a 0) (suc a) (e (suc a)) (echo v (π (suc a)) (f (suc a))) next (echo_read (suc a) next)
        (rw (G.short (suc a) next, none_yet A, first_beyond a) tt)

    echo_kept : keep_act B (state_at j a 0) (take (suc a) (echo v (π (suc a)) (f (suc a)))) ≡ keeping j (suc a) 0 (leb (n - t) a) (leb (n - t) 0)
    echo_kept = λ x. record {
      own = j;
      core = with_vote n t B.same (keep_echo (λ k. v) v r₀ a 0 (leb (n - t) a) x) v;
      usable = λ k. is_usable k x;
      frag = λ k. up_to_next a f f₀ k x;
      out = leb (n - t) 0;
      done = leb (n - t) 0;
    }
      where
        is_usable : (k : ℕ) → set_at (first_of a) (suc a) (C.check v (suc a) (f (suc a)) (π (suc a))) k ≡ first_of (suc a) k
        is_usable k = ap (λ (c : Bool). set_at (first_of a) (suc a) c k) (G.check (suc a) next) ∙ up_to_next a (λ k. true) (λ k. false) k

    echo_next : M.next (state_at j a 0) (hand (suc a) (e (suc a))) ≡ state_at j (suc a) 0
    echo_next =
        ap (after_act B (state_at j a 0)) heard ∙ ap (λ s. settle B s v) echo_kept
        ∙ settled j (suc a) 0 (leb (n - t) a) (leb (n - t) 0) next.high (omega arith) ∙ (λ x. states j (suc a) 0 (said_echo n t A.third a x) (no_output x) (no_end x))
      where
        no_output : out_now j (suc a) 0 (leb (n - t) a) (leb (n - t) 0) ≡ leb (n - t) 0
        no_output = rw (none_yet A) (and_false (leb (n - t) a || due_by n t (suc a) 0))

        no_end : (leb (n - t) 0 || ends_now j (suc a) 0 (leb (n - t) a) (leb (n - t) 0)) ≡ leb (n - t) 0
        no_end = rw (none_yet A) (and_false ((leb (n - t) a || due_by n t (suc a) 0) && false))

    echo_puts : (k : ℕ) → M.puts (state_at j a 0) (hand (suc a) (e (suc a))) k ≡ vote_out B (pick (not (leb (n - t) a) && leb (n - t) (suc a)) (some v) none)
    echo_puts k =
        ap (puts_out B (state_at j a 0)) heard
        ∙ (λ x. vote_out B (pick (not (leb (n - t) a) && due n t B.same (keep_echo (λ k. v) v r₀ a 0 (leb (n - t) a) x) v) (some v) none))
        ∙ (λ x. vote_out B (pick (not (leb (n - t) a) && (due_is j (suc a) 0 (leb (n - t) a) false next.high (omega arith) ∙ due_echo n t A.third a) x) (some v) none))

  -- vote b + 1, once the boards 1 to h have echoed
  module _ (h : ℕ) (few : n - t ≤ h) (most : h ≤ n) (j b : ℕ) where
    module _ (next : suc b ≤ n - t) where
      counted : act B (state_at j h b) (hand (suc b) w) ≡ take (suc b) (vote v)
      counted = took A (state_at j h b) (suc b) w (vote v) (record { low = omega arith; high = omega arith }) vote_read
          (rw (lt-leb (n - t) b next, first_beyond b) tt)

      vote_kept : keep_act B (state_at j h b) (take (suc b) (vote v)) ≡ keeping j h (suc b) (leb (n - t) h) (leb (n - t) b)
      vote_kept = λ x. record {
        own = j;
        core = with_vote n t B.same (keep_vote (λ k. v) v r₀ h b (leb (n - t) h) x) v;
        usable = first_of h;
        frag = up_to h f f₀;
        out = leb (n - t) b;
        done = leb (n - t) b;
      }

      has_voted : leb (n - t) h ≡ true
      has_voted = le-leb (n - t) h few

      not_over : leb (n - t) b ≡ false
      not_over = lt-leb (n - t) b next

      ends_vote : ends_now j h (suc b) (leb (n - t) h) (leb (n - t) b) ≡ leb (n - t) (suc b)
      unfolding enough_by
      ends_vote = rw (has_voted, not_over, le-leb (fewest_boards n t) h (omega arith)) (and_twice (leb (n - t) (suc b)))

      vote_next : M.next (state_at j h b) (hand (suc b) w) ≡ state_at j h (suc b)
      vote_next =
          ap (after_act B (state_at j h b)) counted ∙ ap (λ s. settle B s v) vote_kept
          ∙ settled j h (suc b) (leb (n - t) h) (leb (n - t) b) most (omega arith) ∙ (λ x. states j h (suc b) (still_said x) (output x) (end x))
        where
          still_said : said_now j h (suc b) (leb (n - t) h) (leb (n - t) b) ≡ leb (n - t) h
          still_said = rw has_voted

          output : out_now j h (suc b) (leb (n - t) h) (leb (n - t) b) ≡ leb (n - t) (suc b)
          output = rw (has_voted, not_over)

          end : (leb (n - t) b || ends_now j h (suc b) (leb (n - t) h) (leb (n - t) b)) ≡ leb (n - t) (suc b)
          end = ap (λ (c : Bool). c || ends_now j h (suc b) (leb (n - t) h) (leb (n - t) b)) not_over ∙ ends_vote

      vote_puts : (k : ℕ) → M.puts (state_at j h b) (hand (suc b) w) k ≡ none
      unfolding pick
      vote_puts k = ap (puts_out B (state_at j h b)) counted ∙ rw has_voted

      vote_gives : suc b ≡ n - t → M.gives (state_at j h b) (hand (suc b) w) ≡ some (C.result v (known h) (up_to h f f₀))
      vote_gives last =
          ap (give B (state_at j h b)) counted ∙ ap (λ s. result_at B s v) vote_kept
          ∙ result_is j h (suc b) (leb (n - t) h) (leb (n - t) b) most (omega arith)
          ∙ pick_true (ends_now j h (suc b) (leb (n - t) h) (leb (n - t) b)) (some (C.result v (known h) (up_to h f f₀))) none
          (subst T (sym (ends_vote ∙ le-leb (n - t) (suc b) (omega arith))) tt)

    -- a board that has delivered refuses every vote
    done_refuses : n - t ≤ b → (i : ℕ) → act B (state_at j h b) (hand i w) ≡ refuse
    unfolding pick
    done_refuses over i = ap (act_on B (state_at j h b) i) vote_read ∙ rw (le-leb (n - t) b over, and_false (known n i))

  -- ---- the whole script

  -- every board that has taken its send refuses them
  abbrev pub Refused : Strays B.Bytes → Type 0
  Refused X = (j k : ℕ) → Board n j → Board X.rounds k → act B (state_at j 0 0) (hand (X.from k) (X.stray k j)) ≡ refuse

  module _ (X : Strays B.Bytes) (refused : Refused X) (h : ℕ) (few : n - t ≤ h) (most : h ≤ n) where
    board_next : (i : ℕ) → i < h → Board n (suc i)
    board_next i l = record { low = omega arith; high = omega arith }

    -- after i votes
    abbrev votes_at : ℕ → ℕ → BoardState B
    votes_at j i = state_at j h (min i (n - t))

    within : (i : ℕ) → i ≤ n - t → min i (n - t) ≡ i
    within i l = omega arith

    beyond : (i : ℕ) → n - t ≤ i → min i (n - t) ≡ n - t
    beyond i l = omega arith

    votes_next : (j i : ℕ) → M.next (votes_at j i) (hand (suc i) w) ≡ votes_at j (suc i)
    votes_next j i = elim (dec_lt i (n - t)) [
      | yes l ↦ rw (within i (omega arith), within (suc i) l) (vote_next h few most j i l)
      | no l ↦ rw (beyond i (omega arith), beyond (suc i) (omega arith))
          (ap (after_act B (state_at j h (n - t))) (done_refuses h few most j (n - t) (omega arith) (suc i)))
    ]

    votes_puts : (j i k : ℕ) → M.puts (votes_at j i) (hand (suc i) w) k ≡ none
    votes_puts j i k = elim (dec_lt i (n - t)) [
      | yes l ↦ rw (within i (omega arith)) (vote_puts h few most j i l k)
      | no l ↦ rw (beyond i (omega arith)) (ap (puts_out B (state_at j h (n - t))) (done_refuses h few most j (n - t) (omega arith) (suc i)))
    ]

    -- n - t echoes bring the vote, and n - t votes the delivery
    pub plays : (d : Option C.Msg) → C.result v (known h) (up_to h f f₀) ≡ d
        → Plays M n (script_of B v f π X h) (n - t - 1) (λ j i. state_at j i 0) votes_at d
    unfolding pick
    plays d is =
        let third = A.third in
        let last : suc (n - t - 1) ≡ n - t = omega arith in
        record {
          speakers_few = most;
          quorum_few = omega arith;
          mail_next = mail_next;
          mail_puts = mail_puts;
          stray_next = λ j k b c. ap (after_act B (state_at j 0 0)) (refused j k b c);
          stray_puts = λ j k a b c. ap (puts_out B (state_at j 0 0)) (refused j k b c);
          echo_next = λ j i b l. echo_next j i (board_next i l);
          echo_puts = λ j i a b l ne. echo_puts j i (board_next i l) a ∙ rw (no_vote n t third i ne);
          echo_votes = λ j a b. echo_puts j (n - t - 1) (board_next (n - t - 1) (omega arith)) a
              ∙ rw (lt-leb (n - t) (n - t - 1) (omega arith), le-leb (n - t) (suc (n - t - 1)) (omega arith));
          echo_last = λ j b. ap (state_at j h) (sym (within 0 (omega arith)));
          vote_next = λ j i b l. votes_next j i;
          vote_puts = λ j i a b l. votes_puts j i a;
          vote_gives = λ j b. rw (within (n - t - 1) (omega arith)) (vote_gives h few most j (n - t - 1) (omega arith) last ∙ ap some is);
        }
