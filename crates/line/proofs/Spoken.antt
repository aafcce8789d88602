-- What a board of plain values does in the run of Scripts. Board j is handed a send of u j, then records that it refuses, and then each of the boards 1 to
-- h echoes what it was sent and votes for v, which the first n - t were sent.
use Prim.Native.Nat.{ℕ, suc, ◌-◌, ◌≤◌, ◌<◌, min}
use native.Mathlib.Omega.{arith}
use native.Mathlib.Decide.{dec_lt}
use mathlib.Core.Bool.{Bool, true, false, not, ◌&&◌, ◌||◌}
use mathlib.Core.Path.{◌≡◌, refl, subst, sym, ◌∙◌, ap}
use mathlib.Core.Option.{some, none}
use borrow.Author.Tests.{le-leb, lt-leb}
use lib.Dec.{leb, eqb, eqb_refl}
use Rattle.octets.specs.Bytes.{pick}
use Rattle.octets.proofs.Picks.{is_true, or_false}
use Rattle.line.specs.Boards.{Board, known}
use Rattle.line.specs.Run.{Machine, In, hand}
use Rattle.line.specs.Core.{Word, echo, vote, Core, still, acquire, hear, set_word, keep, due, quorum, with_vote, moved}
use Rattle.line.specs.Plain.{Simple, simple, given, full, written_by}
use Rattle.line.specs.Notice.{send, say, Form, takes, answers, notice}
use Rattle.line.proofs.Counts.{is_known}
use Rattle.line.proofs.Scripts.{Strays, Script, Plays}
use Rattle.line.proofs.Notices.{FormLaws}
use Rattle.line.proofs.Firsts.{first_beyond, and_false, none_enough, said_echo, due_echo, no_vote, each, cores, no_cores, keep_echo, keep_vote}
use Rattle.line.proofs.Firsts.{due_is, quorum_is, no_quorum}

-- the boards 1 to h speak, after the records of strays
abbrev pub script_for : {n : ℕ} {Val : Type 0} (B : Form n Val) → (ℕ → Val) → Val → Strays B.Bytes → ℕ → Script B.Bytes
script_for B u v strays h = record {
  S = B.S;
  mail = λ j. B.write (send (u j));
  strays = strays;
  speakers = h;
  echo = λ i. B.write (say echo (u i));
  vote = B.write (say vote v);
}

-- ---- a word is kept

module _ (n t : ℕ) {Val : Type 0} (same : Val → Val → Bool) (B : Form n Val) (r : ℕ → Val) where
  abbrev board : Machine
  board = simple n t same (notice B) r

  -- nothing is
  still_next : (s : Simple Val) (x : In board) → answers B s x ≡ still → board.next s x ≡ s
  still_next s x e = rw e (λ y. record { core = s.core; done = or_false s.done y })

  still_puts : (s : Simple Val) (x : In board) (k : ℕ) → answers B s x ≡ still → board.puts s x k ≡ none
  still_puts s x k e = rw e

  -- the core c before it, c' with it
  module _ (c c' : Core Val) (d : Bool) (w : Word) (i : ℕ) (v : Val) (x : In board) (move : answers B (record { core = c; done = d }) x ≡ hear w i v)
      (kept : keep c w i v ≡ c') (voted won : Bool) (voted_is : (c'.spoke vote || due n t same c' v) ≡ voted) (won_is : quorum n t same c' v ≡ won) where
    full_is : full n t same (notice B) (moved n t same c (hear w i v)) v ≡ (voted && won)
    full_is = ap (λ (a : Core Val). full n t same (notice B) (with_vote n t same a v) v) kept ∙ (λ y. voted_is y && won_is y)

    given_is : (e : Bool) → given (pick e (some v) none) ≡ e
    unfolding pick
    given_is true = refl
    given_is false = refl

    hear_next : board.next (record { core = c; done = d }) x
        ≡ record { core = record { spoke = set_word c'.spoke vote voted; set = c'.set; val = c'.val }; done = d || (voted && won) }
    hear_next = rw move (λ y. record {
      core = (ap (λ (a : Core Val). with_vote n t same a v) kept ∙ (λ z. record { spoke = set_word c'.spoke vote (voted_is z); set = c'.set; val = c'.val })) y;
      done = d || (given_is (full n t same (notice B) (moved n t same c (hear w i v)) v) ∙ full_is) y;
    })

    hear_puts : (k : ℕ) → board.puts (record { core = c; done = d }) x k
        ≡ written_by n t same (notice B) none (pick (not (c.spoke vote) && due n t same c' v) (some v) none)
    hear_puts k = rw move (λ y. written_by n t same (notice B) none (pick (not (c.spoke vote) && due n t same (kept y) v) (some v) none))

    hear_gives : board.gives (record { core = c; done = d }) x ≡ pick (voted && won) (some v) none
    hear_gives = rw move (λ y. pick (full_is y) (some v) none)

module _ {n t : ℕ} {Val : Type 0} {same : Val → Val → Bool} {B : Form n Val} (A : FormLaws n t same B) (r u : ℕ → Val) (v : Val)
    (fits : (j : ℕ) → B.read (B.write (send (u j))) ≡ some (send (u j))) (first : (j : ℕ) → j ≤ n - t → u j ≡ v) where
  abbrev M : Machine
  M = simple n t same (notice B) r

  -- the echoes of the boards 1 to a and the votes of the boards 1 to b are kept
  abbrev states : ℕ → ℕ → Bool → Bool → Simple Val
  states a b voted done = record { core = cores u v r a b voted; done = done }

  -- n - t echoes brought the vote, n - t votes the delivery
  abbrev pub spoken_at : ℕ → ℕ → Simple Val
  spoken_at a b = states a b (leb (n - t) a) (leb (n - t) b)

  same_v : same v v ≡ true
  same_v = is_true (same v v) (A.same_refl v)

  speaks : (s voted : Bool) → set_word (each true s) vote voted ≡ each true voted
  speaks s voted = λ y w. go w y
    where
      go : (w : Word) → set_word (each true s) vote voted w ≡ each true voted w
      go echo = refl
      go vote = refl

  abbrev e : ℕ → B.Bytes
  e i = B.write (say echo (u i))

  abbrev w : B.Bytes
  w = B.write (say vote v)

  echo_read : (i : ℕ) → B.read (e i) ≡ some (say echo (u i))
  echo_read i = A.echo_back (B.write (send (u i))) (u i) (fits i)

  vote_read : B.read w ≡ some (say vote v)
  vote_read =
      subst (λ x. B.read (B.write (say vote x)) ≡ some (say vote x)) (first 0 (omega arith)) (A.vote_back (e 0) echo (u 0) (echo_read 0))

  -- ---- the sender's record

  acquired : (j : ℕ) → answers B (M.start j) (hand B.S (B.write (send (u j)))) ≡ acquire (some (u j))
  unfolding pick
  acquired j = ap (takes B (M.start j) B.S) (fits j) ∙ rw (is_true (known n B.S) (is_known A.sender), is_true (eqb B.S B.S) (eqb_refl B.S))

  mail_next : (j : ℕ) → M.next (M.start j) (hand B.S (B.write (send (u j)))) ≡ spoken_at 0 0
  mail_next j = rw (acquired j) (λ y. record {
    core = no_cores u v r (leb (n - t) 0) (none_enough n t A.third) y;
    done = sym (none_enough n t A.third) y;
  })

  mail_puts : (j k : ℕ) → M.puts (M.start j) (hand B.S (B.write (send (u j)))) k ≡ some (e j)
  mail_puts j k = rw (acquired j)

  -- ---- echo a + 1

  module _ (a : ℕ) (next : Board n (suc a)) where
    abbrev s : Bool
    s = leb (n - t) a

    heard : answers B (spoken_at a 0) (hand (suc a) (e (suc a))) ≡ hear echo (suc a) (u (suc a))
    unfolding pick
    heard = ap (takes B (spoken_at a 0) (suc a)) (echo_read (suc a)) ∙ rw (is_true (known n (suc a)) (is_known next), none_enough n t A.third, first_beyond a)

    abbrev is_due : Bool
    is_due = due n t same (cores u v r (suc a) 0 s) (u (suc a))

    -- of the first n - t boards, one echo for v more; the board has voted before the others'
    due_early : suc a ≤ n - t → is_due ≡ leb (n - t) (suc a)
    due_early l = rw (first (suc a) l)
        (due_is same v r u n t (suc a) 0 s (omega arith) same_v next.high (λ k c. rw (first k (let z : k ≤ n - t = omega (arith, c.high) in z)) same_v)
        ∙ due_echo n t A.third a)

    voted_is : (s || is_due) ≡ leb (n - t) (suc a)
    voted_is = elim (dec_lt a (n - t)) [
      | yes l ↦ ap (λ (c : Bool). s || c) (due_early l ∙ sym (due_echo n t A.third a)) ∙ said_echo n t A.third a
      | no l ↦ rw (le-leb (n - t) a (omega arith), le-leb (n - t) (suc a) (omega arith))
    ]

    votes_is : (not s && is_due) ≡ (not s && leb (n - t) (suc a))
    votes_is = elim (dec_lt a (n - t)) [ yes l ↦ ap (λ (c : Bool). not s && c) (due_early l) | no l ↦ rw (le-leb (n - t) a (omega arith)) ]

    no_end : (leb (n - t) 0 || (leb (n - t) (suc a) && leb (n - t) 0)) ≡ leb (n - t) 0
    no_end = rw (none_enough n t A.third) (and_false (leb (n - t) (suc a)))

    echo_next : M.next (spoken_at a 0) (hand (suc a) (e (suc a))) ≡ spoken_at (suc a) 0
    echo_next =
        hear_next n t same B r (cores u v r a 0 s) (cores u v r (suc a) 0 s) (leb (n - t) 0) echo (suc a) (u (suc a)) (hand (suc a) (e (suc a))) heard
        (keep_echo u v r a 0 s) (leb (n - t) (suc a)) (leb (n - t) 0) voted_is (no_quorum same n t u v r (suc a) s (u (suc a)))
        ∙ (λ y. record {
          core = record { spoke = speaks s (leb (n - t) (suc a)) y; set = (cores u v r (suc a) 0 s).set; val = (cores u v r (suc a) 0 s).val };
          done = no_end y;
        })

    echo_puts : (k : ℕ) → M.puts (spoken_at a 0) (hand (suc a) (e (suc a))) k
        ≡ written_by n t same (notice B) none (pick (not s && leb (n - t) (suc a)) (some (u (suc a))) none)
    echo_puts k =
        hear_puts n t same B r (cores u v r a 0 s) (cores u v r (suc a) 0 s) (leb (n - t) 0) echo (suc a) (u (suc a)) (hand (suc a) (e (suc a))) heard
        (keep_echo u v r a 0 s) (leb (n - t) (suc a)) (leb (n - t) 0) voted_is (no_quorum same n t u v r (suc a) s (u (suc a))) k
        ∙ (λ y. written_by n t same (notice B) none (pick (votes_is y) (some (u (suc a))) none))

  -- ---- vote b + 1, once the boards 1 to h have echoed

  module _ (h : ℕ) (few : n - t ≤ h) (most : h ≤ n) where
    has_voted : leb (n - t) h ≡ true
    has_voted = le-leb (n - t) h few

    module _ (b : ℕ) (next : suc b ≤ n - t) where
      not_over : leb (n - t) b ≡ false
      not_over = lt-leb (n - t) b next

      counted : answers B (spoken_at h b) (hand (suc b) w) ≡ hear vote (suc b) v
      unfolding pick
      counted = ap (takes B (spoken_at h b) (suc b)) vote_read
          ∙ rw (is_true (known n (suc b)) (is_known (let c : Board n (suc b) = record { low = omega arith; high = omega arith } in c)), not_over, first_beyond b)

      still_voted : (leb (n - t) h || due n t same (cores u v r h (suc b) (leb (n - t) h)) v) ≡ leb (n - t) h
      still_voted = rw has_voted

      won_is : quorum n t same (cores u v r h (suc b) (leb (n - t) h)) v ≡ leb (n - t) (suc b)
      won_is = quorum_is same v r u n t h (suc b) (leb (n - t) h) (omega arith) same_v

      vote_next : M.next (spoken_at h b) (hand (suc b) w) ≡ spoken_at h (suc b)
      vote_next =
          hear_next n t same B r (cores u v r h b (leb (n - t) h)) (cores u v r h (suc b) (leb (n - t) h)) (leb (n - t) b) vote (suc b) v (hand (suc b) w) counted
          (keep_vote u v r h b (leb (n - t) h)) (leb (n - t) h) (leb (n - t) (suc b)) still_voted won_is
          ∙ (λ y. record {
            core = record { spoke = speaks (leb (n - t) h) (leb (n - t) h) y; set = (cores u v r h (suc b) true).set; val = (cores u v r h (suc b) true).val };
            done = end y;
          })
        where
          end : (leb (n - t) b || (leb (n - t) h && leb (n - t) (suc b))) ≡ leb (n - t) (suc b)
          end = rw (not_over, has_voted)

      vote_puts : (k : ℕ) → M.puts (spoken_at h b) (hand (suc b) w) k ≡ none
      unfolding pick
      vote_puts k =
          hear_puts n t same B r (cores u v r h b (leb (n - t) h)) (cores u v r h (suc b) (leb (n - t) h)) (leb (n - t) b) vote (suc b) v (hand (suc b) w) counted
          (keep_vote u v r h b (leb (n - t) h)) (leb (n - t) h) (leb (n - t) (suc b)) still_voted won_is k
          ∙ rw has_voted

      vote_gives : suc b ≡ n - t → M.gives (spoken_at h b) (hand (suc b) w) ≡ some v
      unfolding pick
      vote_gives last =
          hear_gives n t same B r (cores u v r h b (leb (n - t) h)) (cores u v r h (suc b) (leb (n - t) h)) (leb (n - t) b) vote (suc b) v (hand (suc b) w) counted
          (keep_vote u v r h b (leb (n - t) h)) (leb (n - t) h) (leb (n - t) (suc b)) still_voted won_is
          ∙ rw (has_voted, le-leb (n - t) (suc b) (omega arith))

    -- a board that has delivered refuses every vote
    done_refuses : (b : ℕ) → n - t ≤ b → (i : ℕ) → answers B (spoken_at h b) (hand i w) ≡ still
    unfolding pick
    done_refuses b over i = ap (takes B (spoken_at h b) i) vote_read ∙ rw (le-leb (n - t) b over, and_false (known n i))

    -- ---- the whole script

    -- after i votes
    abbrev votes_at : ℕ → Simple Val
    votes_at i = spoken_at h (min i (n - t))

    within : (i : ℕ) → i ≤ n - t → min i (n - t) ≡ i
    within i l = omega arith

    beyond : (i : ℕ) → n - t ≤ i → min i (n - t) ≡ n - t
    beyond i l = omega arith

    votes_next : (i : ℕ) → M.next (votes_at i) (hand (suc i) w) ≡ votes_at (suc i)
    votes_next i = elim (dec_lt i (n - t)) [
      | yes l ↦ rw (within i (omega arith), within (suc i) l) (vote_next i l)
      | no l ↦ rw (beyond i (omega arith), beyond (suc i) (omega arith))
          (still_next n t same B r (spoken_at h (n - t)) (hand (suc i) w) (done_refuses (n - t) (omega arith) (suc i)))
    ]

    votes_puts : (i k : ℕ) → M.puts (votes_at i) (hand (suc i) w) k ≡ none
    votes_puts i k = elim (dec_lt i (n - t)) [
      | yes l ↦ rw (within i (omega arith)) (vote_puts i l k)
      | no l ↦ rw (beyond i (omega arith)) (still_puts n t same B r (spoken_at h (n - t)) (hand (suc i) w) k (done_refuses (n - t) (omega arith) (suc i)))
    ]

    board_next : (i : ℕ) → i < h → Board n (suc i)
    board_next i l = record { low = omega arith; high = omega arith }

    -- n - t echoes bring the vote, and n - t votes the delivery; every board that has taken its send refuses the strays
    pub spoken_plays : (X : Strays B.Bytes) → ((j k : ℕ) → Board n j → Board X.rounds k → answers B (spoken_at 0 0) (hand (X.from k) (X.stray k j)) ≡ still)
        → Plays M n (script_for B u v X h) (n - t - 1) (λ j i. spoken_at i 0) (λ j i. votes_at i) v
    unfolding pick
    spoken_plays X refused =
        let third = A.third in
        let last : suc (n - t - 1) ≡ n - t = omega arith in
        record {
          speakers_few = most;
          quorum_few = omega arith;
          mail_next = λ j b. mail_next j;
          mail_puts = λ j a b. mail_puts j a;
          stray_next = λ j k b c. still_next n t same B r (spoken_at 0 0) (hand (X.from k) (X.stray k j)) (refused j k b c);
          stray_puts = λ j k a b c. still_puts n t same B r (spoken_at 0 0) (hand (X.from k) (X.stray k j)) a (refused j k b c);
          echo_next = λ j i b l. echo_next i (board_next i l);
          echo_puts = λ j i a b l ne. echo_puts i (board_next i l) a ∙ rw (no_vote n t third i ne);
          echo_votes = λ j a b. echo_puts (n - t - 1) (board_next (n - t - 1) (omega arith)) a
              ∙ rw (lt-leb (n - t) (n - t - 1) (omega arith), le-leb (n - t) (suc (n - t - 1)) (omega arith), first (suc (n - t - 1)) (omega arith));
          echo_last = λ j b. ap (spoken_at h) (sym (within 0 (omega arith)));
          vote_next = λ j i b l. votes_next i;
          vote_puts = λ j i a b l. votes_puts i a;
          vote_gives = λ j b. rw (within (n - t - 1) (omega arith)) (vote_gives (n - t - 1) (omega arith) last);
        }
