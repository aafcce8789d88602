-- A record that is taken does to the bytes what the move does to the state that they show; it puts out and delivers the same.
use Prim.Native.Nat.{ℕ, suc, ◌+◌, ◌-◌, ◌^◌, ◌≤◌, ◌<◌}
use native.Mathlib.Omega.{arith}
use mathlib.Core.Bool.{Bool, true, false, not, ◌&&◌, ◌||◌}
use mathlib.Core.Path.{◌≡◌, refl, subst, sym, ap, ap₂, ◌∙◌}
use mathlib.Core.List.{List, []}
use mathlib.Core.Option.{Option, some, none}
use lib.Bits.{bit_or}
use lib.Dec.{T, eqb}
use lib.ListN.{length}
use Rattle.octets.specs.Bytes.{pick, same}
use Rattle.octets.proofs.Frame.{part_in}
use Rattle.octets.proofs.Members.{has_low}
use Rattle.octets.proofs.Picks.{or_true, or_false, is_true}
use Rattle.table.specs.declared.Table.{Table}
use Rattle.table.proofs.Within.{within, board_number}
use Rattle.state.specs.Kept.{member}
use Rattle.deliver.specs.Delivered.{left_by}
use Rattle.board.specs.Planned.{Plan}
use Rattle.board_step.specs.Step.{delivered}
use Rattle.notice.specs.Form.{notice_record, notice_in}
use Rattle.notice.specs.State.{notice_table, heard_in, notice_kept, hearing, notice_due, notice_settled}
use Rattle.notice.specs.declared.Heard.{Heard}
use Rattle.notice.proofs.Round.{notice_length}
use Rattle.notice_step.specs.Planned.{notice_plan}
use Rattle.notice_step.specs.Step.{kept_notice, notice_leaves, notice_said, notice_ends, notice_taken, notice_by_plan}
use Rattle.notice_step.proofs.Taken.{NoticeTaken, notice_taken_lem, taken_whole, taken_sounds, taken_notice}
use Rattle.notice_step.proofs.Leaves.{kept_send, noted_kept, other_kept, leaves_heard, leaves_kept}
use Rattle.line.specs.Core.{Word, echo, vote, Core, Move, acquire, hear, set_word, keep, due, with_vote, moved, said}
use Rattle.line.specs.Notice.{notice}
use Rattle.line.specs.Plain.{Simple, Kind, given, full, delivered_by, written_by}
use Rattle.line_desk.specs.Desk.{put_in}
use Rattle.line_desk.proofs.Shown.{keep_core}
use Rattle.line_desk.proofs.Puts.{unless_empty, record_is}
use Rattle.line_notice.specs.Boards.{notice_given, notice_given_in}
use Rattle.line_notice.proofs.Notes.{form_of}
use Rattle.line_notice.proofs.Shown.{sort_for, is_sort, one_word, no_send, spoke_in, set_in, core_of, shown_by, due_is, ends_is, settled_is, given_pick}
use Rattle.line_notice.proofs.Acts.{Follow, refuses, acquires, hears}

-- a delivery, as the answer tells it
given_is : (e : Bool) (v d : List ℕ) → length v ≤ length d
    → notice_given (delivered e (some v) d).kind (delivered e (some v) d).size (delivered e (some v) d).buffer ≡ pick e (some v) none
unfolding delivered left_by pick
given_is false v d h = refl
given_is true v d h = ap some (part_in 0 v d (omega arith))

written : (c : Bool) (k : ℕ) (v : List ℕ) → unless_empty (pick c (notice_record k v) []) ≡ pick c (some (notice_record k v)) none
unfolding notice_record pick
written true k v = refl
written false k v = refl

said_short : (c : Bool) (k : ℕ) (v : List ℕ) → length (pick c (notice_record k v) []) ≤ 3 + length v
unfolding pick
said_short true k v = omega (arith, notice_length k v)
said_short false k v = omega arith

module _ (s : List ℕ) (from : ℕ) (r o d : List ℕ) where
  abbrev b : Table
  b = notice_table s

  abbrev N : Kind (List ℕ)
  N = notice (form_of b)

  abbrev S : Simple (List ℕ)
  S = shown_by (heard_in s) (notice_kept s)

  -- what the move leaves, puts out and delivers
  abbrev pub next_by : Move (List ℕ) → Simple (List ℕ)
  next_by a = record { core = moved b.n b.t same S.core a; done = S.done || given (delivered_by b.n b.t same N S.core a) }

  abbrev pub puts_by : Move (List ℕ) → Option (List ℕ)
  puts_by a = written_by b.n b.t same N (said b.n b.t same S.core a echo) (said b.n b.t same S.core a vote)

  abbrev pub gives_by : Move (List ℕ) → Option (List ℕ)
  gives_by a = delivered_by b.n b.t same N S.core a

  -- ---- a record that is taken, of sort k with f notice bytes: what was heard with it, and what is kept then

  abbrev heard_by : ℕ → Heard
  heard_by k = hearing k (from - 1) (heard_in s)

  abbrev kept_by : ℕ → ℕ → ℕ → ℕ → List ℕ
  kept_by k f = notice_kept (kept_notice k (from - 1) f r s)

  left_shown : (k f : ℕ) → NoticeTaken s from r o d k f
      → shown_by (heard_in (notice_leaves k f from r s)) (notice_kept (notice_leaves k f from r s))
      ≡ shown_by (notice_settled b (not (eqb k 1)) (heard_by k) (kept_by k f) (notice_in f r)) (kept_by k f)
  left_shown k f t = ap₂ (λ (m : Heard) (kept : ℕ → ℕ → List ℕ). shown_by m kept) (leaves_heard t) (λ i l j. leaves_kept t l j i)

  -- what is put out stands at the front of the buffer
  put_at : (k f : ℕ) → length (notice_said k f from r s) ≤ length o → put_in (notice_taken k f s from r o d) ≡ unless_empty (notice_said k f from r s)
  unfolding notice_taken
  put_at k f h = record_is (notice_said k f from r s) o h

  give_at : (k f : ℕ) → NoticeTaken s from r o d k f
      → notice_given_in (notice_taken k f s from r o d) ≡ pick (notice_ends k f from r s) (some (notice_in f r)) none
  unfolding notice_taken
  give_at k f t = given_is (notice_ends k f from r s) (notice_in f r) d (omega (arith, taken_notice t, (taken_whole t).most, t.delivery))

  -- ---- a send

  module _ (f : ℕ) (t : NoticeTaken s from r o d 1 f) where
    send_settled : shown_by (notice_settled b false (heard_by 1) (notice_kept s) (notice_in f r)) (notice_kept s) ≡ next_by (acquire (some (notice_in f r)))
    unfolding notice_settled hearing pick
    send_settled = λ i. record {
      core = record { spoke = λ w. words w i; set = λ w. sets w i; val = λ w. vals w i };
      done = (heard_in s).done || false;
    }
      where
        m2 : Heard
        m2 = notice_settled b false (heard_by 1) (notice_kept s) (notice_in f r)

        words : (w : Word) → spoke_in m2 w ≡ set_word (spoke_in (heard_in s)) echo true w
        words echo = or_true (heard_in s).acquired
        words vote = or_false (heard_in s).voted

        sets : (w : Word) → (core_of m2 (notice_kept s)).set w ≡ S.core.set w
        sets echo = refl
        sets vote = refl

        vals : (w : Word) → (core_of m2 (notice_kept s)).val w ≡ S.core.val w
        vals echo = refl
        vals vote = refl

    send_next : shown_by (heard_in (notice_leaves 1 f from r s)) (notice_kept (notice_leaves 1 f from r s)) ≡ next_by (acquire (some (notice_in f r)))
    send_next =
        left_shown 1 f t
        ∙ ap (λ (x : List ℕ). shown_by (notice_settled b false (heard_by 1) (notice_kept x) (notice_in f r)) (notice_kept x)) (kept_send t refl)
        ∙ send_settled

    send_puts : put_in (notice_taken 1 f s from r o d) ≡ puts_by (acquire (some (notice_in f r)))
    unfolding notice_said notice_record pick
    send_puts = put_at 1 f (omega (arith, taken_notice t, (taken_whole t).most, t.out))

    send_gives : notice_given_in (notice_taken 1 f s from r o d) ≡ gives_by (acquire (some (notice_in f r)))
    unfolding notice_ends pick
    send_gives = give_at 1 f t

  -- ---- an echo or a vote

  module _ (w : Word) (f : ℕ) (t : NoticeTaken s from r o d (sort_for w) f) where
    abbrev k : ℕ
    k = sort_for w

    abbrev v : List ℕ
    v = notice_in f r

    number_is : suc (from - 1) ≡ from
    number_is = let (one, few) = board_number b from t.board in omega arith

    -- a board that was heard has its place
    below : (u : Word) (j : ℕ) → T (member (set_in (heard_in s) u) (suc j)) → j < 64
    unfolding member
    below u j h = omega (
      arith,
      has_low b.n (set_in (heard_in s) u) j ((taken_sounds t).heard (sort_for u) (is_sort u)) (is_true _ h),
      (within b (taken_sounds t).lim).few,
    )

    words : (x u : Word) → spoke_in (heard_by (sort_for x)) u ≡ spoke_in (heard_in s) u
    unfolding hearing
    words echo echo = or_false (heard_in s).acquired
    words vote echo = or_false (heard_in s).acquired
    words x vote = refl

    sets : (x u : Word) → set_in (heard_by (sort_for x)) u ≡ set_word (set_in (heard_in s)) x (bit_or (set_in (heard_in s) x) (2 ^ (from - 1))) u
    unfolding hearing pick
    sets echo echo = refl
    sets echo vote = refl
    sets vote echo = refl
    sets vote vote = refl

    core_is : core_of (heard_by k) (kept_by k f) ≡ keep S.core w from v
    core_is = subst (λ x. core_of (heard_by k) (kept_by k f) ≡ keep S.core w x v) number_is
        (keep_core (spoke_in (heard_in s)) (spoke_in (heard_by k)) (set_in (heard_in s)) (set_in (heard_by k)) (λ u. notice_kept s (sort_for u))
        (λ u. kept_by k f (sort_for u)) w (from - 1) v (words w) (sets w) (noted_kept t (is_sort w))
        (λ u j h ne. other_kept t (sort_for u) j (is_sort u) (below u j h) (λ e. ne (one_word u w e))))

    -- the core with it kept, and the vote that is due
    abbrev after : Core (List ℕ) → Core (List ℕ)
    after c = with_vote b.n b.t same c v

    word_next : shown_by (heard_in (notice_leaves k f from r s)) (notice_kept (notice_leaves k f from r s)) ≡ next_by (hear w from v)
    unfolding hearing
    word_next =
        left_shown k f t
        ∙ ap (λ (c : Bool). shown_by (notice_settled b (not c) (heard_by k) (kept_by k f) v) (kept_by k f)) (no_send w)
        ∙ settled_is b (heard_by k) (kept_by k f) v
        ∙ ap (λ (c : Core (List ℕ)). record { core = after c; done = (heard_in s).done || full b.n b.t same N (after c) v }) core_is
        ∙ ap (λ (c : Bool). record { core = after (keep S.core w from v); done = (heard_in s).done || c })
        (given_pick (full b.n b.t same N (after (keep S.core w from v)) v) v)

    votes_is : (not (heard_by k).voted && notice_due b (heard_by k) (kept_by k f) v) ≡ (not (S.core.spoke vote) && due b.n b.t same (keep S.core w from v) v)
    unfolding hearing
    votes_is = ap (λ (c : Bool). not (heard_in s).voted && c)
        (due_is b (heard_by k) (kept_by k f) v ∙ ap (λ (c : Core (List ℕ)). due b.n b.t same c v) core_is)

    said_is : notice_said k f from r s ≡ pick (not (heard_by k).voted && notice_due b (heard_by k) (kept_by k f) v) (notice_record 6 v) []
    unfolding notice_said pick
    said_is = rw (no_send w)

    vote_out_lem : (c : Bool) → pick c (some (notice_record 6 v)) none ≡ written_by b.n b.t same N none (pick c (some v) none)
    unfolding pick
    vote_out_lem true = refl
    vote_out_lem false = refl

    word_puts : put_in (notice_taken k f s from r o d) ≡ puts_by (hear w from v)
    word_puts =
        let c = not (heard_by k).voted && notice_due b (heard_by k) (kept_by k f) v in
        put_at k f (rw said_is (omega (arith, said_short c 6 v, taken_notice t, (taken_whole t).most, t.out)))
        ∙ ap unless_empty said_is ∙ written c 6 v ∙ vote_out_lem c
        ∙ ap (λ (x : Bool). written_by b.n b.t same N none (pick x (some v) none)) votes_is

    ends_at : notice_ends k f from r s ≡ full b.n b.t same N (after (keep S.core w from v)) v
    unfolding notice_ends
    ends_at = rw (no_send w) (ends_is b (heard_by k) (kept_by k f) v ∙ ap (λ (c : Core (List ℕ)). full b.n b.t same N (after c) v) core_is)

    word_gives : notice_given_in (notice_taken k f s from r o d) ≡ gives_by (hear w from v)
    word_gives = give_at k f t ∙ ap (λ (c : Bool). pick c (some v) none) ends_at

  -- ---- whatever the plan

  pub next_by_lem : (x : Plan) (a : Move (List ℕ)) → notice_plan s from r o d ≡ x → Follow from r x a
      → shown_by (heard_in (notice_by_plan x s from r o d).state) (notice_kept (notice_by_plan x s from r o d).state) ≡ next_by a
  unfolding notice_by_plan notice_taken
  next_by_lem x a e refuses = λ i. record { core = S.core; done = sym (or_false S.done) i }
  next_by_lem x a e (acquires {p} {f}) = send_next f (notice_taken_lem s from r o d 1 p f e)
  next_by_lem x a e (hears {p} {f} w) = word_next w f (notice_taken_lem s from r o d (sort_for w) p f e)

  pub puts_by_lem : (x : Plan) (a : Move (List ℕ)) → notice_plan s from r o d ≡ x → Follow from r x a → put_in (notice_by_plan x s from r o d) ≡ puts_by a
  unfolding notice_by_plan
  puts_by_lem x a e refuses = refl
  puts_by_lem x a e (acquires {p} {f}) = send_puts f (notice_taken_lem s from r o d 1 p f e)
  puts_by_lem x a e (hears {p} {f} w) = word_puts w f (notice_taken_lem s from r o d (sort_for w) p f e)

  pub gives_by_lem : (x : Plan) (a : Move (List ℕ)) → notice_plan s from r o d ≡ x → Follow from r x a
      → notice_given_in (notice_by_plan x s from r o d) ≡ gives_by a
  unfolding notice_by_plan
  gives_by_lem x a e refuses = refl
  gives_by_lem x a e (acquires {p} {f}) = send_gives f (notice_taken_lem s from r o d 1 p f e)
  gives_by_lem x a e (hears {p} {f} w) = word_gives w f (notice_taken_lem s from r o d (sort_for w) p f e)
