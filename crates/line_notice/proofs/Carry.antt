-- The boards of bytes carry the boards on paper: their runs are runs of the broadcast.
use Prim.Native.Nat.{ℕ, ◌≤◌}
use mathlib.Core.Bool.{true, false}
use mathlib.Core.Path.{◌≡◌, refl, subst, ◌∙◌, ap}
use mathlib.Core.List.{List}
use borrow.Author.Tests.{le-ltb, le-leb}
use lib.ListN.{length}
use Rattle.octets.specs.Bytes.{pick}
use Rattle.octets.proofs.Laws.{length_put}
use Rattle.octets.proofs.Picks.{or_false}
use Rattle.table.specs.Table.{limits, is_board}
use Rattle.table.specs.declared.Table.{Table}
use Rattle.notice.specs.Form.{notice_most, notice_out_bytes}
use Rattle.notice.specs.State.{notice_state_bytes, notice_table, heard_in, notice_view, notice_kept}
use Rattle.notice.specs.Sound.{notice_sound}
use Rattle.notice.specs.declared.Heard.{Heard}
use Rattle.notice_step.specs.Planned.{notice_plan}
use Rattle.notice_step.specs.Started.{notice_start_of}
use Rattle.notice_step.specs.Step.{notice_step_of}
use Rattle.notice_step.proofs.Starts.{unheard, without_longest, notice_accepted, notice_start_sound, notice_start_says}
use Rattle.notice_step.proofs.Outcomes.{notice_stays}
use Rattle.line.specs.Boards.{Board}
use Rattle.line.specs.Run.{hand}
use Rattle.line.specs.Bytes.{bytes}
use Rattle.line.specs.Core.{Word, echo, vote}
use Rattle.line.specs.Notice.{answers}
use Rattle.line.specs.Plain.{Simple}
use Rattle.line_desk.specs.Desk.{put_in}
use Rattle.line_desk.proofs.Carry.{Paper, Does, Idles, Follows}
use Rattle.line_desk.proofs.Shown.{no_core}
use Rattle.line_notice.specs.Boards.{notice_given_in, notice_kind}
use Rattle.line_notice.proofs.Notes.{read_note, form_of}
use Rattle.line_notice.proofs.Shown.{broadcast, spoke_in, set_in, sort_for, shown_by}
use Rattle.line_notice.proofs.Acts.{follow}
use Rattle.line_notice.proofs.Steps.{next_by_lem, puts_by_lem, gives_by_lem}

-- ---- a step of a board of bytes and one of a board on paper agree

module _ (b : Table) (s : List ℕ) (from : ℕ) (r o d : List ℕ) where
  abbrev S : Simple (List ℕ)
  S = shown_by (heard_in s) (notice_kept s)

  abbrev left : List ℕ
  left = (notice_step_of s from r o d).state

  pub record Agrees : Type 0 where
    pub shows : shown_by (heard_in left) (notice_kept left) ≡ (broadcast b).next S (hand from r)
    pub puts : (k : ℕ) → put_in (notice_step_of s from r o d) ≡ (broadcast b).puts S (hand from r) k
    pub gives : notice_given_in (notice_step_of s from r o d) ≡ (broadcast b).gives S (hand from r)

module _ (s : List ℕ) (long : notice_state_bytes ≤ length s) (so : notice_sound (notice_view s) ≡ true) (from : ℕ) (r o d : List ℕ) (is_bytes : bytes r ≡ true)
    (ho : notice_out_bytes ≤ length o) (hd : notice_most ≤ length d) where
  agrees_here : Agrees (notice_table s) s from r o d
  unfolding notice_step_of
  agrees_here =
      let x = notice_plan s from r o d in
      let a = answers (form_of (notice_table s)) (shown_by (heard_in s) (notice_kept s)) (hand from r) in
      let g = follow s from r o d long so ho hd is_bytes in
      record { shows = next_by_lem s from r o d x a refl g; puts = λ k. puts_by_lem s from r o d x a refl g; gives = gives_by_lem s from r o d x a refl g }

  pub agrees : (b : Table) → notice_table s ≡ without_longest b → Agrees b s from r o d
  agrees b tb =
      let g = subst (λ (x : Table). Agrees x s from r o d) tb agrees_here in
      record { shows = g.shows; puts = g.puts; gives = g.gives }

-- ---- the boards

-- the boards on paper
abbrev pub paper : (b : Table) → Paper (List ℕ)
paper b = record {
  State = Simple (List ℕ);
  start = (broadcast b).start;
  next = (broadcast b).next;
  puts = (broadcast b).puts;
  gives = (broadcast b).gives;
}

-- an empty state shows nothing
empty_set : (w : Word) → set_in unheard w ≡ 0
unfolding pick
empty_set echo = refl
empty_set vote = refl

no_word : (w : Word) → spoke_in unheard w ≡ false
no_word echo = refl
no_word vote = refl

unheard_shown : (b : Table) (kept : ℕ → ℕ → List ℕ) (j : ℕ) → shown_by unheard kept ≡ (broadcast b).start j
unheard_shown b kept j = λ i. record { core = no_core (spoke_in unheard) (set_in unheard) (λ w. kept (sort_for w)) no_word empty_set i; done = false }

pub board_is : (b : Table) (j : ℕ) → Board b.n j → is_board b j ≡ true
unfolding is_board
board_is b j bd = rw (le-leb 1 j bd.low, le-leb j b.n bd.high)

-- every board of the line starts
pub begins : (b : Table) → limits b ≡ true → (j : ℕ) → Board b.n j → (s : List ℕ) → notice_state_bytes ≤ length s → (notice_start_of b j s).number ≡ 0
unfolding notice_start_of pick
begins b limited j bd s long = rw (limited, board_is b j bd, le-ltb (length s) notice_state_bytes long)

module _ (b : Table) where
  -- what a state's bytes show
  pub record Shows (s : List ℕ) (x : Simple (List ℕ)) : Type 0 where
    pub table : notice_table s ≡ without_longest b
    pub is_sound : notice_sound (notice_view s) ≡ true
    pub room : notice_state_bytes ≤ length s
    pub shown : shown_by (heard_in s) (notice_kept s) ≡ x

  pub starts : (j : ℕ) (s : List ℕ) → notice_state_bytes ≤ length s → (notice_start_of b j s).number ≡ 0 → Shows (notice_start_of b j s).state ((broadcast b).start j)
  starts j s long e =
      let (table, own, heard) = notice_start_says b j s e in
      let a = notice_accepted b j s e in
      record {
        table = table;
        is_sound = notice_start_sound b j s e;
        room = rw (a.state, length_put) long;
        shown = ap (λ (m : Heard). shown_by m (notice_kept (notice_start_of b j s).state)) heard ∙ unheard_shown b (notice_kept (notice_start_of b j s).state) j;
      }

  pub steps : (s : List ℕ) (x : Simple (List ℕ)) → Shows s x → (i : ℕ) (r o d : List ℕ) → bytes r ≡ true → notice_out_bytes ≤ length o → notice_most ≤ length d
      → Does (notice_kind b) (paper b) Shows x (hand i r) o d (notice_step_of s i r o d)
  steps s x h i r o d e ho hd =
      let k = notice_stays s i r o d h.is_sound in
      let g = agrees s h.room h.is_sound i r o d e ho hd b h.table in
      record {
        shows = record {
          table = k.table ∙ h.table;
          is_sound = k.still_sound;
          room = rw k.size h.room;
          shown = g.shows ∙ ap (λ (y : Simple (List ℕ)). (broadcast b).next y (hand i r)) h.shown;
        };
        puts = λ n. g.puts n ∙ ap (λ (y : Simple (List ℕ)). (broadcast b).puts y (hand i r) n) h.shown;
        gives = g.gives ∙ ap (λ (y : Simple (List ℕ)). (broadcast b).gives y (hand i r)) h.shown;
        out = k.out;
        delivery = k.delivery;
      }

  -- what is no string of bytes is not read
  pub deaf : (x : Simple (List ℕ)) (i : ℕ) (r : List ℕ) → bytes r ≡ false → Idles (notice_kind b) (paper b) x (hand i r)
  unfolding read_note pick
  deaf x i r e = record {
    next = rw e (λ j. record { core = x.core; done = or_false x.done j });
    puts = λ k. rw e;
    gives = rw e;
  }

  unfoldable pub follows : Follows (notice_kind b) (paper b)
  follows = record { Shows = λ j. Shows; starts = starts; steps = λ j. steps; deaf = deaf }
