-- The boards of bytes carry the boards of the broadcast: their runs are runs of the broadcast.
use Prim.Native.Nat.{ℕ, ◌≤◌}
use mathlib.Core.Bool.{Bool, true, false}
use mathlib.Core.Path.{◌≡◌, ◌∙◌, ap}
use mathlib.Core.List.{List}
use mathlib.Core.Option.{Option}
use borrow.Author.Tests.{le-ltb, le-leb}
use lib.Dec.{T}
use lib.ListN.{length}
use Rattle.record.specs.Form.{out_bytes}
use Rattle.octets.specs.Bytes.{pick}
use Rattle.octets.proofs.Laws.{length_put}
use Rattle.table.specs.Table.{limits, is_board}
use Rattle.table.specs.declared.Table.{Table}
use Rattle.state.specs.State.{view, state_size, table_of, own_of, marks_of}
use Rattle.state.specs.Sound.{sound}
use Rattle.board.specs.Started.{start_of}
use Rattle.board.proofs.Starts.{start_table, start_own, fresh_sound, accepted}
use Rattle.board_step.specs.Step.{step_of}
use Rattle.board_step.proofs.Outcomes.{stays}
use Rattle.line.specs.Boards.{Board}
use Rattle.line.specs.Run.{hand}
use Rattle.line.specs.Bytes.{bytes}
use Rattle.line.proofs.Projected.{Carries}
use Rattle.line_desk.specs.Desk.{Desk, Roomy}
use Rattle.line_desk.proofs.Carry.{Paper, sees, Does, Idles, Follows}
use Rattle.line_desk.proofs.Carry as Desks
use Rattle.line_fragments.specs.Step.{Line, BoardState, refuse, act, after_act}
use Rattle.line_fragments.specs.Step as Fragments
use Rattle.line_code.specs.Parts.{code_of, line_of, read_record}
use Rattle.line_demand.specs.Boards.{fragment_kind, boards}
use Rattle.line_demand.proofs.Shown.{shown_of}
use Rattle.line_demand.proofs.Agree.{Agrees, agrees}
use Rattle.line_demand.proofs.Started.{broadcast, start_shown}

module _ (b : Table) where
  abbrev B : Line b.n b.t (code_of b)
  B = line_of b

  -- the boards on paper
  abbrev pub paper : Paper (Option (List ℕ))
  paper = record {
    State = BoardState B;
    start = (broadcast b).start;
    next = (broadcast b).next;
    puts = (broadcast b).puts;
    gives = (broadcast b).gives;
  }

  -- what the bytes of board j's state show
  pub record Shows (j : ℕ) (s : List ℕ) (x : BoardState B) : Type 0 where
    pub table : table_of s ≡ b
    pub own : own_of s ≡ j
    pub is_sound : sound (view s) ≡ true
    pub room : state_size b ≤ length s
    pub shows : shown_of b j (marks_of s) s ≡ x

  pub starts : (j : ℕ) (s : List ℕ) → state_size b ≤ length s → (start_of b j s).number ≡ 0 → Shows j (start_of b j s).state ((broadcast b).start j)
  starts j s long e =
      let a = accepted b j s e in
      rw a.state (record {
        table = start_table b j s a.lim a.known a.long;
        own = start_own b j s a.lim a.known a.long;
        is_sound = fresh_sound b j s a.lim a.known a.long;
        room = rw length_put long;
        shows = start_shown b j s a.lim a.known a.long;
      })

  pub board_is : (j : ℕ) → Board b.n j → is_board b j ≡ true
  unfolding is_board
  board_is j bd = rw (le-leb 1 j bd.low, le-leb j b.n bd.high)

  -- every board of the line starts
  pub begins : limits b ≡ true → (j : ℕ) → Board b.n j → (s : List ℕ) → state_size b ≤ length s → (start_of b j s).number ≡ 0
  unfolding start_of pick
  begins lim j bd s long = rw (lim, board_is j bd, le-ltb (length s) (state_size b) long)

  -- what is no string of bytes is refused
  pub not_read : (x : BoardState B) (i : ℕ) (r : List ℕ) → bytes r ≡ false → act B x (hand i r) ≡ refuse
  unfolding read_record pick
  not_read x i r e = rw e

  pub deaf : (x : BoardState B) (i : ℕ) (r : List ℕ) → bytes r ≡ false → Idles (fragment_kind b) paper x (hand i r)
  deaf x i r e = let n = not_read x i r e in record { next = rw n; puts = λ k. rw n; gives = rw n }

  module _ (j : ℕ) (s : List ℕ) (x : BoardState B) (h : Shows j s x) (i : ℕ) (r o d : List ℕ) (e : bytes r ≡ true) (ho : out_bytes ≤ length o)
      (hd : b.longest ≤ length d) where
    pub agreed : Agrees b j s i r o d
    agreed = agrees s h.is_sound i r o d e ho b j h.table h.own h.room hd

    pub steps : Does (fragment_kind b) paper (Shows j) x (hand i r) o d (step_of s i r o d)
    steps =
        let k = stays s i r o d h.is_sound in
        record {
          shows = record {
            table = k.table ∙ h.table;
            own = k.own ∙ h.own;
            is_sound = k.still_sound;
            room = rw k.size h.room;
            shows = agreed.shows ∙ ap (λ (y : BoardState B). after_act B y (act B y (hand i r))) h.shows;
          };
          puts = λ n. agreed.puts ∙ ap (λ (y : BoardState B). Fragments.puts_out B y (act B y (hand i r))) h.shows;
          gives = agreed.gives ∙ ap (λ (y : BoardState B). Fragments.give B y (act B y (hand i r))) h.shows;
          out = k.out;
          delivery = k.delivery;
        }

  unfoldable pub follows : Follows (fragment_kind b) paper
  follows = record { Shows = Shows; starts = starts; steps = steps; deaf = deaf }

  -- what the buffers of board j hold, and the state of the broadcast that they show
  abbrev pub Holds : ℕ → Desk → BoardState B → Type 0
  Holds = Desks.Holds (fragment_kind b) paper follows

  abbrev pub carried : (lent : ℕ → Desk) (keeps : ℕ → Bool) → ((j : ℕ) → T (keeps j) → Roomy (fragment_kind b) (lent j)) → Carries (boards b lent) (broadcast b) sees keeps
  carried = Desks.carries (fragment_kind b) paper follows
