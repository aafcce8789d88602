-- A board's step of the fragment broadcast (document 01, "A board's step"), over what a board keeps.
use Rattle.std.specs.Prelude.{ℕ, ◌-◌, ◌*◌, Bool, false, not, ◌&&◌, ◌||◌, leb, eqb}
use Rattle.std.proofs.Math.Option.{Option, some, none}
use Rattle.octets.specs.Bytes.{pick}
use Rattle.line.specs.Boards.{count, known}
use Rattle.line.specs.Run.{Machine, Input, hand, tell}
use Rattle.line.specs.Core.{Word, set_at, Core, Move, still, acquire, hear, quorum, moved, said}
use Rattle.line_fragments.specs.Code.{Code}

-- a record, read
pub data Record (Root Path Frag : Type 0) : Type 0 where
  send : Root → Path → Frag → Record Root Path Frag
  echo : Root → Path → Frag → Record Root Path Frag
  vote : Root → Record Root Path Frag

-- what a board keeps
pub record Kept (Root Frag : Type 0) : Type 0 where
  pub own : ℕ  -- its own number
  pub core : Core Root  -- echoes and votes
  pub usable : ℕ → Bool  -- the boards whose echo is usable
  pub frag : ℕ → Frag  -- the fragment of a board's echo
  pub out : Bool  -- the output stage is open
  pub done : Bool

-- The sender, the records' form, s_max and the comparison of roots.
pub record Line (n t : ℕ) (C : Code) : Type 1 where
  pub S : ℕ
  pub Bytes : Type 0
  pub read : Bytes → Option (Record C.Root C.Path C.Frag)
  pub write : Record C.Root C.Path C.Frag → Bytes
  pub short : C.Frag → Bool  -- at most s_max bytes
  pub same : C.Root → C.Root → Bool

-- document 01: "k = n-2t"
abbrev pub fewest_boards : ℕ → ℕ → ℕ
fewest_boards n t = n - 2 * t

-- document 01: "once k usable echoes name that root", of the number of these echoes
unfoldable pub enough_by : ℕ → ℕ → ℕ → Bool
enough_by n t usable = leb (fewest_boards n t) usable

module _ {n t : ℕ} {C : Code} (B : Line n t C) where
  abbrev pub BoardState : Type 0
  BoardState = Kept C.Root C.Frag

  abbrev pub BoardRecord : Type 0
  BoardRecord = Record C.Root C.Path C.Frag

  -- what comes to a board is refused, or a record is taken from a board
  pub data Act : Type 0 where
    refuse : Act
    take : ℕ → BoardRecord → Act

  -- Refusals 6 to 9: send from a board other than S; fragment longer than s_max; board done, or a send in the output stage; second
  -- send, second echo or second vote from that board.
  abbrev pub accepts : BoardState → ℕ → BoardRecord → Bool
  accepts s i (send r π f) = eqb i B.S && (B.short f && (not s.done && (not s.out && not (s.core.spoke Word.echo))))
  accepts s i (echo r π f) = B.short f && (not s.done && not (s.core.set Word.echo i))
  accepts s i (vote r) = not s.done && not (s.core.set Word.vote i)

  abbrev pub act_on : BoardState → ℕ → Option BoardRecord → Act
  act_on s i none = refuse
  act_on s i (some ρ) = pick (known n i && accepts s i ρ) (take i ρ) refuse

  abbrev pub act : BoardState → Input ⊥ B.Bytes → Act
  act s (tell e) = refuse
  act s (hand i b) = act_on s i (B.read b)

  -- "Send from S, first time: mark it acquired. If the path is correct for the own number, put out an echo .. If not, put out nothing"
  -- "Echo from i: keep its root"; "Vote from i: keep its root."
  abbrev pub move : BoardState → Act → Move C.Root
  move s refuse = still
  move s (take i (send r π f)) = acquire (pick (C.check r s.own f π) (some r) none)
  move s (take i (echo r π f)) = hear Word.echo i r
  move s (take i (vote r)) = hear Word.vote i r

  abbrev pub core_after : BoardState → Act → Core C.Root
  core_after s a = moved n t B.same s.core (move s a)

  -- "Echo from i: keep its root and fragment; it is usable if the path is correct at i."
  abbrev pub keep_act : BoardState → Act → BoardState
  keep_act s refuse = s
  keep_act s (take i (send r π f)) = record { own = s.own; core = core_after s (take i (send r π f)); usable = s.usable; frag = s.frag; out = s.out; done = s.done }
  keep_act s (take i (echo r π f)) = record {
    own = s.own;
    core = core_after s (take i (echo r π f));
    usable = set_at s.usable i (C.check r i f π);
    frag = set_at s.frag i f;
    out = s.out;
    done = s.done;
  }
  keep_act s (take i (vote r)) = record { own = s.own; core = core_after s (take i (vote r)); usable = s.usable; frag = s.frag; out = s.out; done = s.done }

  -- the boards whose usable echo names v
  abbrev pub usable_naming : BoardState → C.Root → ℕ → Bool
  usable_naming s v i = s.usable i && B.same (s.core.val Word.echo i) v

  abbrev pub enough_naming : BoardState → C.Root → Bool
  enough_naming s v = enough_by n t (count (usable_naming s v) n)

  -- "Then, voted and n-t votes name one root: the output stage opens on that root."
  abbrev pub opens : BoardState → C.Root → Bool
  opens s v = s.out || (s.core.spoke Word.vote && quorum n t B.same s.core v)

  -- "In the output stage, once k usable echoes name that root: .. The board is then done."
  abbrev pub ends : BoardState → C.Root → Bool
  ends s v = opens s v && (quorum n t B.same s.core v && enough_naming s v)

  abbrev pub settle : BoardState → C.Root → BoardState
  settle s v = record { own = s.own; core = s.core; usable = s.usable; frag = s.frag; out = opens s v; done = s.done || ends s v }

  -- the state after an act: only the root that was just named can have become due
  abbrev pub after_act : BoardState → Act → BoardState
  after_act s refuse = s
  after_act s (take i (send r π f)) = keep_act s (take i (send r π f))
  after_act s (take i (echo r π f)) = settle (keep_act s (take i (echo r π f))) r
  after_act s (take i (vote r)) = settle (keep_act s (take i (vote r))) r

  abbrev pub vote_out : Option C.Root → Option B.Bytes
  vote_out none = none
  vote_out (some v) = some (B.write (vote v))

  -- the record put out: "an echo with the same root, path and fragment", or a vote
  abbrev pub puts_out : BoardState → Act → Option B.Bytes
  puts_out s refuse = none
  puts_out s (take i (send r π f)) = pick (C.check r s.own f π) (some (B.write (echo r π f))) none
  puts_out s (take i (echo r π f)) = vote_out (said n t B.same s.core (hear Word.echo i r) Word.vote)
  puts_out s (take i (vote r)) = vote_out (said n t B.same s.core (hear Word.vote i r) Word.vote)

  -- the delivery: a message, or none for void
  abbrev pub result_at : BoardState → C.Root → Option (Option C.Msg)
  result_at s v = pick (ends s v) (some (C.result v (usable_naming s v) s.frag)) none

  abbrev pub give : BoardState → Act → Option (Option C.Msg)
  give s refuse = none
  give s (take i (send r π f)) = none
  give s (take i (echo r π f)) = result_at (keep_act s (take i (echo r π f))) r
  give s (take i (vote r)) = result_at (keep_act s (take i (vote r))) r

  -- r₀ and f₀: what stands where nothing was kept yet
  abbrev pub board : (ℕ → C.Root) → (ℕ → C.Frag) → Machine
  board r₀ f₀ = record {
    State = BoardState;
    Order = ⊥;
    Rec = B.Bytes;
    Result = Option C.Msg;
    start = λ j. record { own = j; core = record { spoke = λ w. false; set = λ w i. false; val = λ w. r₀ }; usable = λ i. false; frag = f₀; out = false; done = false };
    next = λ s x. after_act s (act s x);
    puts = λ s x k. puts_out s (act s x);
    gives = λ s x. give s (act s x);
  }

  -- "The sender's record for board j is worked out from table, message and j."
  abbrev pub mail : C.Msg → ℕ → B.Bytes
  mail m j = B.write (send (C.root m) (C.path m j) (C.piece m j))
