-- What the functions of a drill's step ask of and tell one another.
use Rattle.std.specs.Prelude.{◌≡◌, true, List, [], ℕ, ◌-◌, ◌*◌, ◌≤◌, length}
use Rattle.record.specs.Form.{out_bytes}
use Rattle.octets.specs.Bytes.{put}
use Rattle.table.specs.Table.{is_board}
use Rattle.table.specs.declared.Table.{Table}
use Rattle.board_step.specs.Step.{Outcome, step_of}
use Rattle.board_step.specs.declared.Stepped.{Stepped}
use Rattle.drill_lines.specs.declared.Handed.{Handed}
use Rattle.drill_lines.specs.declared.Handed.TheVariants.{Send, Echo, Vote, Raw}
use Rattle.drill_lines.specs.declared.Step.{Step}
use Rattle.drill_lines.specs.Lines.{kind_in, from_in, to_in}
use Rattle.drill_lines.specs.Read.{IsRaw}
use Rattle.drill_boards.specs.Held.{Boards, zeros}
use Rattle.drill_boards.specs.Room.{state_at, boards_in}
use Rattle.drill_step.specs.declared.Room.{Room}

-- the hex of raw bytes
abbrev pub raw_of : Handed → List ℕ
raw_of (Raw w) = w.now
raw_of _ = []

-- what a step of one board's record to another asks for
pub record Handing (b : Table) (message : List ℕ) (s : Step) : Type 0 where
  pub fits : length message ≤ b.longest
  pub sends : is_board b s.from ≡ true
  pub takes : is_board b s.to ≡ true
  pub raw_few : length (raw_of s.handed) ≤ 1024

-- what is handed over for a letter: `put_out_yet` and `record_for` take each letter but s, e and v (115, 101, 118) for raw bytes
abbrev pub OfLetter : Handed → ℕ → Type 0
OfLetter Send k = k ≡ 115
OfLetter Echo k = k ≡ 101
OfLetter Vote k = k ≡ 118
OfLetter (Raw w) k = (k ≡ 115 → ⊥) × (k ≡ 101 → ⊥) × (k ≡ 118 → ⊥)

-- s is the step that `turn_of` reads in line l, right or not: there is one for every line
pub record Hands (s : Step) (l : List ℕ) : Type 0 where
  pub kind_is : OfLetter s.handed (kind_in l)
  pub raw_is : IsRaw s.handed l
  pub from_is : s.from ≡ from_in l
  pub to_is : s.to ≡ to_in l

-- the step of board `to`, whose state stands in `states`
unfoldable pub step_from : List ℕ → ℕ → ℕ → List ℕ → Outcome
step_from states from to r = step_of (state_at (to - 1) states) from r (zeros out_bytes) (zeros 64)

-- what it leaves
pub record Stepping (states : List ℕ) (from to : ℕ) (r : List ℕ) (x : Stepped) (states' out delivery : List ℕ) : Type 0 where
  pub answer_is : x ≡ (step_from states from to r).answer
  pub state_is : states' ≡ put ((to - 1) * 5084) (step_from states from to r).state states
  pub out_is : out ≡ (step_from states from to r).out
  pub delivery_is : delivery ≡ (step_from states from to r).delivery
  pub long : length (step_from states from to r).state ≡ 5084

-- the lengths of the lent buffers
pub record DrillRoom (r : Room) : Type 0 where
  pub states_long : length r.states.now ≡ 35588
  pub kept_long : length r.kept.now ≡ 14336
  pub handed_long : length r.handed.now ≡ out_bytes
  pub out_long : length r.out.now ≡ out_bytes
  pub delivery_long : length r.delivery.now ≡ 64

-- they are clean
pub record Cleared (r : Room) : Type 0 where
  pub states_zero : r.states.now ≡ zeros 35588
  pub kept_zero : r.kept.now ≡ zeros 14336
  pub handed_zero : r.handed.now ≡ zeros out_bytes
  pub out_zero : r.out.now ≡ zeros out_bytes
  pub delivery_zero : r.delivery.now ≡ zeros 64

-- the same lent buffers
pub record SameRoom (a b : Room) : Type 0 where
  pub states_same : b.states.ghost_name ≡ a.states.ghost_name
  pub kept_same : b.kept.ghost_name ≡ a.kept.ghost_name
  pub handed_same : b.handed.ghost_name ≡ a.handed.ghost_name
  pub out_same : b.out.ghost_name ≡ a.out.ghost_name
  pub delivery_same : b.delivery.ghost_name ≡ a.delivery.ghost_name

-- the boards that they hold
abbrev pub boards_of : Room → Boards
boards_of r = boards_in r.states.now r.kept.now

-- a delivery and a length as a step answers them: only a message has one
abbrev pub Shaped : ℕ → ℕ → Type 0
Shaped d n = (d ≤ 2) × ((d ≡ 1 → ⊥) → n ≡ 0)
