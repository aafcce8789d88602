-- What every kind of board keeps and does with echoes and votes, over whatever is voted on: a root, a notice, nothing.
use Rattle.std.specs.Prelude.{ℕ, Bool, true, not, ◌&&◌, ◌||◌, leb, eqb}
use Rattle.std.proofs.Math.Option.{Option, some, none}
use Rattle.octets.specs.Bytes.{pick}
use Rattle.line.specs.Boards.{count, most_boards, some_boards}

-- what a board says of a value, once each
pub data Word : Type 0 where
  echo vote : Word

-- f, but a at i; g, but a at the word w
abbrev pub set_at : {A : Type 0} → (ℕ → A) → ℕ → A → ℕ → A
set_at f i a k = pick (eqb k i) a (f k)

abbrev pub set_word : {A : Type 0} → (Word → A) → Word → A → Word → A
set_word g echo a echo = a
set_word g echo a vote = g vote
set_word g vote a echo = g echo
set_word g vote a vote = a

-- document 01: "One echo and one vote are kept from each board, the first accepted."
pub record Core (Val : Type 0) : Type 0 where
  pub spoke : Word → Bool  -- acquired; voted
  pub set : Word → ℕ → Bool  -- the boards whose echo, whose vote was kept
  pub val : Word → ℕ → Val  -- and what it names

-- what a step does with them: nothing; take a send, and echo this; keep a board's echo or vote for v, then vote where that is due
pub data Move (Val : Type 0) : Type 0 where
  still : Move Val
  acquire : Option Val → Move Val
  hear : Word → ℕ → Val → Move Val

abbrev pub keep : {Val : Type 0} → Core Val → Word → ℕ → Val → Core Val
keep c w i v = record { spoke = c.spoke; set = set_word c.set w (set_at (c.set w) i true); val = set_word c.val w (set_at (c.val w) i v) }

-- the boards whose echo (vote) names v
abbrev pub named_by : {Val : Type 0} → (Val → Val → Bool) → Core Val → Word → Val → ℕ → Bool
named_by same c w v i = c.set w i && same (c.val w i) v

-- document 01: "if n-t echoes name one root, or t+1 votes do, put out a vote for it"
unfoldable pub due_by : ℕ → ℕ → ℕ → ℕ → Bool
due_by n t echoes votes = leb (most_boards n t) echoes || leb (some_boards t) votes

-- document 01: "n-t votes name one root"
abbrev pub quorum : (n t : ℕ) {Val : Type 0} → (Val → Val → Bool) → Core Val → Val → Bool
quorum n t same c v = leb (most_boards n t) (count (named_by same c vote v) n)

module _ (n t : ℕ) {Val : Type 0} (same : Val → Val → Bool) where
  abbrev pub due : Core Val → Val → Bool
  due c v = due_by n t (count (named_by same c echo v) n) (count (named_by same c vote v) n)

  abbrev pub with_vote : Core Val → Val → Core Val
  with_vote c v = record { spoke = set_word c.spoke vote (c.spoke vote || due c v); set = c.set; val = c.val }

  -- the core after a move
  abbrev pub moved : Core Val → Move Val → Core Val
  moved c still = c
  moved c (acquire o) = record { spoke = set_word c.spoke echo true; set = c.set; val = c.val }
  moved c (hear w i v) = with_vote (keep c w i v) v

  -- what a move echoes, what it votes for
  abbrev pub said : Core Val → Move Val → Word → Option Val
  said c still w = none
  said c (acquire o) echo = o
  said c (acquire o) vote = none
  said c (hear w i v) echo = none
  said c (hear w i v) vote = pick (not (c.spoke vote) && due (keep c w i v) v) (some v) none
