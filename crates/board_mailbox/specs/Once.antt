-- "Records put out (in total at most one echo and one vote) and delivery": how many of the items put something out, or deliver.
use Rattle.std.specs.Prelude.{ℕ, ◌+◌, ◌≤◌, List, [], ◌∷◌, Bool}
use Rattle.octets.specs.Sets.{bit}
use Rattle.mailbox.specs.Items.{Item}
use Rattle.board_step.specs.Step.{Outcome}
use Rattle.board_mailbox.specs.Emptied.{Emptied, is_put, delivers, step_for, handed}

-- how many of the items, handed over singly from item i on, have a step of which this is so
unfoldable pub how_often : (Outcome → Bool) → ℕ → List Item → Emptied → ℕ
how_often does i [] x = 0
how_often does i (item ∷ rest) x = bit (does (step_for item x)) + how_often does (i + 1) rest (handed i item x)

-- one echo at most, one vote and one delivery: so one buffer for each is enough
pub record OneOfEach (items : List Item) (x : Emptied) : Type 0 where
  pub echo : how_often (is_put 2) 0 items x ≤ 1
  pub vote : how_often (is_put 3) 0 items x ≤ 1
  pub delivery : how_often delivers 0 items x ≤ 1
