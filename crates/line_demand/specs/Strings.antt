-- Document 01: "The strings hashed in a run are those that, by the written definitions, are hashed in path checks of records that rule-keeping
-- boards accept, in these boards' fresh encodings and in a rule-keeping sender's encoding; what rule-breakers hash doesn't count."
use Rattle.std.specs.Prelude.{ℕ, ◌-◌, ◌≡◌, Bool, not, ◌⊎◌, T, eqb}
use mathlib.Core.List.{List, [], ◌++◌, Memᴰ}
use Rattle.std.proofs.Math.Option.{Option, some, none}
use Rattle.octets.specs.Bytes.{pick}
use Rattle.table.specs.Table.{s_max}
use Rattle.table.specs.declared.Table.{Table}
use Rattle.sha256.specs.Sha256.{sha256}
use Rattle.tree.specs.Strings.{check_strings, tree_strings}
use Rattle.code_encode.specs.Message.{fragment_for}
use Rattle.state.specs.State.{table_of, marks_of}
use Rattle.board.specs.Planned.{Plan, Refuse, Take, plan_of}
use Rattle.board.specs.Stepped.{record_root, record_path, record_fragment, marked, kept, ends_now}
use Rattle.board_step.specs.Step.{place_of, good, usable_for, kept_of}
use Rattle.line.specs.Run.{Input, hand, tell, Run}
use Rattle.line_fragments.specs.Hashed.{Hashed}
use Rattle.line.specs.Bytes.{bytes}
use Rattle.line_code.specs.Parts.{fresh_strings}
use Rattle.line_desk.specs.Desk.{Desk, Lend}
use Rattle.line_demand.specs.Boards.{boards}

-- "in path checks of records that rule-keeping boards accept": of a send at the own number, of an echo at the sender's; a vote has no path
unfoldable pub path_strings : ℕ → ℕ → ℕ → List ℕ → ℕ → List ℕ → List (List ℕ)
path_strings k p f s from r = pick (eqb k 3) [] (check_strings (table_of s).n (place_of k from s) (record_path p r) (record_fragment p f r))

-- "in these boards' fresh encodings", if the delivery is due
unfoldable pub delivery_strings : ℕ → ℕ → ℕ → List ℕ → ℕ → List ℕ → List (List ℕ)
delivery_strings k p f s from r =
    let b = table_of s in
    let m = marked k (from - 1) (good k p f from r s) (marks_of s) in
    let s1 = kept (s_max b) k (from - 1) p f r s in
    pick (ends_now b (not (eqb k 1)) m s1 (record_root r)) (fresh_strings b (usable_for b m s1 (record_root r)) (kept_of (s_max b) s1)) []

-- "records that rule-keeping boards accept": a record that is refused has no strings
unfoldable pub plan_strings : Plan → List ℕ → ℕ → List ℕ → List (List ℕ)
plan_strings (Refuse q a) s from r = []
plan_strings (Take k p f) s from r = path_strings k p f s from r ++ delivery_strings k p f s from r

-- the strings hashed in a board's step
unfoldable pub step_strings : Option Desk → Input Lend (List ℕ) → List (List ℕ)
step_strings none x = []
step_strings (some d) (tell l) = []
step_strings (some d) (hand i r) = pick (bytes r) (plan_strings (plan_of d.state i r d.out d.delivery) d.state i r) []

-- a string is hashed in a run: by a rule-keeping board in a step, or "in a rule-keeping sender's encoding" of its message m
module _ (b : Table) (lent : ℕ → Desk) (keeps : ℕ → Bool) (m : List ℕ) (r : Run (boards b lent)) where
  abbrev pub HashedInRun : List ℕ → Type 0
  HashedInRun y =
      Hashed (boards b lent) (List ℕ) (λ d x y. Memᴰ y (step_strings d x)) keeps y r
      ⊎ (T (keeps b.sender) × Memᴰ y (tree_strings b.n (fragment_for b m)))

  -- "two different byte strings hashed in the run have one SHA-256 value"
  abbrev pub OneValue : Type 0
  OneValue = (x y : List ℕ) × HashedInRun x × HashedInRun y × (x ≡ y → ⊥) × (sha256 x ≡ sha256 y)
