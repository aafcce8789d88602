-- What holds of a board of the line at every point of a run: it is started, its state is sound, and no step is refused with 2 or 3.
use Prim.Native.Nat.{ℕ}
use mathlib.Core.Bool.{Bool, true, not}
use mathlib.Core.Path.{◌≡◌}
use mathlib.Core.List.{List}
use mathlib.Core.Option.{some}
use lib.Dec.{T}
use Rattle.octets.specs.Bytes.{pick}
use Rattle.table.specs.Table.{limits, is_board}
use Rattle.table.specs.declared.Table.{Table}
use Rattle.record.specs.Form.{parse}
use Rattle.state.specs.State.{view, marks_of}
use Rattle.state.specs.Sound.{sound}
use Rattle.board.specs.Planned.{Refuse, by_form, plan_of}
use Rattle.line.specs.Boards.{Board}
use Rattle.line.specs.Run.{Machine, hand, Run, state}
use Rattle.line.specs.Project.{project}
use Rattle.line_desk.proofs.Carry.{sees}
use Rattle.line_desk.proofs.Carry as Desks
use Rattle.line_desk.specs.Desk.{Desk, Roomy}
use Rattle.line_demand.specs.Boards.{fragment_kind, boards}
use Rattle.line_demand.proofs.Acts.{plan_is}
use Rattle.line_demand.proofs.Started.{broadcast}
use Rattle.line_demand.proofs.Carry.{paper, Shows, begins, follows, Holds}

module _ (b : Table) (limited : limits b ≡ true) (lent : ℕ → Desk) (keeps : ℕ → Bool) (roomy : (j : ℕ) → T (keeps j) → Roomy (fragment_kind b) (lent j)) where
  abbrev BB : Machine
  BB = boards b lent

  pub started : (j : ℕ) → T (keeps j) → Board b.n j → (r : Run BB) → (d : Desk) × (state BB r j ≡ some d)
  started = Desks.started (fragment_kind b) (paper b) (follows b) lent keeps roomy b.n (begins b limited)

  -- so it takes what it is handed
  pub passed : (j : ℕ) → T (keeps j) → Board b.n j → (i : ℕ) (β : List ℕ) (q : Run BB) → sees (state BB q j) (hand i β) ≡ some (hand i β)
  passed = Desks.passed (fragment_kind b) (paper b) (follows b) lent keeps roomy b.n (begins b limited)

  module _ (r : Run BB) (j : ℕ) (kj : T (keeps j)) (d : Desk) (here : state BB r j ≡ some d) where
    pub held : Holds b j d (state (broadcast b) (project BB (broadcast b) sees r) j)
    held = Desks.held (fragment_kind b) (paper b) (follows b) lent keeps roomy r j kj d here

    -- and its state shows this
    pub shown : Shows b j d.state (state (broadcast b) (project BB (broadcast b) sees r) j)
    unfolding follows
    shown = held.shown

    -- document 01: "Whatever state a start or a step leaves is sound."
    pub run_sound : sound (view d.state) ≡ true
    run_sound = shown.is_sound

    -- a record is refused for what it is and who it comes from, and for nothing else
    pub run_plans : (i : ℕ) (x : List ℕ)
        → plan_of d.state i x d.out d.delivery ≡ pick (not (is_board b i)) (Refuse 4 0) (by_form b (marks_of d.state) i (parse x))
    run_plans i x =
        let h = shown in
        plan_is b j d.state h.table h.is_sound h.room i x d.out d.delivery held.out held.delivery
