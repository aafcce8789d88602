use mathlib.Core.Path.{◌≡◌, refl, ap, ◌∙◌}
use mathlib.Core.List.{List, []}
use Prim.Native.Nat.{ℕ}
use Rattle.drill_boards.specs.Room.{boards_in}
use native.Mathlib.Omega.{arith}
use Rattle.std.proofs.lemmas.Result.{err_from_is_err_and}
use Rattle.drill_print.proofs.Prints.{wrote_none}
use Rattle.drill_step.specs.Asked.{boards_of}
use Rattle.drill_step.specs.Boards.{fresh}
use Rattle.drill.specs.Drill.{printed_by}
use Rattle.drill.proofs.Goings.{same_room, same_both}
use Rattle.drill.proofs.run.Goals as goal

pub returns-in_err-o : goal.returns-in_err-o
unfolding printed_by
returns-in_err-o c =
    let p = err_from_is_err_and c.from_residual.result c.from_residual.ensures.1 in
    rw (p.1, p.2, ← c.in_err-o.ensures) (record { text = []; wrote = wrote_none c.args.page.now; all = refl }, omega arith, c.requires.1, same_room c.args.room.now)

pub returns : goal.returns
unfolding printed_by
returns c =
    let r = c.run_steps.ensures in
    let o = c.in_ok-o.o in
    let e : boards_of c.start.new.self ≡ fresh o.table.limits.table = ap (λ (k : List ℕ). boards_in c.start.new.self.states.now k) (c.start.ensures.3 ∙ c.requires.3) ∙ c.start.ensures.0 in
    (rw (← c.in_ok-o.ensures, ← e) r.0, r.1, r.2, same_both c.start.ensures.2 r.3)
