use Rattle.std.proofs.Common.{◌≡◌, refl, ap, rules, length, replicate, Ok, Err, ◌∙◌}
use native.Mathlib.Omega.{arith}
use Rattle.drill_print.specs.Text.{heading}
use Rattle.drill_print.proofs.Prints.{wrote_none, wrote_to}
use Rattle.drill_boards.specs.Held.{zeros}
use Rattle.drill_boards.proofs.Zeros.{zeros_length}
use Rattle.drill_step.proofs.Steps.{filled}
use Rattle.drill.proofs.Goings.{same_both}
use Rattle.drill.proofs.Calls.{all_written}
use Rattle.drill.proofs.run_all.Goals as goal
use Rattle.drill.proofs.run_all.Goals.{in-Err, in_default}

pub run-requires : goal.run-requires
run-requires c =
    let r = c.args.room.now in let p = c.requires.1 in
    let states : c.fill.new.self ≡ zeros 35588 = filled 35588 r.states.now c.fill.new.self p.states_long (search rules) in
    let kept : c.fill-2.new.self ≡ zeros 14336 = filled 14336 r.kept.now c.fill-2.new.self p.kept_long (search rules) in (
      c.requires.0,
      record {
        states_long = ap length states ∙ zeros_length 35588;
        kept_long = ap length kept ∙ zeros_length 14336;
        handed_long = p.handed_long;
        out_long = p.out_long;
        delivery_long = p.delivery_long;
      },
      states,
      kept,
      omega (arith, wrote_to c.put.ensures, c.put.ensures.long, c.requires.2, c.requires.3),
    )

pub returns : goal.returns
unfolding heading
returns c =
    let message : c.fill-3.new.self ≡ replicate (length c.run.new.message) 0 = search rules in (
      elim c.match-run.branch [
        | in-Err w ↦ rw w.page-is (all_written c.args.input.now (Err w.in-Err.bad) c.put.ensures w.in-Err.ensures.0 w.put_bad.ensures.0)
        | in_default w ↦ rw w.page-is (all_written c.args.input.now (Ok w.in_default.field-0) c.put.ensures w.in_default.ensures.0 (wrote_none c.run.new.page))
      ],
      elim c.match-run.branch [
        | in-Err w ↦ rw w.page-is (omega (arith, wrote_to c.put.ensures, w.in-Err.ensures.1, w.put_bad.ensures.1, c.requires.2))
        | in_default w ↦ rw w.page-is (omega (arith, wrote_to c.put.ensures, w.in_default.ensures.1, c.requires.2))
      ],
      filled 64 c.run.new.message c.fill-3.new.self (c.run.auto.message ∙ c.requires.0) message,
      c.clear.ensures.0,
      same_both (record { states_same = refl; kept_same = refl; handed_same = refl; out_same = refl; delivery_same = refl }) (same_both c.run.ensures.3 c.clear.ensures.1),
    )
