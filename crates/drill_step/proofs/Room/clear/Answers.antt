use Rattle.std.proofs.Common.{refl, rules}
use Rattle.drill_step.proofs.Steps.{filled}
use Rattle.drill_step.proofs.Room.clear.Goals as goal

pub returns : goal.returns
returns c =
    let r = c.args.self.now in let p = c.requires in (
      record {
        states_zero = filled 35588 r.states.now c.fill.new.self p.states_long (search rules);
        kept_zero = filled 14336 r.kept.now c.fill-2.new.self p.kept_long (search rules);
        handed_zero = filled _ r.handed.now c.fill-3.new.self p.handed_long (search rules);
        out_zero = filled _ r.out.now c.fill-4.new.self p.out_long (search rules);
        delivery_zero = filled 64 r.delivery.now c.fill-5.new.self p.delivery_long (search rules);
      },
      record { states_same = refl; kept_same = refl; handed_same = refl; out_same = refl; delivery_same = refl },
    )
