use Rattle.std.proofs.Common.{rules, refl}
use native.Mathlib.Omega.{arith}
use Rattle.drill.proofs.run_lent.Goals as goal

pub run_all-requires : goal.run_all-requires
run_all-requires c =
    let p = c.requires in
    (p.message_is, record { states_long = p.states_is; kept_long = p.kept_is; handed_long = p.handed_is; out_long = p.out_is; delivery_long = p.delivery_is }, refl, p.text_long)

pub returns : goal.returns
returns c =
    let r = c.run_all.ensures in
    record {
      text_is = search (rules, r.0.same_text, r.0.printed.text_is);
      length_is = omega (arith, r.0.printed.ends);
      few = r.1;
      message_zero = r.2;
      states_zero = search (rules, r.4.states_same, r.3.states_zero);
      kept_zero = search (rules, r.4.kept_same, r.3.kept_zero);
      handed_zero = search (rules, r.4.handed_same, r.3.handed_zero);
      out_zero = search (rules, r.4.out_same, r.3.out_zero);
      delivery_zero = search (rules, r.4.delivery_same, r.3.delivery_zero);
    }
