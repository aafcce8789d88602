-- The whole: the heading and what follows it; the lent buffers before and after.
use mathlib.Core.Path.{◌≡◌, sym, ap, ◌∙◌}
use Prim.Native.Nat.{ℕ, ◌+◌, ◌≤◌}
use mathlib.Core.List.{List, ◌++◌}
use mathlib.Core.Bool.{true, false}
use native.Mathlib.Omega.{arith}
use borrow.Author.Tests.{ltb-false}
use lib.Dec.{ltb}
use lib.ListN.{length, drop}
use lib.Seq.{sets-eq}
use Rattle.record.specs.Form.{out_bytes}
use Rattle.octets.specs.Bytes.{pick, put}
use Rattle.octets.proofs.Picks.{or_none_l, or_none_r}
use Rattle.refusal.specs.Answers.{sized}
use Rattle.drill_boards.specs.Held.{zeros}
use Rattle.drill_boards.proofs.Zeros.{zeros_length}
use Rattle.drill.specs.Call.{Lent, lent, drill_short, drill_left_by, drill_out, call_of}
use Rattle.std.specs.Prelude.{Result}
use Rattle.drill_open.specs.declared.BadLine.{BadLine}
use Rattle.drill_open.specs.Opened.{opening1}
use Rattle.drill_print.specs.Text.{heading}
use Rattle.drill_print.specs.Printed.{Wrote}
use Rattle.drill_print.specs.declared.Page.{Page}
use Rattle.drill_print.proofs.Prints.{wrote_both}
use Rattle.drill.specs.Drill.{printed_by, drill_of}
use Rattle.drill.specs.Asked.{told, Tells, Ended, Long, DrillLeft}

-- the heading, then what is printed by the lines, then that one is bad
pub all_written : (input : List ℕ) (r : Result (Unit {0}) BadLine) {a b c d : Page} → Wrote heading a b → Tells (printed_by (opening1 input)) r b c → Wrote (told r) c d → Wrote (drill_of input) a d
unfolding drill_of
all_written input r x y z = wrote_both x (rw (← y.all) (wrote_both y.wrote z))

-- a front that was lent and came back is a put
pub front_put : (n : ℕ) (xs ys : List ℕ) → length ys ≡ n → n ≤ length xs → ys ++ drop n xs ≡ put 0 ys xs
unfolding put
front_put n xs ys l h =
    let q : 0 + length ys ≡ n = omega arith in
    sym (sets-eq ys xs 0 (omega arith) ∙ ap (λ (m : ℕ). ys ++ drop m xs) q)

front_zeros : (n : ℕ) (xs ys : List ℕ) → ys ≡ zeros n → n ≤ length xs → ys ++ drop n xs ≡ put 0 (zeros n) xs
front_zeros n xs ys e h = front_put n xs ys (ap length e ∙ zeros_length n) h ∙ ap (λ (v : List ℕ). put 0 v xs) e

pub long_enough : (b : Lent) → drill_short b ≡ false → Long b
unfolding drill_short
long_enough b e =
    let e1 = or_none_r (ltb (length b.message) 64) _ e in
    let e2 = or_none_r (ltb (length b.states) 35588) _ e1 in
    let e3 = or_none_r (ltb (length b.kept) 14336) _ e2 in
    let e4 = or_none_r (ltb (length b.handed) out_bytes) _ e3 in
    let e5 = or_none_r (ltb (length b.out) out_bytes) _ e4 in
    record {
      message_long = ltb-false (length b.message) 64 (or_none_l (ltb (length b.message) 64) _ e);
      states_long = ltb-false (length b.states) 35588 (or_none_l (ltb (length b.states) 35588) _ e1);
      kept_long = ltb-false (length b.kept) 14336 (or_none_l (ltb (length b.kept) 14336) _ e2);
      handed_long = ltb-false (length b.handed) out_bytes (or_none_l (ltb (length b.handed) out_bytes) _ e3);
      out_long = ltb-false (length b.out) out_bytes (or_none_l (ltb (length b.out) out_bytes) _ e4);
      delivery_long = ltb-false (length b.delivery) 64 (or_none_l (ltb (length b.delivery) 64) _ e5);
      text_long = ltb-false (length b.text) 154051 (or_none_r (ltb (length b.delivery) 64) _ e5);
    }

pub call_refused : (input : List ℕ) (b : Lent) → drill_short b ≡ true → drill_out (sized 2 0) b ≡ call_of input b
unfolding call_of pick
call_refused input b e = rw e

pub call_made : (input : List ℕ) (b b' : Lent) (q : ℕ) → drill_short b ≡ false → DrillLeft input q b b' → drill_out (sized 0 q) b' ≡ call_of input b
unfolding call_of pick
call_made input b b' q e w = rw (e, w.left_is, w.length_is)

-- what is left, put together
pub all_left : (input : List ℕ) (b : Lent) → Long b → (q : ℕ) (c : Lent) → Ended input q b.text c
    → DrillLeft input q b (lent (c.message ++ drop 64 b.message) (c.states ++ drop 35588 b.states) (c.kept ++ drop 14336 b.kept)
    (c.handed ++ drop out_bytes b.handed) (c.out ++ drop out_bytes b.out) (c.delivery ++ drop 64 b.delivery) c.text)
unfolding drill_left_by
all_left input b l q c w = record {
  left_is =
      rw (
        front_zeros 64 b.message c.message w.message_zero l.message_long,
        front_zeros 35588 b.states c.states w.states_zero l.states_long,
        front_zeros 14336 b.kept c.kept w.kept_zero l.kept_long,
        front_zeros out_bytes b.handed c.handed w.handed_zero l.handed_long,
        front_zeros out_bytes b.out c.out w.out_zero l.out_long,
        front_zeros 64 b.delivery c.delivery w.delivery_zero l.delivery_long,
        w.text_is,
      );
  length_is = w.length_is;
  few = w.few;
}
