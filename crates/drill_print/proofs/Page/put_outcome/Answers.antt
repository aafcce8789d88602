use native.Mathlib.Omega.{arith}
use lib.ListN.{take, length-take}
use Rattle.octets.specs.Bytes.{pick}
use Rattle.drill_print.specs.Text.{outcome_text}
use Rattle.drill_print.proofs.Prints.{wrote_both, wrote_to, hex_length}
use Rattle.drill_print.proofs.Page.put_outcome.Goals as goal

pub put-requires-in-Message : goal.put-requires-in-Message
put-requires-in-Message c =
    let few = rw c.in-Message.is at c.requires.1 in
    let hex = take c.in-Message.n c.args.message.now in
    omega (arith, few, wrote_to c.put.ensures, wrote_to c.put_hex.ensures, hex_length hex, length-take c.in-Message.n c.args.message.now, c.put.ensures.long, c.put_hex.ensures.long, c.requires.0)

pub returns-in-Message : goal.returns-in-Message
unfolding outcome_text pick
returns-in-Message c =
    let few = rw c.in-Message.is at c.requires.1 in
    let hex = take c.in-Message.n c.args.message.now in (
      rw c.in-Message.is (wrote_both c.put.ensures (wrote_both c.put_hex.ensures c.put-in-Message.ensures)),
      omega (arith, few, wrote_to c.put.ensures, wrote_to c.put_hex.ensures, wrote_to c.put-in-Message.ensures, hex_length hex, length-take c.in-Message.n c.args.message.now),
    )
