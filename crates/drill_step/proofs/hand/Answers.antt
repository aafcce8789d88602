use native.Mathlib.Omega.{arith}
use mathlib.Core.Path.{refl}
use lib.ListN.{length}
use Prim.Native.Nat.{◌/◌, ◌≤◌}
use Rattle.octets.specs.Bytes.{pick}
use Rattle.drill_words.proofs.Fronts.{raw_front}
use Rattle.drill_step.specs.Boards.{record_for}
use Rattle.drill_boards.specs.Room.{boards_in}
use Rattle.drill_step.proofs.Turns.{numbers}
use Rattle.drill_step.proofs.hand.Goals as goal

pub overflow_sub-s : goal.overflow_sub-s
overflow_sub-s c = (numbers c.args.b c.args.message.now c.args.s c.requires.0).from_one

pub overflow_mul-s : goal.overflow_mul-s
overflow_mul-s c = let n = numbers c.args.b c.args.message.now c.args.s c.requires.0 in omega (arith, n.from_few)

pub hand_slot-requires : goal.hand_slot-requires
hand_slot-requires c = let n = numbers c.args.b c.args.message.now c.args.s c.requires.0 in (omega (arith, n.from_few), c.requires.1, c.requires.2)

pub overflow_sub-s-in-Vote : goal.overflow_sub-s-in-Vote
overflow_sub-s-in-Vote c = (numbers c.args.b c.args.message.now c.args.s c.requires.0).from_one

pub overflow_mul-s-in-Vote : goal.overflow_mul-s-in-Vote
overflow_mul-s-in-Vote c = let n = numbers c.args.b c.args.message.now c.args.s c.requires.0 in omega (arith, n.from_few)

pub overflow_add-s : goal.overflow_add-s
overflow_add-s c = let n = numbers c.args.b c.args.message.now c.args.s c.requires.0 in omega (arith, n.from_few)

pub hand_slot-requires-in-Vote : goal.hand_slot-requires-in-Vote
hand_slot-requires-in-Vote c = let n = numbers c.args.b c.args.message.now c.args.s c.requires.0 in (omega (arith, n.from_few), c.requires.1, c.requires.2)

pub returns-in-Send : goal.returns-in-Send
unfolding record_for pick
returns-in-Send c = (λ states l s. rw c.in-Send.is c.hand_send.ensures.0, c.hand_send.ensures.1)

pub returns-in-Echo : goal.returns-in-Echo
unfolding record_for pick boards_in
returns-in-Echo c = (λ states l s. rw c.in-Echo.is c.hand_slot.ensures.0, c.hand_slot.ensures.1)

pub returns-in-Vote : goal.returns-in-Vote
unfolding record_for pick boards_in
returns-in-Vote c = (λ states l s. rw c.in-Vote.is c.hand_slot-in-Vote.ensures.0, c.hand_slot-in-Vote.ensures.1)

pub returns-in-Raw : goal.returns-in-Raw
unfolding record_for pick boards_in
returns-in-Raw c =
    let hex = c.in-Raw.hex.now in
    let few = rw c.in-Raw.is at c.requires.0.raw_few in
    let short : length hex / 2 ≤ length c.args.handed.now = omega (arith, few, c.requires.2) in
    let front = raw_front (length hex / 2) hex c.args.handed.now c.decode.new.out refl short c.decode.ensures in
    (λ states l s. let raw = rw c.in-Raw.is at s in rw (c.in-Raw.is, ← raw) front, omega (arith, few))
