-- `board_plan::first_refusal` meets its contract.
-- Assumes nothing.
use mathlib.Core.Path.{sym, ◌∙◌}
use borrow.Author.Tests.{lt-ltb, le-ltb}
use lib.ListN.{length}
use Rattle.octets.specs.Bytes.{pick}
use Rattle.state.specs.State.{fixed_bytes, view}
use Rattle.state.proofs.Facts.{sound_limits}
use Rattle.board_plan.proofs.first_refusal.Goals as goal

pub returns-then-s-lt-FIXED_BYTES : goal.returns-then-s-lt-FIXED_BYTES
unfolding pick
returns-then-s-lt-FIXED_BYTES c = rw (lt-ltb _ _ c.if-s-lt-FIXED_BYTES.true)

pub returns-then-not-is_sound : goal.returns-then-not-is_sound
unfolding pick
returns-then-not-is_sound c = rw (le-ltb (length c.args.s.now) fixed_bytes c.if-s-lt-FIXED_BYTES.false, ← c.is_sound.ensures, c.if-not-is_sound.true)

pub invariant_of-b : goal.invariant_of-b
invariant_of-b c = record { within = rw c.read_table.ensures (sound_limits (view c.args.s.now) (sym c.is_sound.ensures ∙ c.if-not-is_sound.false)) }

pub returns-then-short : goal.returns-then-short
unfolding pick
returns-then-short c = rw (le-ltb (length c.args.s.now) fixed_bytes c.if-s-lt-FIXED_BYTES.false, ← c.is_sound.ensures, c.if-not-is_sound.false, ← c.read_table.ensures, ← c.short.ensures, c.if-short.true)

pub returns : goal.returns
unfolding pick
returns c = rw (le-ltb (length c.args.s.now) fixed_bytes c.if-s-lt-FIXED_BYTES.false, ← c.is_sound.ensures, c.if-not-is_sound.false, ← c.read_table.ensures, ← c.short.ensures, c.if-short.false)
