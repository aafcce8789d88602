use Rattle.drill_words.specs.Numbers.{is_hex}
use Rattle.drill_words.proofs.Counting.{digits_are}
use Rattle.drill_words.proofs.is_hex.Goals as goal

pub returns-then-hex_digits : goal.returns-then-hex_digits
unfolding is_hex
returns-then-hex_digits c = rw (digits_are c.args.w.now, ← c.hex_digits.ensures, c.if-hex_digits.true)

pub returns-else-hex_digits : goal.returns-else-hex_digits
unfolding is_hex
returns-else-hex_digits c = rw (digits_are c.args.w.now, ← c.hex_digits.ensures, c.if-hex_digits.false)
