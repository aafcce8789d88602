use native.Mathlib.Omega.{arith}
use mathlib.Core.Path.{◌≡◌, refl, ◌∙◌}
use mathlib.Core.Bool.{true, false}
use Prim.Native.Nat.{◌≤◌, ◌/◌}
use lib.ListN.{length}
use Rattle.std.proofs.lemmas.Result.{err_from_is_err_and}
use Rattle.drill_words.specs.Words.{word}
use Rattle.drill_words.specs.Numbers.{from_hex}
use Rattle.drill_words.proofs.Fronts.{raw_front}
use Rattle.drill_lines.specs.Lines.{table_in, right_table, breakers_in, right_breakers, right_message, count_in, right_count}
use Rattle.drill_lines.specs.Read.{numbered}
use Rattle.drill_open.proofs.Opens.{message_few, count_few, bad_number, none1, wrong1, right1, none2, wrong2, right2, none3, wrong3, right3, none4, wrong4, right4}
use Rattle.drill_open.proofs.Opening.read.Goals as goal

pub returns-in_err-line : goal.returns-in_err-line
returns-in_err-line c =
    let p = err_from_is_err_and c.from_residual.result c.from_residual.ensures.1 in
    rw (p.1, p.2, c.in_err-line.ensures.0) (none1 c.args.input.now c.in_err-line.ensures.1)

pub returns-in_err-table : goal.returns-in_err-table
returns-in_err-table c =
    let p = err_from_is_err_and c.from_residual-in_err-table.result c.from_residual-in_err-table.ensures.1 in
    let bad = bad_number c.right_table_in.result 1 _ c.in_err-table.ensures.value in
    let t : right_table c.in_ok-line.line.now ≡ false = rw c.in_err-table.ensures.ok_part at c.right_table_in.ensures in
    rw (p.1, p.2, bad) (wrong1 c.in_ok-line.ensures t)

pub returns-in_err-line-2 : goal.returns-in_err-line-2
returns-in_err-line-2 c =
    let p = err_from_is_err_and c.from_residual-in_err-line-2.result c.from_residual-in_err-line-2.ensures.1 in
    let b = c.in_ok-table.table.limits.table in
    let t1 : (right_table c.in_ok-line.line.now ≡ true) × (b ≡ table_in c.in_ok-line.line.now) = rw c.in_ok-table.ensures.ok_part at c.right_table_in.ensures in
    rw (p.1, p.2, c.in_err-line-2.ensures.0) (none2 c.in_ok-line.rest.now b c.in_err-line-2.ensures.1 ∙ right1 b c.in_ok-line.ensures t1)

pub returns-in_err-breakers : goal.returns-in_err-breakers
returns-in_err-breakers c =
    let p = err_from_is_err_and c.from_residual-in_err-breakers.result c.from_residual-in_err-breakers.ensures.1 in
    let bad = bad_number c.right_breakers_in.result 2 _ c.in_err-breakers.ensures.value in
    let b = c.in_ok-table.table.limits.table in
    let t1 : (right_table c.in_ok-line.line.now ≡ true) × (b ≡ table_in c.in_ok-line.line.now) = rw c.in_ok-table.ensures.ok_part at c.right_table_in.ensures in
    let t : right_breakers b c.in_ok-line-2.line.now ≡ false = rw c.in_err-breakers.ensures.ok_part at c.right_breakers_in.ensures in
    rw (p.1, p.2, bad) (wrong2 b c.in_ok-line-2.ensures t ∙ right1 b c.in_ok-line.ensures t1)

pub returns-in_err-line-3 : goal.returns-in_err-line-3
returns-in_err-line-3 c =
    let p = err_from_is_err_and c.from_residual-in_err-line-3.result c.from_residual-in_err-line-3.ensures.1 in
    let b = c.in_ok-table.table.limits.table in
    let t1 : (right_table c.in_ok-line.line.now ≡ true) × (b ≡ table_in c.in_ok-line.line.now) = rw c.in_ok-table.ensures.ok_part at c.right_table_in.ensures in
    let y = numbered c.in_ok-breakers.breakers in
    let t2 : (right_breakers b c.in_ok-line-2.line.now ≡ true) × (y ≡ breakers_in c.in_ok-line-2.line.now) = rw c.in_ok-breakers.ensures.ok_part at c.right_breakers_in.ensures in
    rw (p.1, p.2, c.in_err-line-3.ensures.0) (none3 c.in_ok-line-2.rest.now b y c.in_err-line-3.ensures.1 ∙ right2 b y c.in_ok-line-2.ensures t2 ∙ right1 b c.in_ok-line.ensures t1)

pub returns-in_err-hex : goal.returns-in_err-hex
returns-in_err-hex c =
    let p = err_from_is_err_and c.from_residual-in_err-hex.result c.from_residual-in_err-hex.ensures.1 in
    let bad = bad_number c.message_in.result 3 _ c.in_err-hex.ensures.value in
    let b = c.in_ok-table.table.limits.table in
    let t1 : (right_table c.in_ok-line.line.now ≡ true) × (b ≡ table_in c.in_ok-line.line.now) = rw c.in_ok-table.ensures.ok_part at c.right_table_in.ensures in
    let y = numbered c.in_ok-breakers.breakers in
    let t2 : (right_breakers b c.in_ok-line-2.line.now ≡ true) × (y ≡ breakers_in c.in_ok-line-2.line.now) = rw c.in_ok-breakers.ensures.ok_part at c.right_breakers_in.ensures in
    let t : right_message b c.in_ok-line-3.line.now ≡ false = rw c.in_err-hex.ensures.ok_part at c.message_in.ensures in
    rw (p.1, p.2, bad) (wrong3 b y c.in_ok-line-3.ensures t ∙ right2 b y c.in_ok-line-2.ensures t2 ∙ right1 b c.in_ok-line.ensures t1)

pub returns-in_err-line-4 : goal.returns-in_err-line-4
returns-in_err-line-4 c =
    let p = err_from_is_err_and c.from_residual-in_err-line-4.result c.from_residual-in_err-line-4.ensures.1 in
    let b = c.in_ok-table.table.limits.table in
    let t1 : (right_table c.in_ok-line.line.now ≡ true) × (b ≡ table_in c.in_ok-line.line.now) = rw c.in_ok-table.ensures.ok_part at c.right_table_in.ensures in
    let y = numbered c.in_ok-breakers.breakers in
    let t2 : (right_breakers b c.in_ok-line-2.line.now ≡ true) × (y ≡ breakers_in c.in_ok-line-2.line.now) = rw c.in_ok-breakers.ensures.ok_part at c.right_breakers_in.ensures in
    let m = c.in_ok-hex.hex.now in
    let t3 : (right_message b c.in_ok-line-3.line.now ≡ true) × (m ≡ word 1 c.in_ok-line-3.line.now) = rw c.in_ok-hex.ensures.ok_part at c.message_in.ensures in
    rw (p.1, p.2, c.in_err-line-4.ensures.0) (none4 c.in_ok-line-3.rest.now b y (from_hex m) c.in_err-line-4.ensures.1 ∙ right3 b y m c.in_ok-line-3.ensures t3 ∙ right2 b y c.in_ok-line-2.ensures t2 ∙ right1 b c.in_ok-line.ensures t1)

pub returns-in_err-count : goal.returns-in_err-count
returns-in_err-count c =
    let p = err_from_is_err_and c.from_residual-in_err-count.result c.from_residual-in_err-count.ensures.1 in
    let bad = bad_number c.count_in.result 4 _ c.in_err-count.ensures.value in
    let b = c.in_ok-table.table.limits.table in
    let t1 : (right_table c.in_ok-line.line.now ≡ true) × (b ≡ table_in c.in_ok-line.line.now) = rw c.in_ok-table.ensures.ok_part at c.right_table_in.ensures in
    let y = numbered c.in_ok-breakers.breakers in
    let t2 : (right_breakers b c.in_ok-line-2.line.now ≡ true) × (y ≡ breakers_in c.in_ok-line-2.line.now) = rw c.in_ok-breakers.ensures.ok_part at c.right_breakers_in.ensures in
    let m = c.in_ok-hex.hex.now in
    let t3 : (right_message b c.in_ok-line-3.line.now ≡ true) × (m ≡ word 1 c.in_ok-line-3.line.now) = rw c.in_ok-hex.ensures.ok_part at c.message_in.ensures in
    let t : right_count c.in_ok-line-4.line.now ≡ false = rw c.in_err-count.ensures.ok_part at c.count_in.ensures in
    rw (p.1, p.2, bad) (wrong4 b y (from_hex m) c.in_ok-line-4.ensures t ∙ right3 b y m c.in_ok-line-3.ensures t3 ∙ right2 b y c.in_ok-line-2.ensures t2 ∙ right1 b c.in_ok-line.ensures t1)

pub decode-requires : goal.decode-requires
decode-requires c =
    let b = c.in_ok-table.table.limits.table in
    let t1 : (right_table c.in_ok-line.line.now ≡ true) × (b ≡ table_in c.in_ok-line.line.now) = rw c.in_ok-table.ensures.ok_part at c.right_table_in.ensures in
    let y = numbered c.in_ok-breakers.breakers in
    let t2 : (right_breakers b c.in_ok-line-2.line.now ≡ true) × (y ≡ breakers_in c.in_ok-line-2.line.now) = rw c.in_ok-breakers.ensures.ok_part at c.right_breakers_in.ensures in
    let m = c.in_ok-hex.hex.now in
    let t3 : (right_message b c.in_ok-line-3.line.now ≡ true) × (m ≡ word 1 c.in_ok-line-3.line.now) = rw c.in_ok-hex.ensures.ok_part at c.message_in.ensures in
    let few = message_few b c.in_ok-line-3.line.now t3.0 in
    rw (t3.1) (omega (arith, few, c.in_ok-table.table.short, c.requires))

pub invariant_of-result : goal.invariant_of-result
invariant_of-result c =
    let b = c.in_ok-table.table.limits.table in
    let t1 : (right_table c.in_ok-line.line.now ≡ true) × (b ≡ table_in c.in_ok-line.line.now) = rw c.in_ok-table.ensures.ok_part at c.right_table_in.ensures in
    let y = numbered c.in_ok-breakers.breakers in
    let t2 : (right_breakers b c.in_ok-line-2.line.now ≡ true) × (y ≡ breakers_in c.in_ok-line-2.line.now) = rw c.in_ok-breakers.ensures.ok_part at c.right_breakers_in.ensures in
    let m = c.in_ok-hex.hex.now in
    let t3 : (right_message b c.in_ok-line-3.line.now ≡ true) × (m ≡ word 1 c.in_ok-line-3.line.now) = rw c.in_ok-hex.ensures.ok_part at c.message_in.ensures in
    let t4 : (right_count c.in_ok-line-4.line.now ≡ true) × (c.in_ok-count.count ≡ count_in c.in_ok-line-4.line.now) = rw c.in_ok-count.ensures.ok_part at c.count_in.ensures in
    record { fits = rw (t3.1) (message_few b c.in_ok-line-3.line.now t3.0); few = rw (t4.1) (count_few c.in_ok-line-4.line.now t4.0) }

pub returns : goal.returns
returns c =
    let b = c.in_ok-table.table.limits.table in
    let t1 : (right_table c.in_ok-line.line.now ≡ true) × (b ≡ table_in c.in_ok-line.line.now) = rw c.in_ok-table.ensures.ok_part at c.right_table_in.ensures in
    let y = numbered c.in_ok-breakers.breakers in
    let t2 : (right_breakers b c.in_ok-line-2.line.now ≡ true) × (y ≡ breakers_in c.in_ok-line-2.line.now) = rw c.in_ok-breakers.ensures.ok_part at c.right_breakers_in.ensures in
    let m = c.in_ok-hex.hex.now in
    let t3 : (right_message b c.in_ok-line-3.line.now ≡ true) × (m ≡ word 1 c.in_ok-line-3.line.now) = rw c.in_ok-hex.ensures.ok_part at c.message_in.ensures in
    let t4 : (right_count c.in_ok-line-4.line.now ≡ true) × (c.in_ok-count.count ≡ count_in c.in_ok-line-4.line.now) = rw c.in_ok-count.ensures.ok_part at c.count_in.ensures in
    let few : length m / 2 ≤ b.longest = rw (t3.1) (message_few b c.in_ok-line-3.line.now t3.0) in
    let short : length m / 2 ≤ length c.args.message.now = omega (arith, few, c.in_ok-table.table.short, c.requires) in
    let e = raw_front (length m / 2) m c.args.message.now c.decode.new.out refl short c.decode.ensures in
    rw e (right4 b y (from_hex m) c.in_ok-count.count c.in_ok-line-4.ensures t4 ∙ right3 b y m c.in_ok-line-3.ensures t3 ∙ right2 b y c.in_ok-line-2.ensures t2 ∙ right1 b c.in_ok-line.ensures t1)
