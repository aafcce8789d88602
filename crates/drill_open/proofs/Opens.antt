-- What the four lines before the steps say, line by line.
use mathlib.Core.Path.{◌≡◌}
use Prim.Native.Nat.{ℕ, ◌*◌, ◌/◌, ◌≤◌}
use mathlib.Core.List.{List}
use mathlib.Core.Bool.{Bool, true, false}
use native.Mathlib.Omega.{arith}
use borrow.Author.Tests.{lt-ltb, le-ltb, leb-true, eqb-true}
use lib.Dec.{leb, ltb}
use lib.ListN.{length}
use Rattle.std.specs.Prelude.{Option, None, Some, Err, ok_or}
use Rattle.octets.specs.Bytes.{pick}
use Rattle.octets.proofs.Picks.{and_l, and_r}
use Rattle.table.specs.declared.Table.{Table}
use Rattle.drill_words.specs.Words.{upto, word}
use Rattle.drill_words.specs.Numbers.{number_of, is_hex, from_hex}
use Rattle.drill_lines.specs.Lines.{Breakers, form, spaces_for, table_in, right_table, breakers_in, right_breakers, message_in, right_message, count_in, right_count}
use Rattle.drill_open.specs.Next.{Line}
use Rattle.drill_open.specs.declared.BadLine.{BadLine}
use Rattle.drill_open.specs.Opened.{wrong, begins, line_right, opening4, opening3, opening2, opening1}

-- a right message has at most L bytes
pub message_few : (b : Table) (l : List ℕ) → right_message b l ≡ true → length (word 1 l) / 2 ≤ b.longest
unfolding right_message
message_few b l e =
    let c = number_of (word 0 l) in
    let r = and_r (form l (spaces_for c)) _ e in
    let few : c ≤ b.longest = leb-true c b.longest (and_l (leb c b.longest) _ r) in
    let size : length (word 1 l) ≡ 2 * c = eqb-true (length (word 1 l)) (2 * c) (and_r (is_hex (word 1 l)) _ (and_r (leb c b.longest) _ r)) in
    omega arith

-- a right count is at most 1,000
pub count_few : (l : List ℕ) → right_count l ≡ true → count_in l ≤ 1000
unfolding right_count
count_few l e = leb-true (count_in l) 1000 (and_r (form l 0) _ e)

-- a line that is right, there or not
pub right_line : (right : List ℕ → Bool) (rest : List ℕ) → line_right right rest ≡ true → right (upto 10 rest) ≡ true
unfolding line_right
right_line right rest e = and_r (ltb 0 (length rest)) (right (upto 10 rest)) e

-- whether the next line is right
pub missing : (right : List ℕ → Bool) (rest : List ℕ) → length rest ≡ 0 → line_right right rest ≡ false
unfolding line_right
missing right rest h = rw (le-ltb 0 (length rest) (omega arith))

pub next : (right : List ℕ → Bool) (rest l more : List ℕ) (r : Bool) → Line rest l more → right l ≡ r → line_right right rest ≡ r
unfolding line_right
next right rest l more r x g = rw (lt-ltb 0 (length rest) x.there, ← x.line_is) g

-- what the lines say from one on, where it is missing, not right, or right
pub none1 : (rest : List ℕ) → length rest ≡ 0 → wrong 1 ≡ opening1 rest
unfolding opening1 pick
none1 rest h = rw (missing right_table rest h)

pub wrong1 : {rest l more : List ℕ} → Line rest l more → right_table l ≡ false → wrong 1 ≡ opening1 rest
unfolding opening1 pick
wrong1 {rest} {l} {more} x h = rw (next right_table rest l more false x h)

pub right1 : {rest l more : List ℕ} (b : Table) → Line rest l more → (right_table l ≡ true) × (b ≡ table_in l) → opening2 b more ≡ opening1 rest
unfolding opening1 pick
right1 {rest} {l} {more} b x t = rw (next right_table rest l more true x t.0, t.1, ← x.line_is, ← x.rest_is)

pub none2 : (rest : List ℕ) (b : Table) → length rest ≡ 0 → wrong 2 ≡ opening2 b rest
unfolding opening2 pick
none2 rest b h = rw (missing (right_breakers b) rest h)

pub wrong2 : {rest l more : List ℕ} (b : Table) → Line rest l more → right_breakers b l ≡ false → wrong 2 ≡ opening2 b rest
unfolding opening2 pick
wrong2 {rest} {l} {more} b x h = rw (next (right_breakers b) rest l more false x h)

pub right2 : {rest l more : List ℕ} (b : Table) (y : Breakers) → Line rest l more → (right_breakers b l ≡ true) × (y ≡ breakers_in l) → opening3 b y more ≡ opening2 b rest
unfolding opening2 pick
right2 {rest} {l} {more} b y x t = rw (next (right_breakers b) rest l more true x t.0, t.1, ← x.line_is, ← x.rest_is)

pub none3 : (rest : List ℕ) (b : Table) (y : Breakers) → length rest ≡ 0 → wrong 3 ≡ opening3 b y rest
unfolding opening3 pick
none3 rest b y h = rw (missing (right_message b) rest h)

pub wrong3 : {rest l more : List ℕ} (b : Table) (y : Breakers) → Line rest l more → right_message b l ≡ false → wrong 3 ≡ opening3 b y rest
unfolding opening3 pick
wrong3 {rest} {l} {more} b y x h = rw (next (right_message b) rest l more false x h)

pub right3 : {rest l more : List ℕ} (b : Table) (y : Breakers) (m : List ℕ) → Line rest l more → (right_message b l ≡ true) × (m ≡ word 1 l) → opening4 b y (from_hex m) more ≡ opening3 b y rest
unfolding opening3 message_in pick
right3 {rest} {l} {more} b y m x t = rw (next (right_message b) rest l more true x t.0, t.1, ← x.line_is, ← x.rest_is)

pub none4 : (rest : List ℕ) (b : Table) (y : Breakers) (m : List ℕ) → length rest ≡ 0 → wrong 4 ≡ opening4 b y m rest
unfolding opening4 pick
none4 rest b y m h = rw (missing right_count rest h)

pub wrong4 : {rest l more : List ℕ} (b : Table) (y : Breakers) (m : List ℕ) → Line rest l more → right_count l ≡ false → wrong 4 ≡ opening4 b y m rest
unfolding opening4 pick
wrong4 {rest} {l} {more} b y m x h = rw (next right_count rest l more false x h)

pub right4 : {rest l more : List ℕ} (b : Table) (y : Breakers) (m : List ℕ) (c : ℕ) → Line rest l more → (right_count l ≡ true) × (c ≡ count_in l) → begins b y m c more ≡ opening4 b y m rest
unfolding opening4 pick
right4 {rest} {l} {more} b y m c x t = rw (next right_count rest l more true x t.0, t.1, ← x.line_is, ← x.rest_is)

-- the line's number at an exit
pub bad_number : {X : Type 0} (o : Option X) (n : ℕ) (e : BadLine) → Err e ≡ ok_or o (record { line = n }) → e.line ≡ n
bad_number None n e h = cc
bad_number (Some x) n e h = cc
