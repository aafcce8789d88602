use Rattle.octets.specs.Bytes.{pick}
use borrow.Author.Tests.{lt-ltb, le-ltb}
use Rattle.code_calls.specs.Hashing.{hash_of}
use Rattle.code_calls.proofs.hash.Goals as goal

pub returns-then-string-gt65536 : goal.returns-then-string-gt65536
unfolding hash_of pick
returns-then-string-gt65536 c = rw (lt-ltb _ _ c.if-string-gt65536.true)

pub returns : goal.returns
unfolding hash_of pick
returns c = rw (le-ltb _ _ c.if-string-gt65536.false, c.joined.ensures)
