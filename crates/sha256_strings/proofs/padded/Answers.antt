-- `sha256_strings::padded` meets its contract. Assumes nothing.
use mathlib.Core.Path.{sym}
use mathlib.Core.List.{◌++◌}
use native.Mathlib.Omega.{arith}
use lib.ListN.{length-append}
use Rattle.sha256.proofs.Padding.{pad_head, pad_body, pad_one, pad_zero}
use Rattle.sha256_strings.proofs.padded.Goals as goal

pub returns-then-i-h : goal.returns-then-i-h
returns-then-i-h c =
    let a = c.args in sym (pad_head a.head.now a.body.now a.i (omega arith))

pub returns-then-i-n : goal.returns-then-i-n
returns-then-i-n c =
    let a = c.args in sym (pad_body a.head.now a.body.now a.i (omega arith) (omega arith))

pub returns-then-i-n-2 : goal.returns-then-i-n-2
returns-then-i-n-2 c =
    let a = c.args in sym (pad_one (a.head.now ++ a.body.now) a.i (rw length-append (omega arith)))

pub returns-else-i-n-2 : goal.returns-else-i-n-2
returns-else-i-n-2 c =
    let a = c.args in sym (pad_zero (a.head.now ++ a.body.now) a.i (rw length-append (omega arith)) (rw length-append (omega arith)))
