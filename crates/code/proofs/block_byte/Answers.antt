-- `code::block_byte` meets its contract.
-- Assumes nothing.
use mathlib.Core.Path.{sym, ap, ◌∙◌}
use mathlib.Core.List.{◌++◌}
use Prim.Native.Nat.{ℕ}
use native.Mathlib.Omega.{arith}
use lib.ListN.{length, get_or, get_or-eq_default}
use Rattle.code.specs.Block.{header}
use Rattle.code.proofs.Blocks.{byte_early, byte_2, byte_3, byte_later}
use Rattle.code.proofs.block_byte.Goals as goal

pub returns-then-j-lt2 : goal.returns-then-j-lt2
returns-then-j-lt2 c = byte_early (length c.args.message.now) c.args.message.now c.args.j (omega arith) (omega arith)

pub returns-then-j-eq2 : goal.returns-then-j-eq2
returns-then-j-eq2 c =
    let a = c.args in
    byte_2 (length a.message.now) a.message.now ∙ ap (λ (j : ℕ). get_or (header (length a.message.now) ++ a.message.now) j 0) (sym c.if-j-eq2.true)

pub returns-then-j-eq3 : goal.returns-then-j-eq3
returns-then-j-eq3 c =
    let a = c.args in
    byte_3 (length a.message.now) a.message.now ∙ ap (λ (j : ℕ). get_or (header (length a.message.now) ++ a.message.now) j 0) (sym c.if-j-eq3.true)

pub returns-then-at-m : goal.returns-then-at-m
returns-then-at-m c =
    let a = c.args in
    byte_later (length a.message.now) a.message.now a.j (omega arith)

pub returns : goal.returns
returns c =
    let a = c.args in
    sym (get_or-eq_default a.message.now 0 (omega arith)) ∙ byte_later (length a.message.now) a.message.now a.j (omega arith)
