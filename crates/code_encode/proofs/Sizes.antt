-- How long a message's fragments are.
-- Assumes nothing.
use mathlib.Core.Path.{◌≡◌}
use mathlib.Core.List.{List}
use Prim.Native.Nat.{ℕ, suc, ◌+◌, ◌-◌, ◌/◌, ◌<◌, ◌≤◌}
use native.Mathlib.Nat as N
use native.Mathlib.Omega.{arith}
use lib.ListN.{length}
use Rattle.table.specs.Table.{k_of, s_max}
use Rattle.table.specs.declared.Table.{Table}
use Rattle.code.specs.Block.{rows}
use Rattle.code.proofs.Blocks.{length_fragment}
use Rattle.code_encode.specs.Message.{fragment_for}

-- the fragments of a message of at most L bytes fit into s_max
pub rows_most : (b : Table) (m : ℕ) → 0 < k_of b → m ≤ b.longest → rows (k_of b) m ≤ s_max b
unfolding rows s_max
rows_most b m pos h =
    let x = m + 4 + (k_of b - 1) in
    (N.le-div_iff_mul-le {k = k_of b} {x = x / k_of b} pos).1 (omega (arith, N.div-add-mod' x (k_of b)))

-- all fragments have a byte for each row
pub fragment_length : (b : Table) (message : List ℕ) (i : ℕ) → 0 < k_of b → length (fragment_for b message i) ≡ rows (k_of b) (length message)
unfolding fragment_for
fragment_length b message i pos = length_fragment (k_of b) pos message (suc i)
