-- `code_encode::add_bit` meets its contract.
-- Assumes nothing.
use mathlib.Core.Path.{◌≡◌, subst}
use mathlib.Core.List.{List}
use Prim.Native.Nat.{ℕ, ◌+◌, ◌*◌}
use native.Mathlib.Omega.{arith}
use lib.ListN.{length, get_or, take, length-take}
use lib.Seq.{take_all}
use Rattle.field.specs.Field.{add}
use Rattle.code_encode.specs.Patch.{Filled}
use Rattle.code_encode.proofs.Patches.{filled_same, filled_as}
use Rattle.code_encode.proofs.Sums.{bit_zero, bit_one}
use Rattle.code_encode.proofs.add_bit.Goals as goal

pub returns-then-bit-eq0 : goal.returns-then-bit-eq0
returns-then-bit-eq0 c =
    let a = c.args in
    let z : a.bit ≡ 0 = omega arith in
    filled_same a.from (length a.src.now) (λ d. add (get_or a.area.now (a.from + d) 0) (a.bit * get_or a.src.now d 0)) a.area.now (λ d h. bit_zero a.bit (get_or a.area.now (a.from + d) 0) (get_or a.src.now d 0) z)

pub slice_bounds-add_in-end : goal.slice_bounds-add_in-end
slice_bounds-add_in-end c = simp length-take (omega arith)

pub add_in-requires : goal.add_in-requires
add_in-requires c = simp length-take (omega (arith, c.requires.0))

pub returns-then-src-eq-COLUMN : goal.returns-then-src-eq-COLUMN
returns-then-src-eq-COLUMN c =
    let a = c.args in let one : a.bit ≡ 1 = omega arith in let old = a.area.now in let src = a.src.now in
    let all : take 128 src ≡ src = take_all 128 src (omega arith) in
    let w = subst (λ (l : List ℕ). Filled a.from (length l) (λ d. add (get_or old (a.from + d) 0) (get_or l d 0)) old c.add_in.new.area) all c.add_in.ensures in
    filled_as a.from (length src) (λ d. add (get_or old (a.from + d) 0) (get_or src d 0)) (λ d. add (get_or old (a.from + d) 0) (a.bit * get_or src d 0)) old c.add_in.new.area w (λ d h. bit_one a.bit (get_or old (a.from + d) 0) (get_or src d 0) one)
