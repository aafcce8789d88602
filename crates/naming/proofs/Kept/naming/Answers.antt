use Rattle.octets.proofs.SetLaws.{whole, set_of_small, set_of_turn, set_of_none}
use mathlib.Core.Path.{◌∙◌, sym}
use Prim.Native.Nat.{◌<◌}
use native.Mathlib.Omega.{arith}
use Rattle.octets.specs.Sets.{set_of}
use Rattle.state.specs.Sound.{naming}
use Rattle.state.proofs.Flags.{byte_bit, bit_small}
use Rattle.naming.proofs.Kept.naming.Goals as goal

pub loop-i-init : goal.loop-i-init
loop-i-init c = (omega arith, sym (set_of_none _ _ _ (omega arith)))

-- before a turn the set has room for a bit more
pub overflow_mul-found : goal.overflow_mul-found
overflow_mul-found c =
    let small : c.loop-i.found < 9223372036854775808 = rw c.loop-i.invariant.1 (set_of_small _ _ _ c.loop-i-test.true c.args.self.now.few) in
    omega arith

pub overflow_add-found : goal.overflow_add-found
overflow_add-found c =
    let small : c.loop-i.found < 9223372036854775808 = rw c.loop-i.invariant.1 (set_of_small _ _ _ c.loop-i-test.true c.args.self.now.few) in
    omega (arith, byte_bit c.names.result, bit_small c.names.result)

pub loop-i-preserved : goal.loop-i-preserved
loop-i-preserved c = (omega arith, rw (c.from.ensures, byte_bit, c.names.ensures, c.loop-i.invariant.1) (set_of_turn _ _ _ c.loop-i-test.true c.loop-i.invariant.0))

pub returns : goal.returns
unfolding naming
returns c = c.loop-i.invariant.1 ∙ whole (set_of _) _ _ c.loop-i-test.false

pub names-requires : goal.names-requires
names-requires c =
    let w = c.args.self.now.few in omega arith
