use native.Mathlib.Omega.{arith}
use native.Mathlib.Nat.{mul-le-mul}
use Rattle.octets.specs.Bytes.{pick}
use Rattle.octets.proofs.Picks.{picks}
use Rattle.table.proofs.Within.{within}
use Rattle.code_calls.specs.Encoding.{encode_refusal}
use Rattle.code_calls.proofs.may_encode.Goals as goal

pub overflow_mul-n : goal.overflow_mul-n
overflow_mul-n c = omega (arith, mul-le-mul (within _ c.args.b.within).few c.fragment_most.ensures.1)

pub returns-then-area-n : goal.returns-then-area-n
unfolding encode_refusal pick
returns-then-area-n c = rw (c.args.b.within, ← c.fragment_most.ensures.0) (search picks)

pub returns-then-root-lt32 : goal.returns-then-root-lt32
unfolding encode_refusal pick
returns-then-root-lt32 c = rw (c.args.b.within, ← c.fragment_most.ensures.0) (search picks)

pub overflow_mul-n-2 : goal.overflow_mul-n-2
overflow_mul-n-2 c = omega (arith, (within _ c.args.b.within).few)

pub returns-then-paths-n : goal.returns-then-paths-n
unfolding encode_refusal pick
returns-then-paths-n c = rw (c.args.b.within, ← c.fragment_most.ensures.0) (search picks depth 8)

pub returns-then-b-message : goal.returns-then-b-message
unfolding encode_refusal pick
returns-then-b-message c = rw (c.args.b.within, ← c.fragment_most.ensures.0) (search picks depth 8)

pub returns : goal.returns
unfolding encode_refusal pick
returns c = rw (c.args.b.within, ← c.fragment_most.ensures.0) (search picks depth 8)
