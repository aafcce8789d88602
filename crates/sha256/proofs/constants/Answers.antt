-- `sha256::constants` meets its contract. Assumes nothing.
use Rattle.std.proofs.Common.{◌≡◌, ℕ, ◌*◌, sym, ap, arith}
use Rattle.octets.specs.Bytes.{part}
use Rattle.sha256.specs.Tables.{K}
use Rattle.sha256.proofs.constants.Goals as goal

pub returns-in-0 : goal.returns-in-0
unfolding part K
returns-in-0 c =
    let e : c.args.q ≡ 0 = omega arith in ap (λ (n : ℕ). part (8 * n) 8 K) (sym e)

pub returns-in-1 : goal.returns-in-1
unfolding part K
returns-in-1 c =
    let e : c.args.q ≡ 1 = omega arith in ap (λ (n : ℕ). part (8 * n) 8 K) (sym e)

pub returns-in-2 : goal.returns-in-2
unfolding part K
returns-in-2 c =
    let e : c.args.q ≡ 2 = omega arith in ap (λ (n : ℕ). part (8 * n) 8 K) (sym e)

pub returns-in-3 : goal.returns-in-3
unfolding part K
returns-in-3 c =
    let e : c.args.q ≡ 3 = omega arith in ap (λ (n : ℕ). part (8 * n) 8 K) (sym e)

pub returns-in-4 : goal.returns-in-4
unfolding part K
returns-in-4 c =
    let e : c.args.q ≡ 4 = omega arith in ap (λ (n : ℕ). part (8 * n) 8 K) (sym e)

pub returns-in-5 : goal.returns-in-5
unfolding part K
returns-in-5 c =
    let e : c.args.q ≡ 5 = omega arith in ap (λ (n : ℕ). part (8 * n) 8 K) (sym e)

pub returns-in-6 : goal.returns-in-6
unfolding part K
returns-in-6 c =
    let e : c.args.q ≡ 6 = omega arith in ap (λ (n : ℕ). part (8 * n) 8 K) (sym e)

pub returns-in_default : goal.returns-in_default
unfolding part K
returns-in_default c =
    let e : c.args.q ≡ 7 = omega arith in ap (λ (n : ℕ). part (8 * n) 8 K) (sym e)
