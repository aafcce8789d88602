-- `sha256_strings::pad_byte` meets its contract. Assumes nothing.
use mathlib.Core.Path.{◌≡◌, refl, sym, ◌∙◌, ap}
use mathlib.Core.List.{List}
use lib.ListN.{get_or}
use Rattle.std.specs.Int.{w64, to_be_bytes}
use native.Mathlib.Omega.{arith}
use Prim.Native.Nat.{ℕ, zero, suc, ◌*◌, ◌/◌, ◌-◌, ◌<◌}
use Rattle.sha256.specs.Sha256.{byte_of}
use Rattle.sha256.proofs.Padding.{tail, length_pad, pad_one, pad_zero, pad_length}
use Rattle.sha256_strings.proofs.pad_byte.Goals as goal

be_byte : (x j : ℕ) → j < 8 → get_or (to_be_bytes w64 x) j 0 ≡ byte_of 8 x j
unfolding byte_of
be_byte x zero h = refl
be_byte x (suc zero) h = refl
be_byte x (suc (suc zero)) h = refl
be_byte x (suc (suc (suc zero))) h = refl
be_byte x (suc (suc (suc (suc zero)))) h = refl
be_byte x (suc (suc (suc (suc (suc zero))))) h = refl
be_byte x (suc (suc (suc (suc (suc (suc zero)))))) h = refl
be_byte x (suc (suc (suc (suc (suc (suc (suc zero))))))) h = let e : x / 1 ≡ x = omega arith in rw e
be_byte x (suc (suc (suc (suc (suc (suc (suc (suc j)))))))) h = absurd (omega arith)

pub returns-then-i-n : goal.returns-then-i-n
returns-then-i-n c = λ m e. sym (pad_one m c.args.i (omega arith))

pub returns-then-i-tail : goal.returns-then-i-tail
returns-then-i-tail c = λ m e. sym (pad_zero m c.args.i (omega arith) (omega arith))

pub returns : goal.returns
returns c =
    let a = c.args in
    λ m e.
    ap (λ (l : List ℕ). get_or l (a.i - tail a.n) 0) c.to_be_bytes.ensures ∙ be_byte (8 * a.n) (a.i - tail a.n) (omega arith)
    ∙ ap (λ (n : ℕ). byte_of 8 (8 * n) (a.i - tail n)) (sym e) ∙ sym (pad_length m a.i (omega arith) (omega (arith, length_pad m)))
